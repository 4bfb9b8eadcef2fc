-- The code's own: what is stored about the imports of a set: the indices of files by path, and the links of each
-- file.
use Rattle.std.specs.Prelude.{◌≡◌, ◌≢◌, ℕ, ◌<◌, List, Option, Some, slice_get, length, MatchOption}
use Rattle.std.specs.Ordering.{nat_cmp}
use Rattle.std.specs.Cmp.Lexicographic.{slice_cmp}
use Rattle.std.specs.BTreeMap.{get_by}
use Rattle.proto_ast.specs.declared.file.Import.{Import}
use Rattle.proto_set.specs.Importing.{HasImport, HasPath, IsImport}
use Rattle.proto_set.specs.ImportFaults.{IsImportFault}
use Rattle.proto_set.specs.declared.set.ParsedFile.{ParsedFile}
use Rattle.proto_set.specs.declared.import_fault.ImportReason.{ImportReason}
use Rattle.proto_set.specs.declared.import_fault.ImportFault.{ImportFault}
use Rattle.proto_set.specs.declared.import_fault.ImportFault.TheVariants as fault
use Rattle.proto_set.specs.declared.paths.Paths.{Paths}
use Rattle.proto_set.specs.declared.links.ImportLink.{ImportLink}
use Rattle.proto_set.specs.declared.links.Graph.TheInside.{Inside}

abbrev pub index_of_path : Paths → List ℕ → Option ℕ
index_of_path paths path = get_by (λ key. slice_cmp nat_cmp path key.now) paths.by

-- the indices of the files of a set, by path
pub record KnowsPaths (set : List ParsedFile) (paths : Paths) : Type 0 where
  pub each : (path : List ℕ) → MatchOption (index_of_path paths path) ((j : ℕ) → HasPath set j path → ⊥)
      (λ j. HasPath set j path)

-- each import leads to a file
abbrev pub AllResolve : List ParsedFile → Type 0
AllResolve set = (i n : ℕ) (x : Import) → HasImport set i n x → (j : ℕ) × IsImport set i n j

-- no import of a file is at fault for this reason
abbrev pub HasNoFaultOfAt : List ParsedFile → ImportReason → ℕ → Type 0
HasNoFaultOfAt set q i = (n : ℕ) → IsImportFault set q i n → ⊥

-- no import of the set is at fault for this reason
abbrev pub HasNoFaultOf : List ParsedFile → ImportReason → Type 0
HasNoFaultOf set q = (i : ℕ) → HasNoFaultOfAt set q i

-- the first import of a file that is at fault for this reason
pub record IsFirstFaultOfFile (set : List ParsedFile) (q : ImportReason) (i : ℕ) (e : ImportFault) : Type 0 where
  pub n : ℕ
  pub import : Import
  pub import_at : HasImport set i n import
  pub is : e ≡ fault.At q i import.span
  pub at_fault : IsImportFault set q i n
  pub first : (m : ℕ) → m < n → IsImportFault set q i m → ⊥

-- the first such import, unless memory ran out
abbrev pub IsFirstOrMemory : List ParsedFile → ImportReason → ℕ → ImportFault → Type 0
IsFirstOrMemory set q i e = e ≢ fault.Memory → IsFirstFaultOfFile set q i e

-- the link of the n-th import of file i
pub record IsLink (set : List ParsedFile) (i n : ℕ) (l : ImportLink) : Type 0 where
  pub leads : IsImport set i n l.file
  pub is_public : l.public ≡ leads.import.public

-- the links of the imports of file i
pub record AreLinks (set : List ParsedFile) (i : ℕ) (links : List ImportLink) : Type 0 where
  pub each : (n : ℕ) (l : ImportLink) → slice_get links n ≡ Some l → IsLink set i n l
  pub all : (n : ℕ) (x : Import) → HasImport set i n x → n < length links

-- the links of the imports of each file of a set
pub record AreLinksOfSet (set : List ParsedFile) (all : List (List ImportLink)) : Type 0 where
  pub count : length all ≡ length set
  pub each : (i : ℕ) (links : List ImportLink) → slice_get all i ≡ Some links → AreLinks set i links

abbrev pub AreOf : Inside → Type 0
AreOf g = AreLinksOfSet g.members.now g.links.items
