-- Which imports of a set are at fault, and which of them is the first.
use Rattle.std.specs.Prelude.{◌≡◌, ℕ, ◌<◌, ◌≤◌, List}
use Rattle.proto_ast.specs.declared.file.Span.{Span}
use Rattle.proto_ast.specs.declared.file.Import.{Import}
use Rattle.proto_set.specs.Importing.{HasImport, HasPath}
use Rattle.proto_set.specs.Visiting.{at_cycle, IsRootVisit}
use Rattle.proto_set.specs.declared.set.ParsedFile.{ParsedFile}
use Rattle.proto_set.specs.declared.import_fault.ImportReason.{ImportReason}
use Rattle.proto_set.specs.declared.import_fault.ImportReason.TheVariants.{Missing, Twice, Cycle}
use Rattle.proto_set.specs.declared.import_fault.ImportFault.{ImportFault}
use Rattle.proto_set.specs.declared.import_fault.ImportFault.TheVariants as fault

-- the n-th import of file i is at fault, even if the root doesn't reach that file
pub data IsImportFault (set : List ParsedFile) : ImportReason → ℕ → ℕ → Type 0 where
  -- no file of the set has its path
  missing : {i n : ℕ} (x : Import) → HasImport set i n x → ((j : ℕ) → HasPath set j x.path → ⊥)
      → IsImportFault set Missing i n
  -- an earlier import of the same file has the same path
  twice : {i k n : ℕ} (x y : Import) → k < n → HasImport set i k x → HasImport set i n y → x.path ≡ y.path
      → IsImportFault set Twice i n
  -- it closes a cycle in a visit of the root
  cycle : {i n : ℕ} → IsRootVisit set (at_cycle i n) → IsImportFault set Cycle i n

-- the order of the reasons
abbrev pub import_reason_rank : ImportReason → ℕ
import_reason_rank Missing = 1
import_reason_rank Twice = 2
import_reason_rank Cycle = 3

-- ordered by reason, then by file, then by statement
pub data IsNoLaterFault (q : ImportReason) (i n : ℕ) (r : ImportReason) (j m : ℕ) : Type 0 where
  by_reason : import_reason_rank q < import_reason_rank r → IsNoLaterFault q i n r j m
  by_file : q ≡ r → i < j → IsNoLaterFault q i n r j m
  by_statement : q ≡ r → i ≡ j → n ≤ m → IsNoLaterFault q i n r j m

-- the first fault of a set: its reason, the file i, and the span of the import's path
pub record HasImportFault (set : List ParsedFile) (q : ImportReason) (i : ℕ) (span : Span) : Type 0 where
  pub n : ℕ
  pub import : Import
  pub import_at : HasImport set i n import
  pub span_is : span ≡ import.span
  pub at_fault : IsImportFault set q i n
  pub first : (r : ImportReason) (j m : ℕ) → IsImportFault set r j m → IsNoLaterFault q i n r j m

-- no import is at fault
abbrev pub HasNoFault : List ParsedFile → Type 0
HasNoFault set = (q : ImportReason) (i n : ℕ) → IsImportFault set q i n → ⊥

-- what a fault means for a set; `Memory` means nothing
abbrev pub IsFaultOf : List ParsedFile → ImportFault → Type 0
IsFaultOf set (fault.At q i span) = HasImportFault set q i span
IsFaultOf set fault.Memory = Unit {0}
