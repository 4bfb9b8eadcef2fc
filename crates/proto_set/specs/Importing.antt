-- The imports among the files of a set (Protocol Buffers, proto3 language guide, "Importing Definitions"). A file is
-- given by its index in the set, and an import by its index among those of its file, both from 0. The root is file 0.
use Rattle.std.specs.Prelude.{◌≡◌, ℕ, true, List, Some, slice_get}
use Rattle.proto_ast.specs.declared.file.Import.{Import}
use Rattle.proto_set.specs.declared.set.ParsedFile.{ParsedFile}

-- the n-th import of file i
pub record HasImport (set : List ParsedFile) (i n : ℕ) (x : Import) : Type 0 where
  pub member : ParsedFile
  pub member_at : slice_get set i ≡ Some member
  pub import_at : slice_get member.file.imports n ≡ Some x

-- file j has this path
pub record HasPath (set : List ParsedFile) (j : ℕ) (path : List ℕ) : Type 0 where
  pub member : ParsedFile
  pub member_at : slice_get set j ≡ Some member
  pub path_is : member.path ≡ path

-- the n-th import of file i has the path of file j
pub record IsImport (set : List ParsedFile) (i n j : ℕ) : Type 0 where
  pub import : Import
  pub import_at : HasImport set i n import
  pub path_at : HasPath set j import.path

-- the n-th import of file i has the path of file j and is public
pub record IsPublicImport (set : List ParsedFile) (i n j : ℕ) : Type 0 where
  pub leads : IsImport set i n j
  pub is_public : leads.import.public ≡ true

-- a file reaches itself, and every file that an import of a reached file leads to
pub data IsReachable (set : List ParsedFile) (i : ℕ) : ℕ → Type 0 where
  here : IsReachable set i i
  onward : {j n k : ℕ} → IsReachable set i j → IsImport set j n k → IsReachable set i k

-- one or more imports lead from a file back to it
pub record IsInCycle (set : List ParsedFile) (i : ℕ) : Type 0 where
  pub n : ℕ
  pub j : ℕ
  pub leads : IsImport set i n j
  pub back : IsReachable set j i

-- a file sees itself, the files that its imports lead to, and the files that public imports of files that it sees
-- lead to
pub data IsVisible (set : List ParsedFile) (i : ℕ) : ℕ → Type 0 where
  itself : IsVisible set i i
  imported : {n j : ℕ} → IsImport set i n j → IsVisible set i j
  publicly : {j n k : ℕ} → IsVisible set i j → IsPublicImport set j n k → IsVisible set i k
