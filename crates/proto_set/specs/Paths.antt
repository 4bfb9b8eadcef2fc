-- The paths of files: at most 255 letters, digits, `_`, `-`, `.` and `/`, all paths distinct.
use Rattle.std.specs.Prelude.{◌≡◌, ◌≢◌, ℕ, ◌≤◌, ◌==◌, Bool, ◌||◌, IsTrue}
use Rattle.std.specs.Prelude.{List, ◌∷◌, ◌++◌, length, All, AllPairs, Contains}
use Rattle.std.specs.List.{list_all}
use Rattle.mrpc_table.specs.Names.{is_name_byte}
use Rattle.proto_set.specs.Bundle.{BundledFile, paths_of}
use Rattle.proto_set.specs.declared.limits.TheConstants.{MAX_PATH}

-- a letter, a digit, `_`, `-`, `.` or `/`
abbrev pub is_path_byte : ℕ → Bool
is_path_byte c = is_name_byte c || (c == 45 || (c == 46 || c == 47))

pub record IsPath (path : List ℕ) : Type 0 where
  pub some : 1 ≤ length path
  pub short : length path ≤ MAX_PATH
  pub form : IsTrue (list_all is_path_byte path)

-- the paths of these files are valid
pub record HaveValidPaths (files : List BundledFile) : Type 0 where
  pub each : All IsPath (paths_of files)
  pub distinct : AllPairs (λ path later. later ≢ path) (paths_of files)

-- a path is rejected after these files: it is invalid, or one of them has it
pub data IsRejectedPath (before : List BundledFile) (path : List ℕ) : Type 0 where
  no_path : (IsPath path → ⊥) → IsRejectedPath before path
  second : Contains (paths_of before) path → IsRejectedPath before path

-- the path of the file at this index, from 0, is the first that is rejected
pub record IsFirstRejected (files : List BundledFile) (place : ℕ) : Type 0 where
  pub before : List BundledFile
  pub file : BundledFile
  pub later : List BundledFile
  pub order : files ≡ before ++ file ∷ later
  pub right : HaveValidPaths before
  pub refused : IsRejectedPath before file.0
  pub number : place ≡ length before
