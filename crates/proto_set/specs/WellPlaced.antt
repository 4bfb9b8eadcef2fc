-- Files that can be joined.
use Rattle.std.specs.Prelude.{◌≡◌, ℕ, ◌<◌, List, length, Some, slice_get, All, Contains}
use Rattle.proto_ast.specs.Order.{IsFormed, IsOrdered}
use Rattle.proto_set.specs.declared.linked_file.LinkedFile.{LinkedFile}
use Rattle.proto_ast.specs.Within.{IsWithin}

-- A file with an index among this many: it is well-formed and in order, and lies within its text. It sees itself, and
-- only files that exist.
pub record IsWellPlaced (files place : ℕ) (p : LinkedFile) : Type 0 where
  pub formed : IsFormed p.file
  pub ordered : IsOrdered p.file
  pub within : IsWithin p.size p.file
  pub itself : Contains p.sees place
  pub there : All (λ j. j < files) p.sees

pub record AreWellPlaced (ps : List LinkedFile) : Type 0 where
  pub each : (k : ℕ) (p : LinkedFile) → slice_get ps k ≡ Some p → IsWellPlaced (length ps) k p
