-- The code's own: the invariant of a table with a heap.
use Rattle.std.specs.Prelude.{◌≡◌, ℕ, ◌<◌, length}
use Rattle.mrpc_table.specs.Valid.{IsValid}
use Rattle.mrpc_table.specs.declared.table.Table.{Table}

-- the table has a first message, and the heap 256 words
pub record IsScene (T : Table) (size : ℕ) : Type 0 where
  pub valid : IsValid T
  pub first : 0 < length T.messages
  pub words : size ≡ 256
