-- The order of a message's fields.
use Rattle.std.specs.Prelude.{ℕ, ◌<◌, List}
use Rattle.mrpc_table.specs.Normal.{fields_of}
use Rattle.mrpc_table.specs.declared.table.Table.{Table}
use Rattle.mrpc_table.specs.Valid.{IsAscendingBy}
use Rattle.mrpc_table.specs.declared.table.Field.{Field}

-- fields by ascending number
abbrev pub AreFieldsAscending : List Field → Type 0
AreFieldsAscending fs = IsAscendingBy (λ f g. f.number < g.number) fs

-- the fields of each message of the table ascend
pub record AreAllFieldsAscending (T : Table) : Type 0 where
  pub each : (i : ℕ) → AreFieldsAscending (fields_of T i)
