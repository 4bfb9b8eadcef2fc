-- The message that the records of a byte string are merged to, as the reader does it. It first reads the contents of
-- the records, each by itself, and then merges each field's own contents.
use Rattle.std.specs.Prelude.{◌-◌, ◌≡◌, ℕ, List}
use Rattle.mrpc_table.specs.Node.{Node}
use Rattle.mrpc_table.specs.Normal.{fields_of}
use Rattle.mrpc_table.specs.declared.limits.TheConstants.{MAX_DEPTH}
use Rattle.mrpc_table.specs.declared.table.Table.{Table}
use Rattle.wire_decode.specs.Merged.{merged}
use Rattle.wire_decode.specs.RawMessages.{IsRawMessage}

pub record IsMergedMessage (T : Table) (msg : ℕ) (bytes : List ℕ) (t : Node) : Type 0 where
  pub raw : Node
  pub reads : IsRawMessage T (MAX_DEPTH - 1) (fields_of T msg) bytes 0 raw
  pub value : t ≡ merged T MAX_DEPTH msg raw
