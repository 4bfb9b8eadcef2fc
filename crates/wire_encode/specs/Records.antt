-- The code's own: the records that the writer writes, one at a time.
use Rattle.std.specs.Prelude.{ℕ, List, ◌++◌}
use Rattle.mrpc_table.specs.Node.{Item}
use Rattle.mrpc_table.specs.declared.table.Kind.{Kind}
use Rattle.mrpc_table.specs.declared.table.Table.{Table}
use Rattle.mrpc_table.specs.WireTypes.{wire_len, wire_type_of}
use Rattle.wire_base.specs.Encoding.{tag, delimited, item_bytes}

-- the record of one value
abbrev pub record_bytes : Table → ℕ → Kind → Item → List ℕ
record_bytes T n k i = tag n (wire_type_of k) ++ item_bytes T k i

-- the record of one entry
abbrev pub entry_bytes : Table → ℕ → Kind → Kind → Item → Item → List ℕ
entry_bytes T n key k i j = tag n wire_len ++ delimited (record_bytes T 1 key i ++ record_bytes T 2 k j)
