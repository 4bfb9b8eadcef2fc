-- What a byte string means as a message of a table (Protocol Buffers, "Encoding").
use Rattle.std.specs.Prelude.{◌-◌, ℕ, List}
use Rattle.mrpc_table.specs.Node.{Node}
use Rattle.mrpc_table.specs.Normal.{fields_of}
use Rattle.mrpc_table.specs.declared.limits.TheConstants.{MAX_DEPTH}
use Rattle.mrpc_table.specs.declared.table.Table.{Table}
use Rattle.wire_decode.specs.Meaning.{MeansIn}

-- the message at an index of the table that the bytes mean; messages nest at most MAX_DEPTH levels deep, the outermost
-- included
pub record Means (T : Table) (msg : ℕ) (bytes : List ℕ) (t : Node) : Type 0 where
  pub meaning : MeansIn T (MAX_DEPTH - 1) (fields_of T msg) bytes t
