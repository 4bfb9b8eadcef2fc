-- The records of an encoding: the contents of a tree, one for each record.
use Rattle.std.proofs.Common.{ℕ, List, cond}
use Rattle.mrpc_table.specs.Node.{Node, no_fields, field, Content, one, many, pairs, Item, number, run, node, Items, no_items, item, Pairs, no_pairs, pair}
use Rattle.mrpc_table.specs.Normal.{fields_of, kind_at, label_at}
use Rattle.mrpc_table.specs.declared.table.Kind.{Kind}
use Rattle.mrpc_table.specs.declared.table.Field.{Field}
use Rattle.mrpc_table.specs.declared.table.Table.{Table}
use Rattle.wire_base.specs.Encoding.{is_packed}
use Rattle.mrpc_table.specs.Words.{key_kind, nested_message}
use Rattle.wire_decode.specs.Merged.{join_fields}

abbrev mutual
  pub raw_fields : Table → List Field → Node → Node
  raw_fields T fs no_fields = no_fields
  raw_fields T fs (field n c t) = join_fields (raw_content T fs n c) (raw_fields T fs t)

  pub raw_content : Table → List Field → ℕ → Content → Node
  raw_content T fs n (one i) = field n (one (raw_item T (kind_at fs n) i)) no_fields
  raw_content T fs n (many is) = cond (is_packed (label_at fs n)) (field n (many is) no_fields) (raw_records T n (kind_at fs n) is)
  raw_content T fs n (pairs ps) = raw_entries T n (key_kind (label_at fs n)) (kind_at fs n) ps

  pub raw_item : Table → Kind → Item → Item
  raw_item T k (number n) = number n
  raw_item T k (run bytes) = run bytes
  raw_item T k (node t) = node (raw_fields T (fields_of T (nested_message k)) t)

  pub raw_records : Table → ℕ → Kind → Items → Node
  raw_records T n k no_items = no_fields
  raw_records T n k (item i is) = field n (one (raw_item T k i)) (raw_records T n k is)

  pub raw_entries : Table → ℕ → Kind → Kind → Pairs → Node
  raw_entries T n key k no_pairs = no_fields
  raw_entries T n key k (pair i j ps) = field n (one (node (field 1 (one (raw_item T key i)) (field 2 (one (raw_item T k j)) no_fields)))) (raw_entries T n key k ps)
