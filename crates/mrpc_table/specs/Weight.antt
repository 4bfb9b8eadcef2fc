-- The number of parts of a message, which is larger than that of each message in it.
use Rattle.std.specs.Prelude.{ℕ, ◌+◌}
use Rattle.mrpc_table.specs.Node.{Node, no_fields, field, Content, one, many, pairs, Item, number, run, node, Items, no_items, item, Pairs, no_pairs, pair}

-- the number of parts of a tree
abbrev mutual
  pub weight : Node → ℕ
  weight no_fields = 1
  weight (field n c t) = 1 + content_weight c + weight t

  pub content_weight : Content → ℕ
  content_weight (one i) = item_weight i
  content_weight (many is) = items_weight is
  content_weight (pairs ps) = pairs_weight ps

  pub item_weight : Item → ℕ
  item_weight (number n) = 1
  item_weight (run bs) = 1
  item_weight (node t) = 1 + weight t

  pub items_weight : Items → ℕ
  items_weight no_items = 0
  items_weight (item i is) = item_weight i + items_weight is

  pub pairs_weight : Pairs → ℕ
  pairs_weight no_pairs = 0
  pairs_weight (pair k v ps) = item_weight k + item_weight v + pairs_weight ps
