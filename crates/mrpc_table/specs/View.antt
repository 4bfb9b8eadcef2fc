-- The data that a tree represents.
use Rattle.std.specs.Prelude.{ℕ, List, [], ◌∷◌}
use Rattle.mrpc_table.specs.Node.{Node, no_fields, field, Content, one, many, pairs, Item, number, run, node, Items, no_items, item, Pairs, no_pairs, pair}
use Rattle.mrpc_table.specs.declared.tree.FieldValue.{FieldValue}
use Rattle.mrpc_table.specs.declared.tree.FieldValue.TheVariants.{One, Many, Pairs as ThePairs}
use Rattle.mrpc_table.specs.declared.tree.Value.{Value}
use Rattle.mrpc_table.specs.declared.tree.Value.TheVariants.{Number, Run, Node as TheNode}

abbrev pub item_of : Value → Item
item_of (Number n) = number n
item_of (Run bytes) = run bytes
item_of (TheNode t) = node t

abbrev pub items_of : List Value → Items
items_of [] = no_items
items_of (v ∷ vs) = item (item_of v) (items_of vs)

abbrev pub pairs_of : List (Value × Value) → Pairs
pairs_of [] = no_pairs
pairs_of (p ∷ ps) = pair (item_of p.0) (item_of p.1) (pairs_of ps)

abbrev pub content_of : FieldValue → Content
content_of (One v) = one (item_of v)
content_of (Many vs) = many (items_of vs.items)
content_of (ThePairs ps) = pairs (pairs_of ps.items)

abbrev pub node_of : List (ℕ × FieldValue) → Node
node_of [] = no_fields
node_of (f ∷ fs) = field f.0 (content_of f.1) (node_of fs)
