-- The content of a field in a tree, from the items that its values mean.
use Rattle.std.specs.Prelude.{◌==◌, ℕ, Bool, true, false, List, [], ◌∷◌, Option, Some, None, if◌then◌else◌}
use Rattle.mrpc_table.specs.Node.{Node, no_fields, field, Content, one, many, pairs, Item, number, run, node, Items, no_items, item, Pairs, no_pairs, pair}
use Rattle.mrpc_table.specs.declared.table.Kind.{Kind}
use Rattle.mrpc_table.specs.declared.table.Kind.TheVariants.{Text, Octets, Message as OfMessage}
use Rattle.mrpc_table.specs.declared.table.Label.{Label}
use Rattle.mrpc_table.specs.declared.table.Label.TheVariants.{Plain}

-- whether an item is the number 0, or an empty run
abbrev pub is_default_item : Item → Bool
is_default_item (number n) = n == 0
is_default_item (run []) = true
is_default_item (run (b ∷ bs)) = false
is_default_item (node t) = false

-- the default of a kind, which replaces a missing key or value of a map's entry
abbrev pub default_item_of : Kind → Item
default_item_of Text = run []
default_item_of Octets = run []
default_item_of (OfMessage i) = node no_fields
default_item_of _ = number 0

-- the content of a field with explicit presence: its item, if there is one
abbrev pub present : Option Item → Option Content
present None = None
present (Some i) = Some (one i)

-- the content of a field with implicit presence: a default is left out
abbrev pub present_if_set : Option Item → Option Content
present_if_set None = None
present_if_set (Some i) = if is_default_item i then None else Some (one i)

-- the content of a singular field with this item
abbrev pub single_content : Label → Item → Option Content
single_content Plain i = present_if_set (Some i)
single_content _ i = present (Some i)

-- a list as the items of a tree
abbrev pub items_from : List Item → Items
items_from [] = no_items
items_from (i ∷ is) = item i (items_from is)

-- the content of a repeated field: its elements, if there are any
abbrev pub some_items : List Item → Option Content
some_items [] = None
some_items (i ∷ is) = Some (many (items_from (i ∷ is)))

-- the content of a map: its entries, if there are any
abbrev pub some_pairs : Pairs → Option Content
some_pairs no_pairs = None
some_pairs (pair k v ps) = Some (pairs (pair k v ps))

-- a field before others, if it has a content
abbrev pub with_content : ℕ → Option Content → Node → Node
with_content n None t = t
with_content n (Some c) t = field n c t
