-- A message as data: its fields in order, each a number with the content of the field.
use Rattle.std.specs.Prelude.{ℕ, ◌<◌, ◌==◌, if◌then◌else◌, List, Option, Some, None}

mutual
  pub data Node : Type 0 where
    no_fields : Node
    field : ℕ → Content → Node → Node

  pub data Content : Type 0 where
    one : Item → Content
    many : Items → Content
    pairs : Pairs → Content

  pub data Item : Type 0 where
    number : ℕ → Item
    run : List ℕ → Item
    node : Node → Item

  pub data Items : Type 0 where
    no_items : Items
    item : Item → Items → Items

  pub data Pairs : Type 0 where
    no_pairs : Pairs
    pair : Item → Item → Pairs → Pairs

-- the content of a message's first field with a number
abbrev pub content_at : Node → ℕ → Option Content
content_at no_fields n = None
content_at (field m c t) n = if m == n then Some c else content_at t n

-- the numbers of a message's fields ascend, from above `last`
abbrev pub AreNumbersAscending : ℕ → Node → Type 0
AreNumbersAscending last no_fields = Unit {0}
AreNumbersAscending last (field n c t) = (last < n) × AreNumbersAscending n t

-- the fields with one more at the end
abbrev pub push_field : Node → ℕ → Content → Node
push_field no_fields n c = field n c no_fields
push_field (field m d t) n c = field m d (push_field t n c)

-- the items with one more at the end
abbrev pub push_item : Items → Item → Items
push_item no_items i = item i no_items
push_item (item j js) i = item j (push_item js i)

-- the code's own: the pairs with one more at the end
abbrev pub push_pair : Pairs → Item → Item → Pairs
push_pair no_pairs k v = pair k v no_pairs
push_pair (pair l w ps) k v = pair l w (push_pair ps k v)
