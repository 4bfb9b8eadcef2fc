-- The tree of a placed tree: its values without their places, in normal form.
use Rattle.std.specs.Prelude.{ℕ, ◌-◌, List, [], ◌∷◌, ◌++◌, take, Option, Some, None, if◌then◌else◌, ◌==◌, nat_lt}
use Rattle.mrpc_table.specs.Node.{Node, no_fields, field, Content, one, many, pairs, Item, number, run, node, Items, no_items, item}
use Rattle.mrpc_table.specs.Normal.{fields_of, kind_at}
use Rattle.mrpc_table.specs.MapEntries.{last_of_each}
use Rattle.mrpc_table.specs.declared.table.Kind.{Kind}
use Rattle.mrpc_table.specs.declared.table.Kind.TheVariants.{Text, Octets, Message as OfMessage}
use Rattle.mrpc_table.specs.declared.table.Label.{Label}
use Rattle.mrpc_table.specs.declared.table.Label.TheVariants.{Optional, Repeated, Packed, Map}
use Rattle.mrpc_table.specs.declared.table.Field.{Field}
use Rattle.mrpc_table.specs.declared.table.Table.{Table}
use Rattle.graph_form.specs.Roles.{own_slots, word_bytes}
use Rattle.graph_form.specs.Placed.{Placed, nothing, first, Word, word}

-- the fields with one more, by ascending number
abbrev pub insert_field : ℕ → Content → Node → Node
insert_field n c no_fields = field n c no_fields
insert_field n c (field m d t) = if nat_lt n m then field n c (field m d t) else field m d (insert_field n c t)

abbrev pub with_field : ℕ → Option Content → Node → Node
with_field n None t = t
with_field n (Some c) t = insert_field n c t

-- the bytes of the words of a run
abbrev pub bytes_of_run : Placed → List ℕ
bytes_of_run nothing = []
bytes_of_run (first (word place v content) others) = word_bytes v ++ bytes_of_run content

-- the first `bytes` bytes of the run at an address word
abbrev pub run_at : ℕ → Placed → List ℕ
run_at bytes nothing = []
run_at bytes (first (word place v content) others) = take bytes (bytes_of_run content)

-- the number in a single word
abbrev pub single_number : Placed → ℕ
single_number nothing = 0
single_number (first (word place v content) others) = v

-- nothing if the first word of a slot is 0
abbrev pub unless_zero : ℕ → Content → Option Content
unless_zero v c = if v == 0 then None else Some c

-- the value of a plain slot that is no message: a number is the word itself, a run has its length and then its bytes
abbrev pub scalar_item : Kind → ℕ → Placed → Item
scalar_item Text v content = run (run_at v content)
scalar_item Octets v content = run (run_at v content)
scalar_item k v content = number v

-- the value of an optional slot: a presence word and then the number, or the length plus 1 and then the run
abbrev pub optional_item : Kind → ℕ → Placed → Item
optional_item Text v content = run (run_at (v - 1) content)
optional_item Octets v content = run (run_at (v - 1) content)
optional_item k v content = number (single_number content)

abbrev mutual
  -- the fields of these slots, then the members of the oneofs of the fields `fs`
  pub slots_tree : Table → List Field → List Field → Placed → Node
  slots_tree T fs slots nothing = no_fields
  slots_tree T fs [] (first w others) = with_member T fs w (slots_tree T fs [] others)
  slots_tree T fs (f ∷ slots) (first w others) =
      with_field f.number (slot_content T f.label f.kind w) (slots_tree T fs slots others)

  -- the content of a field by its slot: nothing if the first word is 0
  pub slot_content : Table → Label → Kind → Word → Option Content
  slot_content T Optional k (word place v content) = unless_zero v (one (optional_item k v content))
  slot_content T Repeated k (word place v content) = unless_zero v (many (elements_at T k content))
  slot_content T Packed k (word place v content) = unless_zero v (many (elements_at T k content))
  slot_content T (Map key) k (word place v content) =
      unless_zero v (pairs (last_of_each key (entries_at T key k content)))
  slot_content T _ (OfMessage m) (word place v content) =
      unless_zero v (one (node (slots_tree T (fields_of T m) (own_slots (fields_of T m)) content)))
  slot_content T _ k (word place v content) = unless_zero v (one (scalar_item k v content))

  -- the fields with the member in a oneof's slot, if its case isn't 0
  pub with_member : Table → List Field → Word → Node → Node
  with_member T fs (word place v nothing) t = t
  with_member T fs (word place v (first w others)) t = insert_field v (one (plain_item T (kind_at fs v) w)) t

  -- the value of a plain slot; for a message, the tree of the node at its address
  pub plain_item : Table → Kind → Word → Item
  plain_item T (OfMessage m) (word place v content) =
      node (slots_tree T (fields_of T m) (own_slots (fields_of T m)) content)
  plain_item T k (word place v content) = scalar_item k v content

  -- the elements at an address word
  pub elements_at : Table → Kind → Placed → Items
  elements_at T k nothing = no_items
  elements_at T k (first (word place v content) others) = elements_in T k content

  pub elements_in : Table → Kind → Placed → Items
  elements_in T k nothing = no_items
  elements_in T k (first w others) = item (plain_item T k w) (elements_in T k others)

  -- the entries at an address word, each a key and a value
  pub entries_at : Table → Kind → Kind → Placed → List (Item × Item)
  entries_at T key k nothing = []
  entries_at T key k (first (word place v content) others) = entries_in T key k content

  pub entries_in : Table → Kind → Kind → Placed → List (Item × Item)
  entries_in T key k (first x (first y others)) = (plain_item T key x, plain_item T k y) ∷ entries_in T key k others
  entries_in T key k _ = []

-- the tree of a placed tree of the message at an index of the table
abbrev pub tree_of : Table → ℕ → Placed → Node
tree_of T msg P = slots_tree T (fields_of T msg) (own_slots (fields_of T msg)) P
