-- The message that the contents of records, in the order of the bytes, represent. Each field gets its value from the
-- records of its number alone (Protocol Buffers, "Encoding": "Last One Wins", "Oneofs", "Maps").
use Rattle.std.specs.Prelude.{◌==◌, ◌||◌, ℕ, zero, suc, Bool, false, List, [], ◌∷◌, ◌++◌, map, Option, Some, None, unwrap_or, if◌then◌else◌}
use Rattle.mrpc_table.specs.Node.{Node, no_fields, field, Content, one, many, pairs, Item, number, run, node, Items, no_items, item}
use Rattle.mrpc_table.specs.Normal.{fields_of}
use Rattle.mrpc_table.specs.MapEntries.{last_of_each}
use Rattle.mrpc_table.specs.declared.table.Kind.{Kind}
use Rattle.mrpc_table.specs.declared.table.Kind.TheVariants.{Message as OfMessage}
use Rattle.mrpc_table.specs.declared.table.Label.{Label}
use Rattle.mrpc_table.specs.declared.table.Label.TheVariants.{Plain, Optional, Repeated, Packed, Map, Member}
use Rattle.mrpc_table.specs.declared.table.Field.{Field}
use Rattle.mrpc_table.specs.declared.table.Table.{Table}
use Rattle.wire_decode.specs.Contents.{default_item_of, present, present_if_set, some_items, some_pairs, with_content}
use Rattle.wire_decode.specs.Oneofs.{are_rivals}

-- the contents of the records of one number, in order
abbrev pub contents_of : ℕ → Node → List Content
contents_of n no_fields = []
contents_of n (field m c t) = if m == n then c ∷ contents_of n t else contents_of n t

-- the items of a content, as a list
abbrev pub list_of_items : Items → List Item
list_of_items no_items = []
list_of_items (item i is) = i ∷ list_of_items is

-- the values in contents, those of packed payloads included
abbrev pub values_in : List Content → List Item
values_in [] = []
values_in (one i ∷ cs) = i ∷ values_in cs
values_in (many is ∷ cs) = list_of_items is ++ values_in cs
values_in (pairs ps ∷ cs) = values_in cs

-- the values of contents of one value each
abbrev pub singles_in : List Content → List Item
singles_in [] = []
singles_in (one i ∷ cs) = i ∷ singles_in cs
singles_in (many is ∷ cs) = singles_in cs
singles_in (pairs ps ∷ cs) = singles_in cs

-- the fields of two messages, the second after the first
abbrev pub join_fields : Node → Node → Node
join_fields no_fields u = u
join_fields (field n c t) u = field n c (join_fields t u)

-- the records of several payloads, as if the payloads were concatenated
abbrev pub joined_messages : List Item → Node
joined_messages [] = no_fields
joined_messages (number n ∷ is) = joined_messages is
joined_messages (run bytes ∷ is) = joined_messages is
joined_messages (node t ∷ is) = join_fields t (joined_messages is)

-- the last of some values, if there is one
abbrev pub last_value : List Item → Option Item
last_value [] = None
last_value (i ∷ []) = Some i
last_value (i ∷ j ∷ is) = last_value (j ∷ is)

-- the value of a singular field: the last one, or the message of all records
abbrev pub singular : (ℕ → Node → Node) → Kind → List Item → Option Item
singular inner (OfMessage i) [] = None
singular inner (OfMessage i) (v ∷ vs) = Some (node (inner i (joined_messages (v ∷ vs))))
singular inner _ vs = last_value vs

-- an element of a repeated field: a message by itself
abbrev pub merged_element : (ℕ → Node → Node) → Kind → Item → Item
merged_element inner (OfMessage i) v = node (inner i (joined_messages (v ∷ [])))
merged_element inner _ v = v

-- the key or the value of an entry, by its number; the default if it is missing
abbrev pub part_of_entry : (ℕ → Node → Node) → ℕ → Kind → Node → Item
part_of_entry inner n k t = unwrap_or (singular inner k (singles_in (contents_of n t))) (default_item_of k)

-- the key and the value of an entry
abbrev pub merged_entry : (ℕ → Node → Node) → Kind → Kind → Item → Item × Item
merged_entry inner key k v = (part_of_entry inner 1 key (joined_messages (v ∷ [])), part_of_entry inner 2 k (joined_messages (v ∷ [])))

-- the content of a field, from the contents of its records
abbrev pub field_content : (ℕ → Node → Node) → Label → Kind → List Content → Option Content
field_content inner Plain k cs = present_if_set (singular inner k (singles_in cs))
field_content inner Optional k cs = present (singular inner k (singles_in cs))
field_content inner (Member o) k cs = present (singular inner k (singles_in cs))
field_content inner Repeated k cs = some_items (map (merged_element inner k) (values_in cs))
field_content inner Packed k cs = some_items (map (merged_element inner k) (values_in cs))
field_content inner (Map key) k cs = some_pairs (last_of_each key (map (merged_entry inner key k) (values_in cs)))

-- a later record is of another member of the same oneof
abbrev pub is_overtaken : List Field → ℕ → Node → Bool
is_overtaken fs n no_fields = false
is_overtaken fs n (field m c t) = are_rivals fs n m || is_overtaken fs n t

-- The records that count. Of a oneof these are the ones without a later record of another member: the longest suffix of
-- the oneof's records that are all of the last member.
abbrev pub counted_records : List Field → Node → Node
counted_records fs no_fields = no_fields
counted_records fs (field n c t) = if is_overtaken fs n t then counted_records fs t else field n c (counted_records fs t)

-- the fields by ascending number, each with the content that its records give
abbrev pub with_fields : (ℕ → Node → Node) → Node → List Field → Node
with_fields inner raw [] = no_fields
with_fields inner raw (f ∷ fs) =
    with_content f.number (field_content inner f.label f.kind (contents_of f.number raw)) (with_fields inner raw fs)

-- the message that the contents of its records represent, with at most this many levels of messages
unfoldable pub merged : Table → ℕ → ℕ → Node → Node
merged T zero i raw = no_fields
merged T (suc depth) i raw = with_fields (merged T depth) (counted_records (fields_of T i) raw) (fields_of T i)
