-- The encoding of a tree (Protocol Buffers, "Encoding"): the records of each field in the order of the tree, with
-- shortest varints. A packed field is one record, and a map is one record for each entry.
use Rattle.std.specs.Prelude.{ℕ, zero, suc, ◌+◌, ◌-◌, ◌*◌, ◌/◌, ◌%◌, ◌^◌, List, [], ◌∷◌, ◌++◌, length, if◌then◌else◌, nat_lt, Bool, true, false}
use Rattle.std.specs.Int.{w32, w64, to_le_bytes}
use Rattle.mrpc_table.specs.Node.{Node, no_fields, field, Content, one, many, pairs, Item, number, run, node, Items, no_items, item, Pairs, no_pairs, pair}
use Rattle.mrpc_table.specs.Normal.{fields_of, kind_at, label_at}
use Rattle.mrpc_table.specs.WireTypes.{wire_len, wire_type_of}
use Rattle.mrpc_table.specs.Words.{key_kind, nested_message}
use Rattle.mrpc_table.specs.declared.table.Kind.{Kind}
use Rattle.mrpc_table.specs.declared.table.Kind.TheVariants.{Sint32, Sint64, Fixed32, Fixed64, Sfixed32, Sfixed64, Float, Double}
use Rattle.mrpc_table.specs.declared.table.Label.{Label}
use Rattle.mrpc_table.specs.declared.table.Label.TheVariants.{Packed}
use Rattle.mrpc_table.specs.declared.table.Field.{Field}
use Rattle.mrpc_table.specs.declared.table.Table.{Table}

-- seven bits a byte, low group first, the top bit set on all but the last byte; `more` groups may follow the first
unfoldable pub groups : ℕ → ℕ → List ℕ
groups zero n = n ∷ []
groups (suc more) n = if nat_lt n 128 then n ∷ [] else (n % 128 + 128) ∷ groups more (n / 128)

-- the shortest varint of a number below 2^64
unfoldable pub varint : ℕ → List ℕ
varint n = groups 9 n

-- a field's number and the wire type of its record
abbrev pub tag : ℕ → ℕ → List ℕ
tag n wire_type = varint (8 * n + wire_type)

-- a length, and then the bytes
abbrev pub delimited : List ℕ → List ℕ
delimited bytes = varint (length bytes) ++ bytes

-- the ZigZag number of a word in two's complement: 0, -1, 1, -2, .. are 0, 1, 2, 3, ..
abbrev pub zigzag_of : ℕ → ℕ
zigzag_of n = if nat_lt n (2 ^ 63) then 2 * n else 2 * (2 ^ 64 - n) - 1

-- the bytes of a number, by the word form of its kind
abbrev pub number_bytes : Kind → ℕ → List ℕ
number_bytes Sint32 n = varint (zigzag_of n)
number_bytes Sint64 n = varint (zigzag_of n)
number_bytes Fixed64 n = to_le_bytes w64 n
number_bytes Sfixed64 n = to_le_bytes w64 n
number_bytes Double n = to_le_bytes w64 n
number_bytes Fixed32 n = to_le_bytes w32 n
number_bytes Sfixed32 n = to_le_bytes w32 (n % 2 ^ 32)
number_bytes Float n = to_le_bytes w32 n
number_bytes _ n = varint n

abbrev pub is_packed : Label → Bool
is_packed Packed = true
is_packed _ = false

abbrev mutual
  pub fields_bytes : Table → List Field → Node → List ℕ
  fields_bytes T fs no_fields = []
  fields_bytes T fs (field n c t) = content_bytes T fs n c ++ fields_bytes T fs t

  pub content_bytes : Table → List Field → ℕ → Content → List ℕ
  content_bytes T fs n (one i) = tag n (wire_type_of (kind_at fs n)) ++ item_bytes T (kind_at fs n) i
  content_bytes T fs n (many is) =
      if is_packed (label_at fs n)
      then tag n wire_len ++ delimited (joined_bytes T (kind_at fs n) is)
      else records_bytes T n (kind_at fs n) is
  content_bytes T fs n (pairs ps) = entries_bytes T n (key_kind (label_at fs n)) (kind_at fs n) ps

  -- a value without its tag
  pub item_bytes : Table → Kind → Item → List ℕ
  item_bytes T k (number n) = number_bytes k n
  item_bytes T k (run bytes) = delimited bytes
  item_bytes T k (node t) = delimited (fields_bytes T (fields_of T (nested_message k)) t)

  -- the concatenated elements of a packed field
  pub joined_bytes : Table → Kind → Items → List ℕ
  joined_bytes T k no_items = []
  joined_bytes T k (item i is) = item_bytes T k i ++ joined_bytes T k is

  -- a record for each element
  pub records_bytes : Table → ℕ → Kind → Items → List ℕ
  records_bytes T n k no_items = []
  records_bytes T n k (item i is) = (tag n (wire_type_of k) ++ item_bytes T k i) ++ records_bytes T n k is

  -- a record for each entry: the key is its field 1, the value its field 2
  pub entries_bytes : Table → ℕ → Kind → Kind → Pairs → List ℕ
  entries_bytes T n key k no_pairs = []
  entries_bytes T n key k (pair i j ps) =
      (tag n wire_len
      ++ delimited ((tag 1 (wire_type_of key) ++ item_bytes T key i) ++ (tag 2 (wire_type_of k) ++ item_bytes T k j)))
      ++ entries_bytes T n key k ps

-- the encoding of a tree of the message at an index of the table
abbrev pub encoding : Table → ℕ → Node → List ℕ
encoding T msg t = fields_bytes T (fields_of T msg) t
