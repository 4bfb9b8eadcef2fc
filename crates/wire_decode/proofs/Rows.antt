-- The definitions on messages that were worked out by hand.
use Rattle.std.proofs.Common.{◌≡◌, ℕ, ◌-◌, ◌^◌, List, [], ◌∷◌, refl}
use Rattle.mrpc_table.specs.Node.{Node, no_fields, field, one, many, pairs, number, node, Items, no_items, item, no_pairs, pair}
use Rattle.mrpc_table.specs.declared.table.Kind.{Kind}
use Rattle.mrpc_table.specs.declared.table.Kind.TheVariants.{Int32, Uint64, Message as OfMessage}
use Rattle.mrpc_table.specs.declared.table.Label.{Label}
use Rattle.mrpc_table.specs.declared.table.Label.TheVariants.{Plain, Repeated, Packed, Map, Member}
use Rattle.mrpc_table.specs.declared.table.Field.{Field}
use Rattle.mrpc_table.specs.declared.table.Message.{Message}
use Rattle.mrpc_table.specs.declared.table.Table.{Table}
use Rattle.wire_base.specs.Encoding.{encoding, varint, groups}
use Rattle.wire_decode.specs.Words.{word_form_of}
use Rattle.wire_decode.specs.Merged.{merged}

abbrev a_field : ℕ → Kind → Label → Field
a_field n k l = record { number = n; name = 97 ∷ []; kind = k; label = l }

abbrev a_message : List Field → Message
a_message fs = record { name = 77 ∷ []; fields = fs; oneofs = (99 ∷ []) ∷ [] }

abbrev a_table : List Message → Table
a_table ms = record { messages = ms; enums = []; methods = [] }

-- message M has the oneof of a message N and a number, and N has two numbers
abbrev choice : Table
choice = a_table (a_message (a_field 1 (OfMessage 1) (Member 0) ∷ a_field 2 Uint64 (Member 0) ∷ []) ∷ a_message (a_field 1 Uint64 Plain ∷ a_field 2 Uint64 Plain ∷ []) ∷ [])

abbrev a : ℕ → Node → Node
a n t = field 1 (one (number n)) t

abbrev b : ℕ → Node → Node
b n t = field 2 (one (number n)) t

abbrev m : Node → Node → Node
m t u = field 1 (one (node t)) u

-- a run of messages is merged
one_run : merged choice 32 0 (m (a 1 no_fields) (m (b 2 no_fields) no_fields)) ≡ m (a 1 (b 2 no_fields)) no_fields
unfolding merged
one_run = refl

-- records before another member's record are dropped
broken_run : merged choice 32 0 (m (a 1 no_fields) (b 3 (m (b 2 no_fields) no_fields))) ≡ m (b 2 no_fields) no_fields
unfolding merged
broken_run = refl

other_member : merged choice 32 0 (m (a 1 no_fields) (b 3 no_fields)) ≡ b 3 no_fields
unfolding merged
other_member = refl

encoded : encoding choice 0 (m (a 1 (b 2 no_fields)) no_fields) ≡ 10 ∷ 4 ∷ 8 ∷ 1 ∷ 16 ∷ 2 ∷ []
unfolding varint groups
encoded = refl

-- a repeated field of three numbers, packed and one by one
abbrev three : Items
three = item (number 3) (item (number 270) (item (number 86942) no_items))

abbrev list : Label → Table
list l = a_table (a_message (a_field 6 Uint64 l ∷ []) ∷ [])

packed : merged (list Packed) 32 0 (field 6 (many three) no_fields) ≡ field 6 (many three) no_fields
unfolding merged
packed = refl

one_by_one : merged (list Packed) 32 0 (field 6 (one (number 3)) (field 6 (one (number 270)) (field 6 (one (number 86942)) no_fields))) ≡ field 6 (many three) no_fields
unfolding merged
one_by_one = refl

mixed : merged (list Repeated) 32 0 (field 6 (one (number 3)) (field 6 (many (item (number 270) (item (number 86942) no_items))) no_fields)) ≡ field 6 (many three) no_fields
unfolding merged
mixed = refl

-- the last of equal keys counts, a missing value is the default, and keys ascend
abbrev entry : ℕ → Node → Node
entry key t = field 3 (one (node (a key no_fields))) t

abbrev valued : ℕ → ℕ → Node → Node
valued key v t = field 3 (one (node (a key (b v no_fields)))) t

abbrev map_table : Table
map_table = a_table (a_message (a_field 3 Uint64 (Map Int32) ∷ []) ∷ [])

a_map : merged map_table 32 0 (valued 5 1 (valued 2 7 (entry 5 (valued (2 ^ 64 - 1) 4 no_fields))))
    ≡ field 3 (pairs (pair (number (2 ^ 64 - 1)) (number 4)
    (pair (number 2) (number 7) (pair (number 5) (number 0) no_pairs)))) no_fields
unfolding merged
a_map = refl

-- the last of singular numbers counts, and a default is left out
last_counts : merged choice 32 1 (a 5 (b 1 (a 0 no_fields))) ≡ b 1 no_fields
unfolding merged
last_counts = refl

-- the numbers of the encoding guide: a negative int32 in ten bytes, ZigZag, a bool, truncation to 32 bits
minus_two : word_form_of Int32 (2 ^ 64 - 2) ≡ 2 ^ 64 - 2
minus_two = refl
