-- The bound on small graphs that were worked out by hand: the number of bytes that their loads give.
use Rattle.std.proofs.Common.{◌≡◌, ℕ, ◌-◌, ◌^◌, List, [], ◌∷◌, length, codes, refl, arith, inr}
use Rattle.std.specs.Fmt.{digits}
use Rattle.std.specs.List.{Contains}
use Rattle.std.proofs.lemmas.List.Elements.{All-nil, All-cons}
use Rattle.mrpc_table.specs.declared.table.Kind.{Kind}
use Rattle.mrpc_table.specs.declared.table.Kind.TheVariants.{Int64, Uint64, Text, Octets, Message}
use Rattle.mrpc_table.specs.declared.table.Label.{Label}
use Rattle.mrpc_table.specs.declared.table.Label.TheVariants.{Plain, Optional, Packed, Map, Member}
use Rattle.mrpc_table.specs.Names.{IsName}
use Rattle.mrpc_table.specs.Valid.{IsValid, IsField, IsMessage, IsEnum, IsMethod}
use Rattle.mrpc_table.specs.declared.table.Field.{Field}
use Rattle.mrpc_table.specs.declared.table.Message.{Message as TheMessage}
use Rattle.mrpc_table.specs.declared.table.Table.{Table}
use Rattle.wire_base.specs.Encoding.{groups, varint, encoding}
use Rattle.graph_form.specs.declared.reason.Reason.TheVariants.{Narrow}
use Rattle.graph_form.specs.Roles.{value}
use Rattle.graph_form.specs.Placed.{Placed, nothing, first, word, loads, IsInvalidWord, IsValidWord, IsSound}
use Rattle.graph_form.specs.Forgotten.{tree_of}

-- a table of one message with one field of the largest number, whose tag has five bytes
abbrev field_of : Label → Kind → Field
field_of l k = record { number = 536870911; name = codes "f"; kind = k; label = l }

abbrev message_with : Label → Kind → List (List ℕ) → TheMessage
message_with l k oneofs = record { name = codes "M"; fields = field_of l k ∷ []; oneofs = oneofs }

abbrev table_of : Label → Kind → List (List ℕ) → Table
table_of l k oneofs = record { messages = message_with l k oneofs ∷ []; enums = []; methods = [] }

abbrev bytes_of : Table → Placed → List ℕ
bytes_of T P = encoding T 0 (tree_of T 0 P)

-- a word without content, followed by others
abbrev alone : ℕ → ℕ → Placed → Placed
alone place v others = first (word place v nothing) others

abbrev largest : ℕ
largest = 2 ^ 64 - 1

-- ---- one number: 15 bytes for its one load, and no graph has more for each

abbrev numbers : Table
numbers = table_of Plain Int64 []

nothing-contained : (name : List ℕ) → Contains [] name → ⊥
nothing-contained name h = let a = h.1 in omega (arith, a)

numbers-field : IsField numbers 0 (field_of Plain Int64)
numbers-field = record {
  number = record { positive = omega arith; small = omega arith; unreserved = inr (omega arith) };
  name = record { form = refl; short = omega arith };
  label = tt;
  kind = tt;
}

numbers-message : IsMessage numbers (message_with Plain Int64 [])
numbers-message = record {
  name = record { form = refl; short = refl };
  few = omega arith;
  fields = All-cons (IsField numbers 0) (field_of Plain Int64) [] numbers-field (All-nil (IsField numbers 0));
  ascend = tt;
  names = (nothing-contained (codes "f"), tt);
  oneofs = All-nil IsName;
  oneof_names = tt;
  oneof_order = refl;
}

numbers-valid : IsValid numbers
unfolding digits
numbers-valid = record {
  few_messages = omega arith;
  few_enums = omega arith;
  few_methods = omega arith;
  enums = All-nil IsEnum;
  enums_ascend = tt;
  messages = All-cons (IsMessage numbers) (message_with Plain Int64 []) [] numbers-message (All-nil (IsMessage numbers));
  messages_ascend = tt;
  types = (nothing-contained (codes "M"), tt);
  methods = All-nil (IsMethod numbers);
  method_names = tt;
  short = omega arith;
}

below-zero : bytes_of numbers (alone 1 largest nothing) ≡ 248 ∷ 255 ∷ 255 ∷ 255 ∷ 15 ∷ 255 ∷ 255 ∷ 255 ∷ 255 ∷ 255 ∷ 255 ∷ 255 ∷ 255 ∷ 255 ∷ 1 ∷ []
unfolding varint groups
below-zero = refl

below-zero-loads : loads (alone 1 largest nothing) ≡ (1, largest) ∷ []
below-zero-loads = refl

below-zero-fine : IsValidWord numbers 16 (value Int64) largest
below-zero-fine = λ reason bad. elim reason as (λ r. IsInvalidWord numbers 16 (value Int64) largest r → ⊥) [
  | Narrow ↦ λ no. no (omega arith)
  | _ ↦ λ no. no
] bad

below-zero-sound : IsSound numbers 16 0 1 (alone 1 largest nothing)
below-zero-sound = record {
  root = record { from_one = omega arith; to_end = omega arith };
  words = (refl, omega arith, below-zero-fine, tt, tt);
}

-- ---- a map of two entries: 56 bytes for six loads, 28 for the two of each entry

abbrev maps : Table
maps = table_of (Map Uint64) Uint64 []

abbrev entries : Placed
entries = first (word 1 2 (first (word 2 3 (alone 3 (largest - 1) (alone 5 largest (alone 7 largest (alone 9 largest nothing))))) nothing)) nothing

entries-bytes : length (bytes_of maps entries) ≡ 56
unfolding varint groups
entries-bytes = refl

entries-loads : length (loads entries) ≡ 6
entries-loads = refl

-- both entries have one key: the last is kept
abbrev one_key : Placed
one_key = first (word 1 2 (first (word 2 3 (alone 3 largest (alone 5 0 (alone 7 largest (alone 9 largest nothing))))) nothing)) nothing

one_key-bytes : bytes_of maps one_key ≡ 250 ∷ 255 ∷ 255 ∷ 255 ∷ 15 ∷ 22 ∷ 8 ∷ 255 ∷ 255 ∷ 255 ∷ 255 ∷ 255 ∷ 255 ∷ 255
    ∷ 255 ∷ 255 ∷ 1 ∷ 16 ∷ 255 ∷ 255 ∷ 255 ∷ 255 ∷ 255 ∷ 255 ∷ 255 ∷ 255 ∷ 255 ∷ 1 ∷ []
unfolding varint groups
one_key-bytes = refl

-- ---- runs: an optional one that is present and empty, and one of eight bytes

abbrev optional : Table
optional = table_of Optional Octets []

present-bytes : bytes_of optional (alone 1 1 nothing) ≡ 250 ∷ 255 ∷ 255 ∷ 255 ∷ 15 ∷ 0 ∷ []
unfolding varint groups
present-bytes = refl

abbrev texts : Table
texts = table_of Plain Text []

abbrev letters : Placed
letters = first (word 1 8 (first (word 2 3 (alone 3 0x6867666564636261 nothing)) nothing)) nothing

letters-bytes : bytes_of texts letters ≡ 250 ∷ 255 ∷ 255 ∷ 255 ∷ 15 ∷ 8 ∷ codes "abcdefgh"
unfolding varint groups
letters-bytes = refl

letters-loads : length (loads letters) ≡ 3
letters-loads = refl

-- ---- a message in a oneof: its case, its address, and an empty message in it

abbrev nested : Table
nested = table_of (Member 0) (Message 0) (codes "c" ∷ [])

abbrev chosen : Placed
chosen = first (word 1 536870911 (first (word 2 4 (alone 4 0 nothing)) nothing)) nothing

chosen-bytes : bytes_of nested chosen ≡ 250 ∷ 255 ∷ 255 ∷ 255 ∷ 15 ∷ 0 ∷ []
unfolding varint groups
chosen-bytes = refl

chosen-loads : length (loads chosen) ≡ 3
chosen-loads = refl

-- ---- three packed numbers: ten bytes for each load

abbrev packed : Table
packed = table_of Packed Uint64 []

abbrev three : Placed
three = first (word 1 3 (first (word 2 3 (alone 3 largest (alone 4 largest (alone 5 largest nothing)))) nothing)) nothing

three-bytes : length (bytes_of packed three) ≡ 36
unfolding varint groups
three-bytes = refl

three-loads : length (loads three) ≡ 5
three-loads = refl
