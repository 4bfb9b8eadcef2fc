-- The definitions on small graphs that were worked out by hand: words, loads, trees, and what makes them malformed.
use Rattle.std.proofs.Common.{◌≡◌, ℕ, ◌≤◌, [], ◌∷◌, List, codes, refl, arith, ⊎_elim}
use Rattle.mrpc_table.specs.Node.{no_fields, field, one, many, pairs, number, run, no_items, item, no_pairs, pair}
use Rattle.mrpc_table.specs.declared.table.Kind.{Kind}
use Rattle.mrpc_table.specs.declared.table.Kind.TheVariants.{Int32, Sint32, Uint64, Text}
use Rattle.mrpc_table.specs.declared.table.Label.{Label}
use Rattle.mrpc_table.specs.declared.table.Label.TheVariants.{Plain, Optional, Packed, Map, Member}
use Rattle.mrpc_table.specs.declared.table.Field.{Field}
use Rattle.mrpc_table.specs.declared.table.Table.{Table}
use Rattle.graph_form.specs.declared.reason.Reason.TheVariants.{Address, Narrow}
use Rattle.graph_form.specs.Roles.{value, size_words, slot_of}
use Rattle.graph_form.specs.Placed.{Placed, nothing, first, word, loads, IsInvalidWord}
use Rattle.graph_form.specs.Forgotten.{tree_of}
use Rattle.graph_form.specs.Malformed.{reason_rank, IsInvalidFirst, IsMalformed, no_root}
use Rattle.graph_form.proofs.Ends.{ends-at-offence}

-- a table of one message with these fields
abbrev table_of : List Field → List (List ℕ) → Table
table_of fields oneofs = record {
  messages = record { name = codes "M"; fields = fields; oneofs = oneofs } ∷ [];
  enums = [];
  methods = record { service = codes "S"; name = codes "Get"; input = 0; output = 0 } ∷ [];
}

abbrev one_field : ℕ → Label → Kind → Field
one_field n l k = record { number = n; name = codes "f"; kind = k; label = l }

-- a word without content, followed by others
abbrev alone : ℕ → ℕ → Placed → Placed
alone place v others = first (word place v nothing) others

-- ---- a string whose length was 7 when it was loaded: "testing"

abbrev texts : Table
texts = table_of (one_field 2 Plain Text ∷ []) []

abbrev testing : Placed
testing = first (word 2 7 (first (word 3 4 (alone 4 0x676e6974736574 nothing)) nothing)) nothing

testing-loads : loads testing ≡ (2, 7) ∷ (3, 4) ∷ (4, 0x676e6974736574) ∷ []
testing-loads = refl

testing-tree : tree_of texts 0 testing ≡ field 2 (one (run (codes "testing"))) no_fields
testing-tree = refl

-- ---- three packed numbers

abbrev packed : Table
packed = table_of (one_field 6 Packed Uint64 ∷ []) []

abbrev three : Placed
three = first (word 2 3 (first (word 3 4 (alone 4 3 (alone 5 270 (alone 6 86942 nothing)))) nothing)) nothing

three-loads : loads three ≡ (2, 3) ∷ (3, 4) ∷ (4, 3) ∷ (5, 270) ∷ (6, 86942) ∷ []
three-loads = refl

three-tree : tree_of packed 0 three ≡ field 6 (many (item (number 3) (item (number 270) (item (number 86942) no_items)))) no_fields
three-tree = refl

-- ---- a plain number, an optional one, and a oneof, whose slot is the last and whose member is ordered by its number

abbrev mixed : Table
mixed = table_of (one_field 1 Plain Uint64 ∷ one_field 2 Optional Uint64 ∷ one_field 3 (Member 0) Uint64 ∷ one_field 4 (Member 0) Text ∷ []) (codes "c" ∷ [])

abbrev chosen : Placed
chosen = alone 2 0 (first (word 4 1 (alone 5 0 nothing)) (first (word 6 3 (alone 7 0 nothing)) nothing))

chosen-loads : loads chosen ≡ (2, 0) ∷ (4, 1) ∷ (5, 0) ∷ (6, 3) ∷ (7, 0) ∷ []
chosen-loads = refl

chosen-tree : tree_of mixed 0 chosen ≡ field 2 (one (number 0)) (field 3 (one (number 0)) no_fields)
chosen-tree = refl

mixed-words : size_words mixed 0 ≡ 7
mixed-words = refl

slot-of_optional : slot_of mixed 0 2 ≡ 2
slot-of_optional = refl

slot-of_member : slot_of mixed 0 4 ≡ 4
slot-of_member = refl

-- ---- a map with the keys 5, 1 and 5: they ascend, and the last 5 counts

abbrev maps : Table
maps = table_of (one_field 1 (Map Uint64) Text ∷ []) []

abbrev entries : Placed
entries = first (word 2 3 (first (word 3 4
    (alone 4 5 (first (word 6 1 (first (word 7 16 (alone 16 0x61 nothing)) nothing))
    (alone 8 1 (alone 10 0
    (alone 12 5 (first (word 14 1 (first (word 15 17 (alone 17 0x62 nothing)) nothing)) nothing))))))) nothing)) nothing

entries-tree : tree_of maps 0 entries ≡ field 1 (pairs (pair (number 1) (run []) (pair (number 5) (run (codes "b")) no_pairs))) no_fields
entries-tree = refl

-- ---- malformed graphs

abbrev numbers : Table
numbers = table_of (one_field 1 Plain Int32 ∷ one_field 2 Plain Sint32 ∷ one_field 3 Plain Uint64 ∷ []) []

-- the root's last word would be past the end of the heap
outside : IsMalformed (table_of (one_field 1 Plain Uint64 ∷ []) []) 16 0 15 1024 [] Address 0 15
outside = no_root (λ lies. (let a = lies.to_end in omega (arith, a))) refl refl refl refl

-- 2^32 - 1 is no int32
narrow-first : IsInvalidFirst numbers 16 (value Int32) 4294967295 Narrow
narrow-first = record {
  offends = λ form. ⊎_elim (λ low. omega (arith, low)) (λ high. (let a = high.0 in omega (arith, a))) form;
  first = λ other bad. elim other as (λ r. IsInvalidWord numbers 16 (value Int32) 4294967295 r → 4 ≤ reason_rank r) [
    | Narrow ↦ λ b. omega arith
    | _ ↦ λ b. absurd b
  ] bad;
}

narrow : IsMalformed numbers 16 0 2 1024 ((2, 4294967295) ∷ []) Narrow 2 4294967295
narrow =
    ends-at-offence numbers 16 0 2 1024 [] (value Int32, 2) ((value Sint32, 4) ∷ (value Uint64, 6) ∷ []) 4294967295 Narrow
    (record { from_one = omega arith; to_end = omega arith }) refl (omega arith) (omega arith) narrow-first
