-- The definition of the first fault on small texts: a row for each way to be at fault, and lines with two reasons.
use Rattle.std.proofs.Common.{◌≡◌, ℕ, zero, suc, pos, true, ◌+◌, ◌<◌, List, [], ◌∷◌, ◌++◌, codes, length, get_or, Some, None, refl, sym, ◌∙◌, arith}
use Rattle.std.specs.List.{All}
use Rattle.std.specs.Prelude.{replicate}
use Rattle.std.proofs.lemmas.List.{length-replicate}
use Rattle.std.proofs.lemmas.Int.{ints}
use Rattle.std.proofs.lemmas.List.Elements.{All-nil}
use Rattle.table_text.specs.Faults.{IsFirstTableFault, HasReasonAt, IsFaultyLine, at_line, at_end, last_without_value, value_out_of_range, type_twice, too_many_values}
use Rattle.mrpc_table.specs.Lines.{whole_lines, remainder_of}
use Rattle.table_text.specs.Forms.{TableLineForm, enum, value, message, continues}
use Rattle.table_text.specs.LineTests.{fault_at_line}
use Rattle.table_text.specs.Lines.{line_of}
use Rattle.table_text.specs.declared.fault.TableReason.{TableReason}
use Rattle.table_text.specs.declared.fault.TableReason.TheVariants.{Syntax, Number, Duplicate, UnknownType, MapKey, Limit}
use Rattle.table_text.proofs.FirstFaults.{no_fault_past}
use Rattle.table_text.proofs.SameFaults.{first_judged, against_found}

-- ---- the first fault of a text, on its first, second, third or fourth line

first_1 : (text : List ℕ) (q : TableReason) → fault_at_line text 0 ≡ Some q → IsFirstTableFault text 1 q
first_1 text q e = first_judged text 1 q (record { counted = omega arith; here = e; none_before = λ i less. absurd (omega (arith, less)) })

first_2 : (text : List ℕ) (q : TableReason) → fault_at_line text 0 ≡ None → fault_at_line text 1 ≡ Some q → IsFirstTableFault text 2 q
first_2 text q a e = first_judged text 2 q (record { counted = omega arith; here = e; none_before = before })
  where
    before : (i : ℕ) → i + 1 < 2 → fault_at_line text i ≡ None
    before zero less = a
    before (suc i) less = absurd (omega (arith, less))

first_3 : (text : List ℕ) (q : TableReason) → fault_at_line text 0 ≡ None → fault_at_line text 1 ≡ None → fault_at_line text 2 ≡ Some q → IsFirstTableFault text 3 q
first_3 text q a b e = first_judged text 3 q (record { counted = omega arith; here = e; none_before = before })
  where
    before : (i : ℕ) → i + 1 < 3 → fault_at_line text i ≡ None
    before zero less = a
    before (suc zero) less = b
    before (suc (suc i)) less = absurd (omega (arith, less))

first_4 : (text : List ℕ) (q : TableReason) → fault_at_line text 0 ≡ None → fault_at_line text 1 ≡ None → fault_at_line text 2 ≡ None → fault_at_line text 3 ≡ Some q → IsFirstTableFault text 4 q
first_4 text q a b c e = first_judged text 4 q (record { counted = omega arith; here = e; none_before = before })
  where
    before : (i : ℕ) → i + 1 < 4 → fault_at_line text i ≡ None
    before zero less = a
    before (suc zero) less = b
    before (suc (suc zero)) less = c
    before (suc (suc (suc i))) less = absurd (omega (arith, less))

-- ---- Syntax

no_form : IsFirstTableFault (codes "enum E\nvalue -0 A\n") 2 Syntax
unfolding line_of
no_form = first_2 _ Syntax refl refl

enum_behind_message : IsFirstTableFault (codes "message M\nenum E\n") 2 Syntax
unfolding line_of
enum_behind_message = first_2 _ Syntax refl refl

enum_behind_method : IsFirstTableFault (codes "message M\nmethod 0 S Get M M\nenum E\n") 3 Syntax
unfolding line_of
enum_behind_method = first_3 _ Syntax refl refl refl

message_behind_method : IsFirstTableFault (codes "message M\nmethod 0 S Get M M\nmessage N\n") 3 Syntax
unfolding line_of
message_behind_method = first_3 _ Syntax refl refl refl

falling_enum : IsFirstTableFault (codes "enum F\nvalue 0 A\nenum E\n") 3 Syntax
unfolding line_of
falling_enum = first_3 _ Syntax refl refl refl

falling_message : IsFirstTableFault (codes "message N\nfield 1 plain bool a\nmessage M\n") 3 Syntax
unfolding line_of
falling_message = first_3 _ Syntax refl refl refl

value_in_a_message : IsFirstTableFault (codes "message M\nvalue 0 A\n") 2 Syntax
unfolding line_of
value_in_a_message = first_2 _ Syntax refl refl

falling_value : IsFirstTableFault (codes "enum E\nvalue 1 A\nvalue 0 B\n") 3 Syntax
unfolding line_of
falling_value = first_3 _ Syntax refl refl refl

falling_value_name : IsFirstTableFault (codes "enum E\nvalue 0 B\nvalue 0 A\n") 3 Syntax
unfolding line_of
falling_value_name = first_3 _ Syntax refl refl refl

field_outside : IsFirstTableFault (codes "field 1 plain bool a\n") 1 Syntax
unfolding line_of
field_outside = first_1 _ Syntax refl

falling_field : IsFirstTableFault (codes "message M\nfield 2 plain bool a\nfield 1 plain bool b\n") 3 Syntax
unfolding line_of
falling_field = first_3 _ Syntax refl refl refl

optional_message : IsFirstTableFault (codes "message M\nfield 1 optional message:M a\n") 2 Syntax
unfolding line_of
optional_message = first_2 _ Syntax refl refl

packed_string : IsFirstTableFault (codes "message M\nfield 1 packed string a\n") 2 Syntax
unfolding line_of
packed_string = first_2 _ Syntax refl refl

enum_without_value : IsFirstTableFault (codes "enum E\nmessage M\n") 2 Syntax
unfolding line_of
enum_without_value = first_2 _ Syntax refl refl

enum_without_value_at_end : IsFirstTableFault (codes "enum E\n") 2 Syntax
unfolding line_of
enum_without_value_at_end = first_2 _ Syntax refl refl

no_line_feed : IsFirstTableFault (codes "message M\nmessage N") 2 Syntax
unfolding line_of
no_line_feed = first_2 _ Syntax refl refl

-- ---- Number

value_too_large : IsFirstTableFault (codes "enum E\nvalue 0 A\nvalue 2147483648 B\n") 3 Number
unfolding line_of
value_too_large = first_3 _ Number refl refl refl

field_0 : IsFirstTableFault (codes "message M\nfield 0 plain bool a\n") 2 Number
unfolding line_of
field_0 = first_2 _ Number refl refl

field_reserved : IsFirstTableFault (codes "message M\nfield 19000 plain bool a\n") 2 Number
unfolding line_of
field_reserved = first_2 _ Number refl refl

field_very_large : IsFirstTableFault (codes "message M\nfield 99999999999999999999 plain bool a\n") 2 Number
unfolding line_of
field_very_large = first_2 _ Number refl refl

index_out_of_turn : IsFirstTableFault (codes "message M\nmethod 1 S Get M M\n") 2 Number
unfolding line_of
index_out_of_turn = first_2 _ Number refl refl

enum_without_zero : IsFirstTableFault (codes "enum E\nvalue 1 A\nmessage M\n") 3 Number
unfolding line_of
enum_without_zero = first_3 _ Number refl refl refl

enum_without_zero_at_end : IsFirstTableFault (codes "enum E\nvalue 1 A\n") 3 Number
unfolding line_of
enum_without_zero_at_end = first_3 _ Number refl refl refl

-- ---- Duplicate

message_as_enum : IsFirstTableFault (codes "enum E\nvalue 0 A\nmessage E\n") 3 Duplicate
unfolding line_of
message_as_enum = first_3 _ Duplicate refl refl refl

value_twice : IsFirstTableFault (codes "enum E\nvalue 0 A\nvalue 1 A\n") 3 Duplicate
unfolding line_of
value_twice = first_3 _ Duplicate refl refl refl

field_twice : IsFirstTableFault (codes "message M\nfield 1 plain bool a\nfield 2 plain bool a\n") 3 Duplicate
unfolding line_of
field_twice = first_3 _ Duplicate refl refl refl

number_twice : IsFirstTableFault (codes "message M\nfield 1 plain bool a\nfield 1 plain bool b\n") 3 Duplicate
unfolding line_of
number_twice = first_3 _ Duplicate refl refl refl

method_twice : IsFirstTableFault (codes "message M\nmethod 0 S Get M M\nmethod 1 S Get M M\n") 3 Duplicate
unfolding line_of
method_twice = first_3 _ Duplicate refl refl refl

-- ---- UnknownType, MapKey, Limit

unknown_field : IsFirstTableFault (codes "message M\nfield 1 plain message:N a\n") 2 UnknownType
unfolding line_of
unknown_field = first_2 _ UnknownType refl refl

unknown_input : IsFirstTableFault (codes "enum E\nvalue 0 A\nmessage M\nmethod 0 S Get E M\n") 4 UnknownType
unfolding line_of
unknown_input = first_4 _ UnknownType refl refl refl refl

float_key : IsFirstTableFault (codes "message M\nfield 1 map:float uint64 a\n") 2 MapKey
unfolding line_of
float_key = first_2 _ MapKey refl refl

name_of_65 : IsFirstTableFault (codes "message M\nfield 1 plain bool " ++ replicate 65 97 ++ codes "\n") 2 Limit
unfolding line_of
name_of_65 = first_2 _ Limit refl refl

part_of_65 : IsFirstTableFault (codes "message M." ++ replicate 65 97 ++ codes "\n") 1 Limit
unfolding line_of
part_of_65 = first_1 _ Limit refl

-- ---- lines with two reasons, of which the first counts

-- a message with the name of an enum, after an enum without a value 0
two_at_once : HasReasonAt (codes "enum E\nvalue 1 A\nmessage E\n") 2 Duplicate
two_at_once =
    at_line (codes "message E") (enum (codes "E") ∷ value (pos 1) (codes "A") ∷ []) refl ((refl, refl), ((codes "1", refl, refl, refl), tt))
    (type_twice (message (codes "E")) (enum (codes "E")) (codes "E") (refl, refl) refl (0, omega arith, refl) refl refl)

first_of_two : IsFirstTableFault (codes "enum E\nvalue 1 A\nmessage E\n") 3 Number
unfolding line_of
first_of_two = first_3 _ Number refl refl refl

-- a value out of range, of no enum
outside_and_large : HasReasonAt (codes "value 4294967296 A\n") 0 Number
outside_and_large =
    at_line (codes "value 4294967296 A") [] refl tt
    (value_out_of_range (pos 4294967296) (codes "A") (codes "4294967296", refl, refl, refl) (λ fits. omega (arith, ints, fits)) refl)

outside_first : IsFirstTableFault (codes "value 4294967296 A\n") 1 Syntax
unfolding line_of
outside_first = first_1 _ Syntax refl

-- the end: an enum without a value, and a remainder without its line feed
end_twice : HasReasonAt (codes "enum E\nvalue") 1 Syntax
end_twice = at_end (enum (codes "E") ∷ []) refl ((refl, refl), tt) (last_without_value (codes "E", ([], refl)) refl)

-- a 1025th value
values_go : (n : ℕ) → All (λ g. continues g ≡ true) (replicate n (value (pos 0) (codes "A")))
values_go zero = All-nil (λ g. continues g ≡ true)
values_go (suc n) = λ k d within. here n k d within (values_go n)
  where
    here : (n : ℕ) (k : ℕ) (d : TableLineForm) → k < length (replicate (suc n) (value (pos 0) (codes "A"))) → All (λ g. continues g ≡ true) (replicate n (value (pos 0) (codes "A")))
        → continues (get_or (replicate (suc n) (value (pos 0) (codes "A"))) k d) ≡ true
    here n zero d within rest = refl
    here n (suc k) d within rest = rest k d (omega arith)

value_1025 : IsFaultyLine [] (replicate 1024 (value (pos 0) (codes "A"))) (codes "value 0 B") Limit
value_1025 = too_many_values (pos 0) (codes "B") (codes "0", refl, refl, refl) (record {
  front = [];
  inner = replicate 1024 (value (pos 0) (codes "A"));
  before_is = refl;
  each = values_go 1024;
  many = omega (arith, length-replicate 1024 (value (pos 0) (codes "A")));
}) refl

-- ---- and a text without a fault

abbrev pub a_table : List ℕ
a_table = codes "enum E\nvalue 0 A\nmessage M\nfield 1 plain enum:E a\nmethod 0 S Get M M\n"

clean : (i : ℕ) → fault_at_line a_table i ≡ None
unfolding line_of
clean zero = refl
clean (suc zero) = refl
clean (suc (suc zero)) = refl
clean (suc (suc (suc zero))) = refl
clean (suc (suc (suc (suc zero)))) = refl
clean (suc (suc (suc (suc (suc zero))))) = refl
clean (suc (suc (suc (suc (suc (suc i)))))) = no_fault_past (whole_lines a_table) (remainder_of a_table) (suc (suc (suc (suc (suc (suc i)))))) (omega arith)

without_fault : (i : ℕ) (q : TableReason) → HasReasonAt a_table i q → ⊥
without_fault i q h = let found = against_found a_table i q (λ j less. clean j) h in let clash : None ≡ Some found.reason = sym (clean i) ∙ found.is in absurd cc
