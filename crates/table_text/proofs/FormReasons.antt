-- If the tests find a reason, the line is at fault for it.
use Rattle.std.proofs.Common.{◌≡◌, ℕ, ◌<◌, ◌==◌, ◌||◌, ◌&&◌, not, Bool, true, false, cond, List, [], ◌∷◌, ◌++◌, codes}
use Rattle.std.proofs.Common.{length, Option, Some, None, refl, ap, sym, subst, ◌∙◌, arith, inl, inr, ◌⊎◌}
use Rattle.std.specs.Prelude.{nat_lt, IsTrue, option_to_list}
use Rattle.std.specs.List.{Contains, filter_map, count_by, slice_split}
use Rattle.std.proofs.lemmas.Bool.{leb-true, leb-false, ltb-true, eq-eqb}
use Rattle.std.proofs.lemmas.List.Elements.{Contains-append_left, Contains-append_right}
use Rattle.mrpc_table.specs.Lines.{words_of}
use Rattle.mrpc_table.specs.Names.{is_full_form, is_short, is_short_full}
use Rattle.mrpc_table.specs.Text.{spaced}
use Rattle.table_text.specs.Faults.{IsFaultyLine, IsPreviousLine, IsEarlierInPart, is_packable_word, is_key_kind, enum_after_message}
use Rattle.table_text.specs.Faults.{enum_after_method, message_after_method, enum_out_of_order, message_out_of_order}
use Rattle.table_text.specs.Faults.{value_outside, value_out_of_order, field_outside, field_out_of_order, optional_message}
use Rattle.table_text.specs.Faults.{packed_no_number, enum_without_value, value_out_of_range, no_field_number}
use Rattle.table_text.specs.Faults.{index_out_of_turn, enum_without_zero, type_twice, value_twice, field_twice}
use Rattle.table_text.specs.Faults.{number_twice, method_twice, unknown_type, map_key, long_name, long_full_name}
use Rattle.table_text.specs.Faults.{too_many_enums, too_many_messages, too_many_methods, too_many_values}
use Rattle.table_text.specs.Faults.{too_many_fields}
use Rattle.table_text.specs.Forms.{TableLineForm, enum, value, message, field, method, HasLineForm, is_enum_line, is_message_line, is_method_line}
use Rattle.table_text.specs.Forms.{type_of_kind, types_of_label, names_of_label, names_in, full_name_of_kind}
use Rattle.table_text.specs.Forms.{full_names_of_label}
use Rattle.table_text.specs.LineTests.{NamesBefore, types_of, line_fault, has_syntax_fault, has_number_fault, has_duplicate, has_unknown_type}
use Rattle.table_text.specs.LineTests.{has_map_key_fault, exceeds_limit, is_among, is_empty, is_below_last, lacks_value, lacks_zero}
use Rattle.table_text.specs.LineTests.{is_enum_number, has_field_number, is_index, clashes, is_field_out_of_order, is_type_before}
use Rattle.table_text.specs.LineTests.{is_field_before, repeats_number, is_unknown_kind, is_unknown_label}
use Rattle.table_text.specs.LineTests.{is_short_kind, is_short_label, has_short_names, has_one_too_many}
use Rattle.table_text.specs.Lines.{in_32_bits, without_prefix}
use Rattle.table_text.specs.declared.fault.TableReason.{TableReason}
use Rattle.table_text.specs.declared.fault.TableReason.TheVariants.{Syntax, Number, Duplicate, UnknownType, MapKey, Limit}
use Rattle.table_text.specs.declared.line.KindWord.{KindWord}
use Rattle.table_text.specs.declared.line.KindWord.TheVariants as kinds
use Rattle.table_text.specs.declared.line.LabelWord.{LabelWord}
use Rattle.table_text.specs.declared.line.LabelWord.TheVariants as labels
use Rattle.table_text.specs.declared.line.TableLine.TheVariants as line_forms
use Rattle.table_text.proofs.Clean.{left_no, right_no}
use Rattle.table_text.proofs.Complete.{field_number_is}
use Rattle.table_text.proofs.FormLines.{kept, kept_whole, fits_within, in_32}
use Rattle.table_text.proofs.FormParts.{Fits, IsFormed, enum_name, message_name, method_key_of, first_same, rest_same, named_in, in_names, counted}
use Rattle.table_text.proofs.FormPlaces.{either_true, is_not}
use Rattle.table_text.proofs.FormTests.{lacks_value_said, lacks_zero_said, outside, below, value_falls_said}
use Rattle.table_text.proofs.FormTests.{outside_message, below_field, field_falls_said, value_before_said}
use Rattle.table_text.proofs.FormTests.{field_before_said, repeats_said, many_said, enum_falls_said}
use Rattle.table_text.proofs.FormTests.{message_falls_said}
use Rattle.table_text.proofs.OrderLemmas.{contains_first, contains_later, among_contains, not_among}
use Rattle.table_text.proofs.ParseLemmas.{unsome, behind_is}
use Rattle.table_text.proofs.SpellLemmas.{chosen, dark, name_dark, full_dark, split_dark, split_last, text_is, words_dark, words_of-spaced, some_words}
use Rattle.table_text.proofs.Soundness.{empty_is}

-- ---- names in what is kept

pub some_in : {X : Type 0} (xs : List X) → not (is_empty xs) ≡ true → (x : X) × Contains xs x
some_in [] e = absurd cc
some_in (x ∷ xs) e = (x, contains_first x xs)

pub enum_is : (f : TableLineForm) (n : List ℕ) → enum_name f ≡ Some n → f ≡ enum n
enum_is (enum m) n e = let same : m ≡ n = unsome e in ap enum same
enum_is (value z m) n e = absurd cc
enum_is (message m) n e = absurd cc
enum_is (field i l k m) n e = absurd cc
enum_is (method i s m x y) n e = absurd cc

pub message_is : (f : TableLineForm) (n : List ℕ) → message_name f ≡ Some n → f ≡ message n
message_is (enum m) n e = absurd cc
message_is (value z m) n e = absurd cc
message_is (message m) n e = let same : m ≡ n = unsome e in ap message same
message_is (field i l k m) n e = absurd cc
message_is (method i s m x y) n e = absurd cc

pub method_is : (f : TableLineForm) (n : List ℕ) → method_key_of f ≡ Some n → is_method_line f ≡ true
method_is (enum m) n e = absurd cc
method_is (value z m) n e = absurd cc
method_is (message m) n e = absurd cc
method_is (field i l k m) n e = absurd cc
method_is (method i s m x y) n e = refl

pub enum_contained : (fs : List TableLineForm) (ns : List (List ℕ)) (n : List ℕ) → filter_map enum_name fs ≡ ns → Contains ns n → Contains fs (enum n)
enum_contained fs ns n e c =
    let g = named_in enum_name fs n (subst (λ (xs : List (List ℕ)). Contains xs n) (sym e) c) in
    subst (λ h. Contains fs h) (enum_is g.0 n g.2) g.1

pub message_contained : (fs : List TableLineForm) (ns : List (List ℕ)) (n : List ℕ) → filter_map message_name fs ≡ ns → Contains ns n → Contains fs (message n)
message_contained fs ns n e c =
    let g = named_in message_name fs n (subst (λ (xs : List (List ℕ)). Contains xs n) (sym e) c) in
    subst (λ h. Contains fs h) (message_is g.0 n g.2) g.1

pub enums_counted : (fs : List TableLineForm) (b : NamesBefore) → Fits fs b → count_by is_enum_line fs ≡ length b.enums
enums_counted fs b s = sym (counted is_enum_line enum_name fs each) ∙ ap length s.enums
  where
    each : (f : TableLineForm) → length (option_to_list (enum_name f)) ≡ count_by is_enum_line (f ∷ [])
    each (enum m) = refl
    each (value z m) = refl
    each (message m) = refl
    each (field i l k m) = refl
    each (method i s m x y) = refl

pub messages_counted : (fs : List TableLineForm) (b : NamesBefore) → Fits fs b → count_by is_message_line fs ≡ length b.messages
messages_counted fs b s = sym (counted is_message_line message_name fs each) ∙ ap length s.messages
  where
    each : (f : TableLineForm) → length (option_to_list (message_name f)) ≡ count_by is_message_line (f ∷ [])
    each (enum m) = refl
    each (value z m) = refl
    each (message m) = refl
    each (field i l k m) = refl
    each (method i s m x y) = refl

pub methods_counted : (fs : List TableLineForm) (b : NamesBefore) → Fits fs b → count_by is_method_line fs ≡ length b.methods
methods_counted fs b s = sym (counted is_method_line method_key_of fs each) ∙ ap length s.methods
  where
    each : (f : TableLineForm) → length (option_to_list (method_key_of f)) ≡ count_by is_method_line (f ∷ [])
    each (enum m) = refl
    each (value z m) = refl
    each (message m) = refl
    each (field i l k m) = refl
    each (method i s m x y) = refl

-- ---- Syntax

clash_said : (lines : List (List ℕ)) (fs : List TableLineForm) (line : List ℕ) (n : ℕ) (l : LabelWord) (k : KindWord)
    (m : List ℕ) → HasLineForm line (field n l k m) → clashes l k ≡ true → IsFaultyLine lines fs line Syntax
clash_said lines fs line n labels.Plain k m says e = absurd cc
clash_said lines fs line n labels.Optional (kinds.Scalar k) m says e = absurd cc
clash_said lines fs line n labels.Optional (kinds.Message t) m says e = optional_message n t m says refl
clash_said lines fs line n labels.Optional (kinds.Choice t) m says e = absurd cc
clash_said lines fs line n labels.Repeated k m says e = absurd cc
clash_said lines fs line n labels.Packed k m says e = packed_no_number n k m says (is_not (is_packable_word k) e) refl
clash_said lines fs line n (labels.Map key) k m says e = absurd cc
clash_said lines fs line n (labels.Member o) k m says e = absurd cc

syntax_said : (lines : List (List ℕ)) (fs : List TableLineForm) (b : NamesBefore) (line : List ℕ) (f : TableLineForm) → Fits fs b
    → HasLineForm line f → has_syntax_fault b (kept f) ≡ true → IsFaultyLine lines fs line Syntax
syntax_said lines fs b line (enum n) s says e =
    let lacks = lacks_value b.open_part in
    let behind_messages = not (is_empty b.messages) in
    let behind_methods = not (is_empty b.methods) in
    elim (either_true ((lacks || behind_messages) || behind_methods) (is_below_last n b.enums) e) [
      | inl early ↦ elim (either_true (lacks || behind_messages) behind_methods early) [
        | inl first ↦ elim (either_true lacks behind_messages first) [
          | inl none ↦ enum_without_value (enum n) says refl (lacks_value_said fs b.open_part s.part none) refl
          | inr some ↦
              let x = some_in b.messages some.1 in
              enum_after_message n x.0 says (message_contained fs b.messages x.0 s.messages x.1) refl
        ]
        | inr some ↦
            let k = some_in b.methods some.1 in
            let g = named_in method_key_of fs k.0 (subst (λ (xs : List (List ℕ)). Contains xs k.0) (sym s.methods) k.1) in
            enum_after_method n g.0 says g.1 (method_is g.0 k.0 g.2) refl
      ]
      | inr falling ↦
          let no_messages = empty_is b.messages (right_no lacks behind_messages (left_no (lacks || behind_messages) behind_methods falling.0)) in
          let no_methods = empty_is b.methods (right_no (lacks || behind_messages) behind_methods falling.0) in
          let r = enum_falls_said fs b.enums b.messages b.methods b.open_part n s.enums s.messages s.ordered s.part no_messages no_methods falling.1 in
          enum_out_of_order n r.0 says r.1 r.2 refl
    ]
syntax_said lines fs b line (value z n) s says e = elim (value_falls_said fs b.open_part z n s.part e) [
  | outside none ↦ value_outside z n says none refl
  | below v last less ↦ value_out_of_order z v.0 n v.1 says last less refl
]
syntax_said lines fs b line (message n) s says e =
    let lacks = lacks_value b.open_part in
    let behind_methods = not (is_empty b.methods) in
    elim (either_true (lacks || behind_methods) (is_below_last n b.messages) e) [
      | inl early ↦ elim (either_true lacks behind_methods early) [
        | inl none ↦ enum_without_value (message n) says refl (lacks_value_said fs b.open_part s.part none) refl
        | inr some ↦
            let k = some_in b.methods some.1 in
            let g = named_in method_key_of fs k.0 (subst (λ (xs : List (List ℕ)). Contains xs k.0) (sym s.methods) k.1) in
            message_after_method n g.0 says g.1 (method_is g.0 k.0 g.2) refl
      ]
      | inr falling ↦
          let no_methods = empty_is b.methods (right_no lacks behind_methods falling.0) in
          let r = message_falls_said fs b.messages b.methods b.open_part n s.messages s.ordered s.part no_methods falling.1 in
          message_out_of_order n r.0 says r.1 r.2 refl
    ]
syntax_said lines fs b line (field n l k m) s says e = elim (either_true (clashes l k) (is_field_out_of_order b.open_part (in_32_bits n)) e) [
  | inl clash ↦ clash_said lines fs line n l k m says clash
  | inr falling ↦ elim (field_falls_said fs b.open_part n s.part falling.1) [
    | outside_message none ↦ field_outside n l k m says none refl
    | below_field q last less ↦ field_out_of_order n q.number l q.label k q.kind m q.name says last less refl
  ]
]
syntax_said lines fs b line (method i sv n x y) s says e = enum_without_value (method i sv n x y) says refl (lacks_value_said fs b.open_part s.part e) refl

-- ---- Number

number_said : (lines : List (List ℕ)) (fs : List TableLineForm) (b : NamesBefore) (line : List ℕ) (f : TableLineForm) → Fits fs b
    → HasLineForm line f → has_number_fault b (kept f) ≡ true → IsFaultyLine lines fs line Number
number_said lines fs b line (enum n) s says e = enum_without_zero (enum n) says refl (lacks_zero_said fs b.open_part s.part e) refl
number_said lines fs b line (message n) s says e = enum_without_zero (message n) says refl (lacks_zero_said fs b.open_part s.part e) refl
number_said lines fs b line (value z n) s says e =
    let large : is_enum_number (kept_whole z) ≡ false = is_not (is_enum_number (kept_whole z)) e in
    value_out_of_range z n says (λ fits. let small : is_enum_number (kept_whole z) ≡ true = ap is_enum_number (fits_within z fits) in absurd cc) refl
number_said lines fs b line (field n l k m) s says e =
    let wrong : has_field_number (in_32_bits n) ≡ false = is_not (has_field_number (in_32_bits n)) e in
    no_field_number n l k m says (λ ok. elim (in_32 n) [
      | inl small ↦ let right : has_field_number (in_32_bits n) ≡ true = ap has_field_number small.0 ∙ field_number_is n ok in absurd cc
      | inr large ↦ absurd (omega (arith, large.1, ok.small))
    ]) refl
number_said lines fs b line (method i sv n x y) s says e = elim (either_true (lacks_zero b.open_part) (not (is_index (in_32_bits i) (length b.methods))) e) [
  | inl none ↦ enum_without_zero (method i sv n x y) says refl (lacks_zero_said fs b.open_part s.part none) refl
  | inr turn ↦
      let wrong : is_index (in_32_bits i) (length b.methods) ≡ false = is_not (is_index (in_32_bits i) (length b.methods)) turn.1 in
      index_out_of_turn i sv n x y says (λ same.
      let is : i ≡ length b.methods = same ∙ methods_counted fs b s in
      elim (in_32 i) [
        | inl small ↦ let right : is_index (in_32_bits i) (length b.methods) ≡ true =
            ap (λ (o : Option ℕ). is_index o (length b.methods)) small.0 ∙ eq-eqb i (length b.methods) is in absurd cc
        | inr large ↦ absurd (omega (arith, large.1, is, s.few))
      ]) refl
]

-- ---- Duplicate

type_before_said : (fs : List TableLineForm) (b : NamesBefore) (n : List ℕ) → Fits fs b → is_type_before b n ≡ true → Contains fs (enum n) ⊎ Contains fs (message n)
type_before_said fs b n s e = elim (either_true (is_among n b.enums) (is_among n b.messages) e) [
  | inl an_enum ↦ inl (enum_contained fs b.enums n s.enums (among_contains n b.enums an_enum))
  | inr a_message ↦ inr (message_contained fs b.messages n s.messages (among_contains n b.messages a_message.1))
]

key_split : (s n t m : List ℕ) → dark s ≡ true → dark n ≡ true → dark t ≡ true → dark m ≡ true → s ++ 32 ∷ n ≡ t ++ 32 ∷ m → (s ≡ t) × (n ≡ m)
key_split s n t m ds dn dt dm e =
    let left : slice_split (λ c. c == 32) (s ++ 32 ∷ n) ≡ s ∷ n ∷ [] = split_dark 32 s n (omega arith) ds
    ∙ ap (λ (ws : List (List ℕ)). s ∷ ws) (split_last 32 n (omega arith) dn) in
    let right : slice_split (λ c. c == 32) (t ++ 32 ∷ m) ≡ t ∷ m ∷ [] = split_dark 32 t m (omega arith) dt
    ∙ ap (λ (ws : List (List ℕ)). t ∷ ws) (split_last 32 m (omega arith) dm) in
    let both : s ∷ n ∷ [] ≡ t ∷ m ∷ [] = sym left ∙ ap (slice_split (λ c. c == 32)) e ∙ right in
    (first_same both, first_same (rest_same both))

method_twice_said : (lines : List (List ℕ)) (fs : List TableLineForm) (line : List ℕ) (i : ℕ) (s n x y : List ℕ) (g : TableLineForm)
    → HasLineForm line (method i s n x y) → Contains fs g → IsFormed g → method_key_of g ≡ Some (s ++ 32 ∷ n)
    → IsFaultyLine lines fs line Duplicate
method_twice_said lines fs line i s n x y (method j t m u v) says c formed e =
    let same = key_split t m s n (full_dark t formed.0) (name_dark m formed.1) (full_dark s says.3) (name_dark n says.4) (unsome e) in
    let here : Contains fs (method j s n u v) = subst (λ (w : List ℕ). Contains fs (method j s w u v)) same.1 (subst (λ (w : List ℕ). Contains fs (method j w m u v)) same.0 c) in
    method_twice i j s n x y u v says here refl
method_twice_said lines fs line i s n x y (enum m) says c formed e = absurd cc
method_twice_said lines fs line i s n x y (value z m) says c formed e = absurd cc
method_twice_said lines fs line i s n x y (message m) says c formed e = absurd cc
method_twice_said lines fs line i s n x y (field j l k m) says c formed e = absurd cc

duplicate_said : (lines : List (List ℕ)) (fs : List TableLineForm) (b : NamesBefore) (line : List ℕ) (f : TableLineForm) → Fits fs b
    → HasLineForm line f → has_duplicate b (kept f) ≡ true → IsFaultyLine lines fs line Duplicate
duplicate_said lines fs b line (enum n) s says e = elim (type_before_said fs b n s e) [
  | inl c ↦ type_twice (enum n) (enum n) n says refl c refl refl
  | inr c ↦ type_twice (enum n) (message n) n says refl c refl refl
]
duplicate_said lines fs b line (message n) s says e = elim (type_before_said fs b n s e) [
  | inl c ↦ type_twice (message n) (enum n) n says refl c refl refl
  | inr c ↦ type_twice (message n) (message n) n says refl c refl refl
]
duplicate_said lines fs b line (value z n) s says e = let r = value_before_said fs b.open_part n s.part e in value_twice z r.0 n says r.1 refl
duplicate_said lines fs b line (field n l k m) s says e = elim (either_true (is_field_before b.open_part m) (repeats_number b.open_part (in_32_bits n)) e) [
  | inl name ↦
      let q = field_before_said fs b.open_part m s.part name in
      field_twice n q.0.number l q.0.label k q.0.kind m says (subst (λ (w : List ℕ). IsEarlierInPart fs (field q.0.number q.0.label q.0.kind w)) q.1 q.2) refl
  | inr number ↦
      let q = repeats_said fs b.open_part n s.part number.1 in
      number_twice n l q.0.label k q.0.kind m q.0.name says (subst (λ (w : ℕ). IsPreviousLine fs (field w q.0.label q.0.kind q.0.name)) q.1 q.2) refl
]
duplicate_said lines fs b line (method i sv n x y) s says e =
    let key = among_contains (sv ++ 32 ∷ n) b.methods e in
    let g = named_in method_key_of fs (sv ++ 32 ∷ n) (subst (λ (xs : List (List ℕ)). Contains xs (sv ++ 32 ∷ n)) (sym s.methods) key) in
    method_twice_said lines fs line i sv n x y g.0 says g.1 (s.formed g.0 g.1) g.2

-- ---- UnknownType

-- a line declares a type exactly if it is `message ` or `enum ` followed by the type's full name
pub message_behind : (line n : List ℕ) → HasLineForm line (message n) → without_prefix (codes "message ") line ≡ Some n
message_behind line n h = ap (without_prefix (codes "message ")) (text_is line ∙ ap spaced h.0)

pub enum_behind : (line n : List ℕ) → HasLineForm line (enum n) → without_prefix (codes "enum ") line ≡ Some n
enum_behind line n h = ap (without_prefix (codes "enum ")) (text_is line ∙ ap spaced h.0)

pub behind_message : (line n : List ℕ) → without_prefix (codes "message ") line ≡ Some n → IsTrue (is_full_form n) → HasLineForm line (message n)
behind_message line n e form =
    let ws = codes "message" ∷ n ∷ [] in
    let whole : line ≡ spaced ws = behind_is (codes "message ") line n e in
    (ap words_of whole ∙ words_of-spaced ws (some_words ws (line_forms.Message n) (refl, form)) (words_dark ws (line_forms.Message n) (refl, form)), form)

pub behind_enum : (line n : List ℕ) → without_prefix (codes "enum ") line ≡ Some n → IsTrue (is_full_form n) → HasLineForm line (enum n)
behind_enum line n e form =
    let ws = codes "enum" ∷ n ∷ [] in
    let whole : line ≡ spaced ws = behind_is (codes "enum ") line n e in
    (ap words_of whole ∙ words_of-spaced ws (some_words ws (line_forms.Enum n) (refl, form)) (words_dark ws (line_forms.Enum n) (refl, form)), form)

record UnknownIn (lines : List (List ℕ)) (types : List TableLineForm) : Type 0 where
  type : TableLineForm
  used : Contains types type
  none : (other : List ℕ) → Contains lines other → HasLineForm other type → ⊥

unknown_message : (lines : List (List ℕ)) (n : List ℕ) → is_among n (types_of lines).messages ≡ false
    → (other : List ℕ) → Contains lines other → HasLineForm other (message n) → ⊥
unknown_message lines n e other c h = not_among n (types_of lines).messages e (in_names (without_prefix (codes "message ")) lines other n c (message_behind other n h))

unknown_enum : (lines : List (List ℕ)) (n : List ℕ) → is_among n (types_of lines).enums ≡ false → (other : List ℕ) → Contains lines other → HasLineForm other (enum n) → ⊥
unknown_enum lines n e other c h = not_among n (types_of lines).enums e (in_names (without_prefix (codes "enum ")) lines other n c (enum_behind other n h))

unknown_kind_said : (lines : List (List ℕ)) (k : KindWord) → is_unknown_kind (types_of lines) k ≡ true → UnknownIn lines (type_of_kind k)
unknown_kind_said lines (kinds.Scalar k) e = absurd cc
unknown_kind_said lines (kinds.Message n) e = record {
  type = message n;
  used = contains_first (message n) [];
  none = unknown_message lines n (is_not (is_among n (types_of lines).messages) e);
}
unknown_kind_said lines (kinds.Choice n) e = record { type = enum n; used = contains_first (enum n) []; none = unknown_enum lines n (is_not (is_among n (types_of lines).enums) e) }

unknown_label_said : (lines : List (List ℕ)) (l : LabelWord) → is_unknown_label (types_of lines) l ≡ true → UnknownIn lines (types_of_label l)
unknown_label_said lines labels.Plain e = absurd cc
unknown_label_said lines labels.Optional e = absurd cc
unknown_label_said lines labels.Repeated e = absurd cc
unknown_label_said lines labels.Packed e = absurd cc
unknown_label_said lines (labels.Map key) e = unknown_kind_said lines key e
unknown_label_said lines (labels.Member o) e = absurd cc

unknown_said : (lines : List (List ℕ)) (fs : List TableLineForm) (line : List ℕ) (f : TableLineForm) → HasLineForm line f → has_unknown_type (types_of lines) (kept f) ≡ true → IsFaultyLine lines fs line UnknownType
unknown_said lines fs line (enum n) says e = absurd cc
unknown_said lines fs line (value z n) says e = absurd cc
unknown_said lines fs line (message n) says e = absurd cc
unknown_said lines fs line (field n l k m) says e = elim (either_true (is_unknown_label (types_of lines) l) (is_unknown_kind (types_of lines) k) e) [
  | inl label ↦
      let u = unknown_label_said lines l label in
      unknown_type (field n l k m) u.type says (Contains-append_left (types_of_label l) (type_of_kind k) u.type u.used) u.none refl
  | inr kind ↦
      let u = unknown_kind_said lines k kind.1 in
      unknown_type (field n l k m) u.type says (Contains-append_right (types_of_label l) (type_of_kind k) u.type u.used) u.none refl
]
unknown_said lines fs line (method i s n x y) says e = elim (either_true (not (is_among x (types_of lines).messages)) (not (is_among y (types_of lines).messages)) e) [
  | inl input ↦ unknown_type (method i s n x y) (message x) says (contains_first (message x) (message y ∷ []))
      (unknown_message lines x (is_not (is_among x (types_of lines).messages) input)) refl
  | inr output ↦
      unknown_type (method i s n x y) (message y) says (contains_later (message x) (message y) (message y ∷ []) (contains_first (message y) []))
      (unknown_message lines y (is_not (is_among y (types_of lines).messages) output.1)) refl
]

-- ---- MapKey

map_key_said : (lines : List (List ℕ)) (fs : List TableLineForm) (line : List ℕ) (f : TableLineForm) → HasLineForm line f → has_map_key_fault (kept f) ≡ true → IsFaultyLine lines fs line MapKey
map_key_said lines fs line (enum n) says e = absurd cc
map_key_said lines fs line (value z n) says e = absurd cc
map_key_said lines fs line (message n) says e = absurd cc
map_key_said lines fs line (field n labels.Plain k m) says e = absurd cc
map_key_said lines fs line (field n labels.Optional k m) says e = absurd cc
map_key_said lines fs line (field n labels.Repeated k m) says e = absurd cc
map_key_said lines fs line (field n labels.Packed k m) says e = absurd cc
map_key_said lines fs line (field n (labels.Map key) k m) says e = map_key n key k m says (is_not (is_key_kind key) e) refl
map_key_said lines fs line (field n (labels.Member o) k m) says e = absurd cc
map_key_said lines fs line (method i s n x y) says e = absurd cc

-- ---- Limit

both_false : (a b : Bool) → (a && b) ≡ false → (a ≡ false) ⊎ (b ≡ false)
both_false true b e = inr e
both_false false b e = inl refl

long_said : (lines : List (List ℕ)) (fs : List TableLineForm) (line : List ℕ) (f : TableLineForm) (n : List ℕ) → HasLineForm line f
    → Contains (names_in f) n → is_short n ≡ false → IsFaultyLine lines fs line Limit
long_said lines fs line f n says c e = long_name f n says c (leb-false (length n) 64 e) refl

full_kind_said : (k : KindWord) → is_short_kind k ≡ false → (n : List ℕ) × Contains (full_name_of_kind k) n × (is_short_full n ≡ false)
full_kind_said (kinds.Scalar k) e = absurd cc
full_kind_said (kinds.Message n) e = (n, contains_first n [], e)
full_kind_said (kinds.Choice n) e = (n, contains_first n [], e)

label_names_said : (lines : List (List ℕ)) (fs : List TableLineForm) (line : List ℕ) (i : ℕ) (l : LabelWord) (k : KindWord)
    (m : List ℕ) → HasLineForm line (field i l k m) → is_short_label l ≡ false → IsFaultyLine lines fs line Limit
label_names_said lines fs line i labels.Plain k m says e = absurd cc
label_names_said lines fs line i labels.Optional k m says e = absurd cc
label_names_said lines fs line i labels.Repeated k m says e = absurd cc
label_names_said lines fs line i labels.Packed k m says e = absurd cc
label_names_said lines fs line i (labels.Map key) k m says e =
    let r = full_kind_said key e in
    long_full_name (field i (labels.Map key) k m) r.0 says (Contains-append_left (full_name_of_kind key) (full_name_of_kind k) r.0 r.1) r.2 refl
label_names_said lines fs line i (labels.Member o) k m says e = long_said lines fs line (field i (labels.Member o) k m) o says (contains_later m o (o ∷ []) (contains_first o [])) e

names_said : (lines : List (List ℕ)) (fs : List TableLineForm) (line : List ℕ) (f : TableLineForm) → HasLineForm line f → has_short_names (kept f) ≡ false → IsFaultyLine lines fs line Limit
names_said lines fs line (enum n) says e = long_full_name (enum n) n says (contains_first n []) e refl
names_said lines fs line (value z n) says e = long_said lines fs line (value z n) n says (contains_first n []) e
names_said lines fs line (message n) says e = long_full_name (message n) n says (contains_first n []) e refl
names_said lines fs line (field i l k m) says e = elim (both_false (is_short_label l && is_short_kind k) (is_short m) e) [
  | inl words ↦ elim (both_false (is_short_label l) (is_short_kind k) words) [
    | inl label ↦ label_names_said lines fs line i l k m says label
    | inr kind ↦
        let r = full_kind_said k kind in
        long_full_name (field i l k m) r.0 says (Contains-append_right (full_names_of_label l) (full_name_of_kind k) r.0 r.1) r.2 refl
  ]
  | inr name ↦ long_said lines fs line (field i l k m) m says (contains_first m (names_of_label l)) name
]
names_said lines fs line (method i s n x y) says e = elim (both_false ((is_short_full s && is_short n) && is_short_full x) (is_short_full y) e) [
  | inl first ↦ elim (both_false (is_short_full s && is_short n) (is_short_full x) first) [
    | inl key ↦ elim (both_false (is_short_full s) (is_short n) key) [
      | inl service ↦ long_full_name (method i s n x y) s says (contains_first s (x ∷ y ∷ [])) service refl
      | inr name ↦ long_said lines fs line (method i s n x y) n says (contains_first n []) name
    ]
    | inr input ↦ long_full_name (method i s n x y) x says (contains_later s x (x ∷ y ∷ []) (contains_first x (y ∷ []))) input refl
  ]
  | inr output ↦ long_full_name (method i s n x y) y says (contains_later s y (x ∷ y ∷ []) (contains_later x y (y ∷ []) (contains_first y []))) output refl
]

full_said : (lines : List (List ℕ)) (fs : List TableLineForm) (b : NamesBefore) (line : List ℕ) (f : TableLineForm) → Fits fs b → HasLineForm line f → has_one_too_many b (kept f) ≡ true → IsFaultyLine lines fs line Limit
full_said lines fs b line (enum n) s says e = too_many_enums n says (omega (arith, enums_counted fs b s, leb-true 256 (length b.enums) e)) refl
full_said lines fs b line (value z n) s says e = too_many_values z n says (many_said fs b.open_part 1024 (omega arith) s.part e) refl
full_said lines fs b line (message n) s says e = too_many_messages n says (omega (arith, messages_counted fs b s, leb-true 256 (length b.messages) e)) refl
full_said lines fs b line (field i l k m) s says e = too_many_fields i l k m says (many_said fs b.open_part 128 (omega arith) s.part e) refl
full_said lines fs b line (method i sv n x y) s says e = too_many_methods i sv n x y says (omega (arith, methods_counted fs b s, leb-true 256 (length b.methods) e)) refl

limit_said : (lines : List (List ℕ)) (fs : List TableLineForm) (b : NamesBefore) (bytes : ℕ) (line : List ℕ) (f : TableLineForm) → Fits fs b
    → HasLineForm line f → exceeds_limit b bytes (kept f) ≡ true → IsFaultyLine lines fs line Limit ⊎ (65536 < bytes)
limit_said lines fs b bytes line f s says e = elim (either_true (not (has_short_names (kept f)) || has_one_too_many b (kept f)) (nat_lt 65536 bytes) e) [
  | inl parts ↦ elim (either_true (not (has_short_names (kept f))) (has_one_too_many b (kept f)) parts) [
    | inl names ↦ inl (names_said lines fs line f says (is_not (has_short_names (kept f)) names))
    | inr full ↦ inl (full_said lines fs b line f s says full.1)
  ]
  | inr long ↦ inr (ltb-true 65536 bytes long.1)
]

-- ---- the reason that is found

pub found_stands : (lines : List (List ℕ)) (fs : List TableLineForm) (b : NamesBefore) (bytes : ℕ) (line : List ℕ) (f : TableLineForm)
    (q : TableReason) → Fits fs b → HasLineForm line f → line_fault (types_of lines) b bytes (Some (kept f)) ≡ Some q
    → IsFaultyLine lines fs line q ⊎ ((65536 < bytes) × (q ≡ Limit))
found_stands lines fs b bytes line f q s says e =
    let t = types_of lines in
    let l = kept f in
    let p6 = cond (exceeds_limit b bytes l) (Some Limit) None in
    let p5 = cond (has_map_key_fault l) (Some MapKey) p6 in
    let p4 = cond (has_unknown_type t l) (Some UnknownType) p5 in
    let p3 = cond (has_duplicate b l) (Some Duplicate) p4 in
    let p2 = cond (has_number_fault b l) (Some Number) p3 in
    elim (chosen (has_syntax_fault b l) (Some Syntax) p2 (Some q) e) [
      | inl h ↦ inl (subst (IsFaultyLine lines fs line) (unsome h.1) (syntax_said lines fs b line f s says h.0))
      | inr e2 ↦ elim (chosen (has_number_fault b l) (Some Number) p3 (Some q) e2) [
        | inl h ↦ inl (subst (IsFaultyLine lines fs line) (unsome h.1) (number_said lines fs b line f s says h.0))
        | inr e3 ↦ elim (chosen (has_duplicate b l) (Some Duplicate) p4 (Some q) e3) [
          | inl h ↦ inl (subst (IsFaultyLine lines fs line) (unsome h.1) (duplicate_said lines fs b line f s says h.0))
          | inr e4 ↦ elim (chosen (has_unknown_type t l) (Some UnknownType) p5 (Some q) e4) [
            | inl h ↦ inl (subst (IsFaultyLine lines fs line) (unsome h.1) (unknown_said lines fs line f says h.0))
            | inr e5 ↦ elim (chosen (has_map_key_fault l) (Some MapKey) p6 (Some q) e5) [
              | inl h ↦ inl (subst (IsFaultyLine lines fs line) (unsome h.1) (map_key_said lines fs line f says h.0))
              | inr e6 ↦ elim (chosen (exceeds_limit b bytes l) (Some Limit) None (Some q) e6) [
                | inl h ↦ elim (limit_said lines fs b bytes line f s says h.0) [
                  | inl stands ↦ inl (subst (IsFaultyLine lines fs line) (unsome h.1) stands)
                  | inr long ↦ inr (long, sym (unsome h.1))
                ]
                | inr e7 ↦ absurd cc
              ]
            ]
          ]
        ]
      ]
    ]
