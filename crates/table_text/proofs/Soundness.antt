-- A draft without a line at fault is valid as far as it was read.
use Rattle.std.proofs.Common.{◌≡◌, ℕ, ℤ, pos, ◌+◌, ◌<◌, ◌≤◌, ◌==◌, ◌||◌, ◌&&◌, not, Bool, true, false, cond, List, []}
use Rattle.std.proofs.Common.{◌∷◌, ◌++◌, length, map, get_or, Option, Some, None, refl, ap, sym, subst, ◌∙◌}
use Rattle.std.proofs.Common.{append_assoc, arith, inl, inr, length-append}
use Rattle.std.specs.Prelude.{nat_le, nat_lt, IsTrue, FitsSigned}
use Rattle.std.specs.Int.{w32}
use Rattle.std.specs.List.{All, Contains, list_any, AllByRecursion}
use Rattle.std.specs.Option.{option_map_or}
use Rattle.std.specs.Prelude.{option_map}
use Rattle.std.specs.Ordering.{int_eq}
use Rattle.std.proofs.lemmas.List.{append-nil, nil_from_length}
use Rattle.std.proofs.lemmas.List.Elements.{All-push, recursion_from_All, Contains-append_cases}
use Rattle.std.proofs.lemmas.Bool.{leb-true, leb-false, ltb-true, ltb-false, eqb-true, eqb-false}
use Rattle.mrpc_table.specs.Names.{is_name_form, is_full_form, is_short, is_short_full, IsName, IsFullName}
use Rattle.mrpc_table.specs.Words.{is_numeric, is_key}
use Rattle.mrpc_table.specs.declared.limits.TheConstants.{MAX_FIELD_NUMBER, FIRST_RESERVED_NUMBER, LAST_RESERVED_NUMBER}
use Rattle.mrpc_table.specs.Valid.{IsAscendingBy, AreDistinct, IsBelow, IsValueBelow, IsFieldNumber, IsKnown, IsMessageKind, IsLabelFor, IsNextOneof, AreOneofsInOrder, IsField, IsMessage, IsEnum, IsMethod}
use Rattle.table_text.specs.LineTests as faults
use Rattle.table_text.proofs.TableFacts.{follow_le}
use Rattle.table_text.proofs.TableFacts.{both_left, both_right}
use Rattle.table_text.specs.Faults.{is_packable_word, is_key_kind}
use Rattle.table_text.specs.LineTests.{fields, method_key, is_field_out_of_order, is_field_below, repeats_number, is_field_before}
use Rattle.table_text.specs.LineTests.{open_count, TypeNames, NamesBefore, is_among, is_empty, is_value_below, is_below_last, last_of}
use Rattle.table_text.specs.LineTests.{lacks_value, lacks_zero, has_field_number, is_index, clashes}
use Rattle.table_text.specs.LineTests.{is_message_word, is_unknown_kind, is_unknown_label}
use Rattle.table_text.specs.LineTests.{is_map_key_label, is_short_kind, is_short_label}
use Rattle.table_text.specs.NameIndex.{index_or_next}
use Rattle.table_text.specs.Drafts.{open_part, enum_names, message_names, method_names, names_before_line, resolved, labeled}
use Rattle.table_text.specs.Drafts.{new_oneof, joined_with, resolved_field, resolved_method, with_enum, with_message, with_field_line}
use Rattle.table_text.specs.Drafts.{with_part, added_enum, added_message, added_method}
use Rattle.mrpc_table.specs.declared.table.Kind.{Kind}
use Rattle.mrpc_table.specs.declared.table.Kind.TheVariants.{Int32, Int64, Uint32, Uint64, Sint32, Sint64}
use Rattle.mrpc_table.specs.declared.table.Kind.TheVariants.{Bool as TheBool, Fixed32, Fixed64, Sfixed32, Sfixed64}
use Rattle.mrpc_table.specs.declared.table.Kind.TheVariants.{Float, Double, Text, Octets, Message as OfMessage}
use Rattle.mrpc_table.specs.declared.table.Kind.TheVariants.{Choice}
use Rattle.mrpc_table.specs.declared.table.Label.{Label}
use Rattle.mrpc_table.specs.declared.table.Label.TheVariants.{Plain, Optional, Repeated, Packed, Map, Member}
use Rattle.mrpc_table.specs.declared.table.Field.{Field as TheField}
use Rattle.mrpc_table.specs.declared.table.Message.{Message as TheMessage}
use Rattle.mrpc_table.specs.declared.table.Choices.{Choices}
use Rattle.mrpc_table.specs.declared.table.Method.{Method as TheMethod}
use Rattle.mrpc_table.specs.declared.table.Table.{Table}
use Rattle.table_text.specs.declared.line.KindWord.{KindWord}
use Rattle.table_text.specs.declared.line.KindWord.TheVariants as kinds
use Rattle.table_text.specs.declared.line.LabelWord.{LabelWord}
use Rattle.table_text.specs.declared.line.LabelWord.TheVariants as labels
use Rattle.table_text.specs.declared.line.EnumNumber.TheVariants.{Within}
use Rattle.table_text.specs.declared.line.FieldLine.{FieldLine}
use Rattle.table_text.specs.declared.line.MethodLine.{MethodLine}
use Rattle.table_text.specs.declared.line.TableLine.TheVariants.{Enum, Value, Message, Field, Method}
use Rattle.table_text.specs.declared.draft.OpenPart.{OpenPart}
use Rattle.table_text.specs.declared.draft.OpenPart.TheVariants as open_parts
use Rattle.table_text.specs.declared.draft.TableDraft.{TableDraft}
use Rattle.table_text.proofs.KeptLemmas.{map_push, closed_enums, closed_messages, numbered}
use Rattle.table_text.proofs.LastLemmas.{last-map}
use Rattle.table_text.proofs.OrderLemmas.{ascends_push, distinct_push, contains_first, contains_later, not_among, falls_not, value_not_below, int_equal, other_name}
use Rattle.table_text.proofs.Clean.{IsClean, left_no, right_no, not_no, names_table, named_message, named_enum, place_known}
use Rattle.table_text.proofs.DraftText.{LabelPlaced, IsSmall, member_new}
use Rattle.table_text.proofs.SpellLemmas.{KindIs, LabelIs, IsScalar}
use Rattle.std.proofs.lemmas.List.{length-map}
use Rattle.table_text.proofs.ParseLemmas.{ltb_tells}

-- an enum to which a value may come
pub record IsGrowing (c : Choices) : Type 0 where
  pub name : IsFullName c.name
  pub few : length c.values ≤ 1024
  pub numbers : All (λ v. FitsSigned w32 v.0) c.values
  pub each_name : All (λ v. IsName v.1) c.values
  pub ascend : IsAscendingBy IsValueBelow c.values
  pub names : AreDistinct (map (λ v. v.1) c.values)

abbrev pub IsPart : TypeNames → OpenPart → Type 0
IsPart t (open_parts.Enum c) = IsGrowing c
IsPart t (open_parts.Message m) = IsMessage (names_table t) m
IsPart t open_parts.Nothing = Unit {0}

abbrev pub IsOrdered : OpenPart → TableDraft → Type 0
IsOrdered (open_parts.Enum c) d = (d.messages ≡ []) × (d.methods ≡ [])
IsOrdered (open_parts.Message m) d = d.methods ≡ []
IsOrdered open_parts.Nothing d = Unit {0}

pub record IsSound (t : TypeNames) (d : TableDraft) : Type 0 where
  pub enums_up : IsAscendingBy IsBelow (enum_names d)
  pub messages_up : IsAscendingBy IsBelow (message_names d)
  pub distinct : AreDistinct (enum_names d ++ message_names d)
  pub methods_distinct : AreDistinct (method_names d)
  pub few_enums : length (enum_names d) ≤ 256
  pub few_messages : length (message_names d) ≤ 256
  pub few_methods : length d.methods ≤ 256
  pub enums : All IsEnum d.enums
  pub messages : All (IsMessage (names_table t)) d.messages
  pub methods : All (IsMethod (names_table t)) d.methods
  pub part : IsPart t d.open_part
  pub ordered : IsOrdered d.open_part d

pub empty_is : {X : Type 0} (xs : List X) → not (is_empty xs) ≡ false → xs ≡ []
empty_is xs e = nil_from_length xs (eqb-true (length xs) 0 (not_no (is_empty xs) e))

pub not_le : (n m : ℕ) → nat_le n m ≡ false → m < n
not_le n m e = leb-false n m e

zero_contained : (vs : List (ℤ × List ℕ)) → list_any (λ v. int_eq v.0 (pos 0)) vs ≡ true → Contains (map (λ v. v.0) vs) (pos 0)
zero_contained [] e = absurd cc
zero_contained (v ∷ vs) e =
    elim (int_eq v.0 (pos 0)) as (λ (b : Bool). int_eq v.0 (pos 0) ≡ b → (b || list_any (λ v. int_eq v.0 (pos 0)) vs) ≡ true → Contains (map (λ v. v.0) (v ∷ vs)) (pos 0)) [
      | true ↦ λ is f. subst (λ (z : ℤ). Contains (v.0 ∷ map (λ v. v.0) vs) z) (int_equal v.0 (pos 0) is) (contains_first v.0 (map (λ v. v.0) vs))
      | false ↦ λ is f. contains_later v.0 (pos 0) (map (λ v. v.0) vs) (zero_contained vs f)
    ] refl e

-- the open part as a finished one
pub whole_enums : (t : TypeNames) (o : OpenPart) (es : List Choices) → IsPart t o → lacks_value (open_part o) ≡ false
    → lacks_zero (open_part o) ≡ false → All IsEnum es → All IsEnum (with_enum o es)
whole_enums t (open_parts.Enum c) es part some zero_in all =
    All-push IsEnum es c all (record {
      name = part.name;
      few = part.few;
      numbers = part.numbers;
      each_name = part.each_name;
      ascend = part.ascend;
      names = part.names;
      zero = zero_contained c.values (not_no (list_any (λ v. int_eq v.0 (pos 0)) c.values) zero_in);
    })
whole_enums t (open_parts.Message m) es part some zero_in all = all
whole_enums t open_parts.Nothing es part some zero_in all = all

pub whole_messages : (t : TypeNames) (o : OpenPart) (ms : List TheMessage) → IsPart t o → All (IsMessage (names_table t)) ms → All (IsMessage (names_table t)) (with_message o ms)
whole_messages t (open_parts.Message m) ms part all = All-push (IsMessage (names_table t)) ms m all part
whole_messages t (open_parts.Enum c) ms part all = all
whole_messages t open_parts.Nothing ms part all = all

pub length_push : {X : Type 0} (xs : List X) (x : X) → length (xs ++ x ∷ []) ≡ length xs + 1
length_push xs x = length-append xs (x ∷ [])

pub no_names : {X : Type 0} (f : X → List ℕ) (xs : List X) → map f xs ≡ [] → xs ≡ []
no_names f [] e = refl
no_names f (x ∷ xs) e = absurd cc

-- a new name of an enum or a message, after the others
distinct_enum : (es ms : List (List ℕ)) (n : List ℕ) → ms ≡ [] → AreDistinct (es ++ ms) → is_among n es ≡ false → AreDistinct ((es ++ n ∷ []) ++ ms)
distinct_enum es ms n none d new =
    let e : AreDistinct es = subst AreDistinct (ap (λ (xs : List (List ℕ)). es ++ xs) none ∙ append-nil es) d in
    subst AreDistinct (sym (ap (λ (xs : List (List ℕ)). (es ++ n ∷ []) ++ xs) none ∙ append-nil (es ++ n ∷ []))) (distinct_push es n e (not_among n es new))

distinct_message : (es ms : List (List ℕ)) (n : List ℕ) → AreDistinct (es ++ ms) → is_among n es ≡ false → is_among n ms ≡ false → AreDistinct (es ++ (ms ++ n ∷ []))
distinct_message es ms n d new_enum new_message =
    subst AreDistinct (append_assoc es ms (n ∷ []))
    (distinct_push (es ++ ms) n d
    (λ h. elim (Contains-append_cases es ms n h) [
      | inl a ↦ not_among n es new_enum a
      | inr b ↦ not_among n ms
          new_message b
    ]))

pub sound_enum : (t : TypeNames) (d : TableDraft) (bytes : ℕ) (n : List ℕ) → IsSound t d → IsTrue (is_full_form n) → IsClean t (names_before_line d) bytes (Enum n) → IsSound t (added_enum d n)
sound_enum t d bytes n s form h =
    let o = d.open_part in
    let es = with_enum o d.enums in
    let ms = with_message o d.messages in
    let front = left_no ((lacks_value (open_part o) || not (is_empty (message_names d))) || not (is_empty (method_names d))) (is_below_last n (enum_names d)) h.syntax in
    let falls_none = right_no ((lacks_value (open_part o) || not (is_empty (message_names d))) || not (is_empty (method_names d))) (is_below_last n (enum_names d)) h.syntax in
    let parts = left_no (lacks_value (open_part o) || not (is_empty (message_names d))) (not (is_empty (method_names d))) front in
    let no_methods : method_names d ≡ [] = empty_is (method_names d) (right_no (lacks_value (open_part o) || not (is_empty (message_names d))) (not (is_empty (method_names d))) front) in
    let no_messages : message_names d ≡ [] = empty_is (message_names d) (right_no (lacks_value (open_part o)) (not (is_empty (message_names d))) parts) in
    let some = left_no (lacks_value (open_part o)) (not (is_empty (message_names d))) parts in
    let new_enum = left_no (is_among n (enum_names d)) (is_among n (message_names d)) h.duplicate in
    let short = not_no (is_short_full n) (left_no (not (is_short_full n)) (nat_le 256 (length (enum_names d)))
    (left_no (not (is_short_full n) || nat_le 256 (length (enum_names d))) (nat_lt 65536 bytes) h.limit)) in
    let few = not_le 256 (length (enum_names d))
    (right_no (not (is_short_full n)) (nat_le 256 (length (enum_names d)))
    (left_no (not (is_short_full n) || nat_le 256 (length (enum_names d))) (nat_lt 65536 bytes) h.limit)) in
    let names : map (λ e. e.name) es ++ n ∷ [] ≡ enum_names d ++ n ∷ [] = ap (λ (xs : List (List ℕ)). xs ++ n ∷ []) (closed_enums o d.enums) in
    let messages : map (λ m. m.name) ms ++ [] ≡ message_names d = append-nil (map (λ m. m.name) ms) ∙ closed_messages o d.messages in
    let none_whole : ms ≡ [] = no_names (λ m. m.name) ms (closed_messages o d.messages ∙ no_messages) in
    let none_methods : d.methods ≡ [] = no_names (λ m. m.service ++ 32 ∷ m.name) d.methods no_methods in
    record {
      enums_up = subst (IsAscendingBy IsBelow) (sym names) (ascends_push IsBelow (enum_names d) n s.enums_up (falls_not n (enum_names d) falls_none new_enum));
      messages_up = subst (IsAscendingBy IsBelow) (sym messages) s.messages_up;
      distinct = subst AreDistinct
          (sym (ap (λ (xs : List (List ℕ)). xs ++ (map (λ m. m.name) ms ++ [])) names
          ∙ ap (λ (xs : List (List ℕ)). (enum_names d ++ n ∷ []) ++ xs) messages))
          (distinct_enum (enum_names d) (message_names d) n no_messages s.distinct new_enum);
      methods_distinct = s.methods_distinct;
      few_enums = omega (arith, ap length names, length_push (enum_names d) n, few);
      few_messages = omega (arith, ap length messages, s.few_messages);
      few_methods = s.few_methods;
      enums = whole_enums t o d.enums s.part some h.number s.enums;
      messages = whole_messages t o d.messages s.part s.messages;
      methods = s.methods;
      part = record {
        name = record { form = form; short = short };
        few = omega arith;
        numbers = λ k x lt. absurd (omega arith);
        each_name = λ k x lt. absurd (omega arith);
        ascend = tt;
        names = tt;
      };
      ordered = (none_whole, none_methods);
    }

pub sound_message : (t : TypeNames) (d : TableDraft) (bytes : ℕ) (n : List ℕ) → IsSound t d → IsTrue (is_full_form n)
    → IsClean t (names_before_line d) bytes (Message n) → IsSound t (added_message d n)
sound_message t d bytes n s form h =
    let o = d.open_part in
    let es = with_enum o d.enums in
    let ms = with_message o d.messages in
    let front = left_no (lacks_value (open_part o) || not (is_empty (method_names d))) (is_below_last n (message_names d)) h.syntax in
    let falls_none = right_no (lacks_value (open_part o) || not (is_empty (method_names d))) (is_below_last n (message_names d)) h.syntax in
    let no_methods : method_names d ≡ [] = empty_is (method_names d) (right_no (lacks_value (open_part o)) (not (is_empty (method_names d))) front) in
    let some = left_no (lacks_value (open_part o)) (not (is_empty (method_names d))) front in
    let new_enum = left_no (is_among n (enum_names d)) (is_among n (message_names d)) h.duplicate in
    let new_message = right_no (is_among n (enum_names d)) (is_among n (message_names d)) h.duplicate in
    let short = not_no (is_short_full n) (left_no (not (is_short_full n)) (nat_le 256 (length (message_names d)))
    (left_no (not (is_short_full n) || nat_le 256 (length (message_names d))) (nat_lt 65536 bytes) h.limit)) in
    let few = not_le 256 (length (message_names d))
    (right_no (not (is_short_full n)) (nat_le 256 (length (message_names d)))
    (left_no (not (is_short_full n) || nat_le 256 (length (message_names d))) (nat_lt 65536 bytes) h.limit)) in
    let enums : map (λ e. e.name) es ++ [] ≡ enum_names d = append-nil (map (λ e. e.name) es) ∙ closed_enums o d.enums in
    let names : map (λ m. m.name) ms ++ n ∷ [] ≡ message_names d ++ n ∷ [] = ap (λ (xs : List (List ℕ)). xs ++ n ∷ []) (closed_messages o d.messages) in
    let none_methods : d.methods ≡ [] = no_names (λ m. m.service ++ 32 ∷ m.name) d.methods no_methods in
    record {
      enums_up = subst (IsAscendingBy IsBelow) (sym enums) s.enums_up;
      messages_up = subst (IsAscendingBy IsBelow) (sym names) (ascends_push IsBelow (message_names d) n s.messages_up (falls_not n (message_names d) falls_none new_message));
      distinct = subst AreDistinct
          (sym (ap (λ (xs : List (List ℕ)). xs ++ (map (λ m. m.name) ms ++ n ∷ [])) enums
          ∙ ap (λ (xs : List (List ℕ)). enum_names d ++ xs) names))
          (distinct_message (enum_names d) (message_names d) n s.distinct new_enum new_message);
      methods_distinct = s.methods_distinct;
      few_enums = omega (arith, ap length enums, s.few_enums);
      few_messages = omega (arith, ap length names, length_push (message_names d) n, few);
      few_methods = s.few_methods;
      enums = whole_enums t o d.enums s.part some h.number s.enums;
      messages = whole_messages t o d.messages s.part s.messages;
      methods = s.methods;
      part = record {
        name = record { form = form; short = short };
        few = omega arith;
        fields = λ k x lt. absurd (omega arith);
        ascend = tt;
        names = tt;
        oneofs = λ k x lt. absurd (omega arith);
        oneof_names = tt;
        oneof_order = refl;
      };
      ordered = none_methods;
    }

at_last : {X : Type 0} (p : X → Bool) (xs : List X) (x : X) → option_map_or p (last_of xs) false ≡ false → last_of xs ≡ Some x → p x ≡ false
at_last {X = X} p xs x e last = ap (λ (o : Option X). option_map_or p o false) (sym last) ∙ e

grown : (c : Choices) (z : ℤ) (n : List ℕ) → IsGrowing c → FitsSigned w32 z → IsName n → length c.values < 1024
    → option_map_or (is_value_below (Within z) n) (last_of c.values) false ≡ false
    → is_among n (map (λ v. v.1) c.values) ≡ false
    → IsGrowing (record { name = c.name; values = c.values ++ (z, n) ∷ [] })
grown c z n g fits name few up new = record {
  name = g.name;
  few = omega (arith, length_push c.values (z, n));
  numbers = All-push (λ (v : ℤ × List ℕ). FitsSigned w32 v.0) c.values (z, n) g.numbers fits;
  each_name = All-push (λ (v : ℤ × List ℕ). IsName v.1) c.values (z, n) g.each_name name;
  ascend = ascends_push IsValueBelow c.values (z, n) g.ascend
      (λ last e. value_not_below z n last (at_last (is_value_below (Within z) n) c.values last up e)
      (other_name n (map (λ v. v.1) c.values) last.1 new (last-map (λ (v : ℤ × List ℕ). v.1) c.values
      ∙ ap (option_map (λ (v : ℤ × List ℕ). v.1)) e)));
  names = subst AreDistinct (sym (map_push (λ (v : ℤ × List ℕ). v.1) c.values (z, n)))
      (distinct_push (map (λ v. v.1) c.values) n g.names (not_among n (map (λ v. v.1) c.values) new));
}

pub sound_value : (t : TypeNames) (d : TableDraft) (c : Choices) (bytes : ℕ) (z : ℤ) (n : List ℕ)
    → IsSound t (with_part d (open_parts.Enum c)) → FitsSigned w32 z → IsTrue (is_name_form n)
    → IsClean t (names_before_line (with_part d (open_parts.Enum c))) bytes (Value (Within z) n)
    → IsSound t (with_part d (open_parts.Enum (record { name = c.name; values = c.values ++ (z, n) ∷ [] })))
sound_value t d c bytes z n s fits form h = record {
  enums_up = s.enums_up;
  messages_up = s.messages_up;
  distinct = s.distinct;
  methods_distinct = s.methods_distinct;
  few_enums = s.few_enums;
  few_messages = s.few_messages;
  few_methods = s.few_methods;
  enums = s.enums;
  messages = s.messages;
  methods = s.methods;
  part =
      let front = left_no (not (is_short n) || nat_le 1024 (length c.values)) (nat_lt 65536 bytes) h.limit in
      let short = not_no (is_short n) (left_no (not (is_short n)) (nat_le 1024 (length c.values)) front) in
      grown c z n s.part fits (record { form = form; short = leb-true (length n) 64 short })
      (not_le 1024 (length c.values) (right_no (not (is_short n)) (nat_le 1024 (length c.values)) front)) h.syntax
      h.duplicate;
  ordered = s.ordered;
}

-- ---- oneofs that grow

joins_map : (met : ℕ) (l : Label) (A B C D : Type 0) → (A → C) → (B → D) → IsNextOneof met l A B → IsNextOneof met l C D
joins_map met Plain A B C D f g h = f h
joins_map met Optional A B C D f g h = f h
joins_map met Repeated A B C D f g h = f h
joins_map met Packed A B C D f g h = f h
joins_map met (Map k) A B C D f g h = f h
joins_map met (Member o) A B C D f g h = elim h [ inl old ↦ inl (old.0, f old.1) | inr new ↦ inr (new.0, g new.1) ]

follow_same : (met all : ℕ) (fs : List TheField) (f : TheField) → IsNextOneof all f.label (all ≡ all) (all + 1 ≡ all) → AreOneofsInOrder met all fs → AreOneofsInOrder met all (fs ++ f ∷ [])
follow_same met all [] f last h = subst (λ (k : ℕ). IsNextOneof k f.label (k ≡ all) (k + 1 ≡ all)) (sym h) last
follow_same met all (g ∷ gs) f last h =
    joins_map met g.label (AreOneofsInOrder met all gs) (AreOneofsInOrder (met + 1) all gs)
    (AreOneofsInOrder met all (gs ++ f ∷ [])) (AreOneofsInOrder (met + 1) all (gs ++ f ∷ [])) (follow_same met all gs f last)
    (follow_same (met + 1) all gs f last) h

follow_new : (met all : ℕ) (fs : List TheField) (f : TheField) → IsNextOneof all f.label (all ≡ all + 1) (all + 1 ≡ all + 1)
    → AreOneofsInOrder met all fs → AreOneofsInOrder met (all + 1) (fs ++ f ∷ [])
follow_new met all [] f last h = subst (λ (k : ℕ). IsNextOneof k f.label (k ≡ all + 1) (k + 1 ≡ all + 1)) (sym h) last
follow_new met all (g ∷ gs) f last h = joins_map met g.label (AreOneofsInOrder met all gs) (AreOneofsInOrder (met + 1) all gs)
    (AreOneofsInOrder met (all + 1) (gs ++ f ∷ [])) (AreOneofsInOrder (met + 1) (all + 1) (gs ++ f ∷ []))
    (follow_new met all gs f last) (follow_new (met + 1) all gs f last) h

record OneofsGrown (oneofs more : List (List ℕ)) (fs : List TheField) : Type 0 where
  names : All IsName more
  distinct : AreDistinct more
  follow : AreOneofsInOrder 0 (length more) fs
  longer : length oneofs ≤ length more

oneofs_grown : (t : TypeNames) (oneofs : List (List ℕ)) (fs : List TheField) (f : TheField) (l : LabelWord) (w : List ℕ)
    → f.label ≡ labeled t oneofs l → length oneofs ≤ 128 → LabelIs w l → is_short_label l ≡ true
    → All IsName oneofs → AreDistinct oneofs → AreOneofsInOrder 0 (length oneofs) fs → OneofsGrown oneofs (joined_with oneofs (new_oneof oneofs l)) (fs ++ f ∷ [])
oneofs_grown t oneofs fs f labels.Plain w is few h short names distinct follow =
    record {
      names = names;
      distinct = distinct;
      follow = follow_same 0 (length oneofs) fs f
          (subst (λ (l : Label). IsNextOneof (length oneofs) l (length oneofs ≡ length oneofs)
          (length oneofs + 1 ≡ length oneofs)) (sym is) refl) follow;
      longer = omega arith;
    }
oneofs_grown t oneofs fs f labels.Optional w is few h short names distinct follow =
    record {
      names = names;
      distinct = distinct;
      follow = follow_same 0 (length oneofs) fs f
          (subst (λ (l : Label). IsNextOneof (length oneofs) l (length oneofs ≡ length oneofs)
          (length oneofs + 1 ≡ length oneofs)) (sym is) refl) follow;
      longer = omega arith;
    }
oneofs_grown t oneofs fs f labels.Repeated w is few h short names distinct follow =
    record {
      names = names;
      distinct = distinct;
      follow = follow_same 0 (length oneofs) fs f
          (subst (λ (l : Label). IsNextOneof (length oneofs) l (length oneofs ≡ length oneofs)
          (length oneofs + 1 ≡ length oneofs)) (sym is) refl) follow;
      longer = omega arith;
    }
oneofs_grown t oneofs fs f labels.Packed w is few h short names distinct follow =
    record {
      names = names;
      distinct = distinct;
      follow = follow_same 0 (length oneofs) fs f
          (subst (λ (l : Label). IsNextOneof (length oneofs) l (length oneofs ≡ length oneofs)
          (length oneofs + 1 ≡ length oneofs)) (sym is) refl) follow;
      longer = omega arith;
    }
oneofs_grown t oneofs fs f (labels.Map k) w is few h short names distinct follow =
    record {
      names = names;
      distinct = distinct;
      follow = follow_same 0 (length oneofs) fs f
          (subst (λ (l : Label). IsNextOneof (length oneofs) l (length oneofs ≡ length oneofs)
          (length oneofs + 1 ≡ length oneofs)) (sym is) refl) follow;
      longer = omega arith;
    }
oneofs_grown t oneofs fs f (labels.Member n) w is few h short names distinct follow =
    elim (is_among n oneofs) as (λ (b : Bool). is_among n oneofs ≡ b → OneofsGrown oneofs (joined_with oneofs (cond b None (Some n))) (fs ++ f ∷ [])) [
      | true ↦ λ known.
          let p = place_known n oneofs (omega arith) known in
          record {
            names = names;
            distinct = distinct;
            follow = follow_same 0 (length oneofs) fs f
                (subst (λ (l : Label). IsNextOneof (length oneofs) l (length oneofs ≡ length oneofs)
                (length oneofs + 1 ≡ length oneofs)) (sym is) (inl (p.0, refl))) follow;
            longer = omega arith;
          }
      | false ↦ λ new.
          let at : index_or_next n oneofs ≡ length oneofs = member_new n oneofs few new in
          let more : length (oneofs ++ n ∷ []) ≡ length oneofs + 1 = length_push oneofs n in
          record {
            names = All-push IsName oneofs n names (record { form = h.1; short = leb-true (length n) 64 short });
            distinct = distinct_push oneofs n distinct (not_among n oneofs new);
            follow = subst (λ (k : ℕ). AreOneofsInOrder 0 k (fs ++ f ∷ [])) (sym more)
                (follow_new 0 (length oneofs) fs f
                (subst (λ (l : Label). IsNextOneof (length oneofs) l (length oneofs ≡ length oneofs + 1)
                (length oneofs + 1 ≡ length oneofs + 1)) (sym is) (inr (at, refl))) follow);
            longer = omega (arith, more);
          }
    ] refl

-- ---- a field of known types

kind_known : (t : TypeNames) (w : List ℕ) (k : KindWord) → IsSmall t → KindIs w k → is_unknown_kind t k ≡ false → IsKnown (names_table t) (resolved t k)
kind_known t w (kinds.Scalar Int32) small h known = tt
kind_known t w (kinds.Scalar Int64) small h known = tt
kind_known t w (kinds.Scalar Uint32) small h known = tt
kind_known t w (kinds.Scalar Uint64) small h known = tt
kind_known t w (kinds.Scalar Sint32) small h known = tt
kind_known t w (kinds.Scalar Sint64) small h known = tt
kind_known t w (kinds.Scalar TheBool) small h known = tt
kind_known t w (kinds.Scalar Fixed32) small h known = tt
kind_known t w (kinds.Scalar Fixed64) small h known = tt
kind_known t w (kinds.Scalar Sfixed32) small h known = tt
kind_known t w (kinds.Scalar Sfixed64) small h known = tt
kind_known t w (kinds.Scalar Float) small h known = tt
kind_known t w (kinds.Scalar Double) small h known = tt
kind_known t w (kinds.Scalar Text) small h known = tt
kind_known t w (kinds.Scalar Octets) small h known = tt
kind_known t w (kinds.Scalar (OfMessage i)) small h known = absurd h.1
kind_known t w (kinds.Scalar (Choice i)) small h known = absurd h.1
kind_known t w (kinds.Message n) small h known =
    let p = place_known n t.messages small.messages (not_no (is_among n t.messages) known) in
    omega (arith, p.0, length-map t.messages named_message)
kind_known t w (kinds.Choice n) small h known =
    let p = place_known n t.enums small.enums (not_no (is_among n t.enums) known) in
    omega (arith, p.0, length-map t.enums named_enum)

not_message : (k : Kind) → IsScalar k → IsMessageKind k → ⊥
not_message (OfMessage i) h m = absurd h
not_message (Choice i) h m = m
not_message Int32 h m = m
not_message Int64 h m = m
not_message Uint32 h m = m
not_message Uint64 h m = m
not_message Sint32 h m = m
not_message Sint64 h m = m
not_message TheBool h m = m
not_message Fixed32 h m = m
not_message Fixed64 h m = m
not_message Sfixed32 h m = m
not_message Sfixed64 h m = m
not_message Float h m = m
not_message Double h m = m
not_message Text h m = m
not_message Octets h m = m

optional_goes : (t : TypeNames) (w : List ℕ) (k : KindWord) → KindIs w k → is_message_word k ≡ false → IsMessageKind (resolved t k) → ⊥
optional_goes t w (kinds.Scalar k) h e m = not_message k h.1 m
optional_goes t w (kinds.Message n) h e m = absurd cc
optional_goes t w (kinds.Choice n) h e m = m

packed_goes : (t : TypeNames) (k : KindWord) → is_packable_word k ≡ true → IsTrue (is_numeric (resolved t k))
packed_goes t (kinds.Scalar k) e = e
packed_goes t (kinds.Message n) e = absurd cc
packed_goes t (kinds.Choice n) e = refl

key_goes : (t : TypeNames) (k : KindWord) → is_key_kind k ≡ true → IsTrue (is_key (resolved t k))
key_goes t (kinds.Scalar k) e = e
key_goes t (kinds.Message n) e = absurd cc
key_goes t (kinds.Choice n) e = absurd cc

label_goes : (t : TypeNames) (oneofs : List (List ℕ)) (l : LabelWord) (k : KindWord) (kw : List ℕ) → length oneofs ≤ 128
    → KindIs kw k → clashes l k ≡ false → is_map_key_label l ≡ false
    → IsLabelFor (length (joined_with oneofs (new_oneof oneofs l))) (labeled t oneofs l) (resolved t k)
label_goes t oneofs labels.Plain k kw few h clash key = tt
label_goes t oneofs labels.Optional k kw few h clash key = optional_goes t kw k h clash
label_goes t oneofs labels.Repeated k kw few h clash key = tt
label_goes t oneofs labels.Packed k kw few h clash key = packed_goes t k (not_no (is_packable_word k) clash)
label_goes t oneofs (labels.Map j) k kw few h clash key = key_goes t j (not_no (is_key_kind j) key)
label_goes t oneofs (labels.Member n) k kw few h clash key =
    elim (is_among n oneofs) as (λ (b : Bool). is_among n oneofs ≡ b → index_or_next n oneofs < length (joined_with oneofs (cond b None (Some n)))) [
      | true ↦ λ known. (place_known n oneofs (omega arith) known).0
      | false ↦ λ new. omega (arith, member_new n oneofs few new, length_push oneofs n)
    ] refl

last_below : (fs : List TheField) (n : ℕ) (last : TheField) → is_field_out_of_order (fields (map numbered fs)) (Some n) ≡ false
    → repeats_number (fields (map numbered fs)) (Some n) ≡ false → last_of fs ≡ Some last → last.number < n
last_below fs n last is_below_last repeats e =
    let at : last_of (map numbered fs) ≡ Some (numbered last) = last-map numbered fs ∙ ap (option_map numbered) e in
    let below : nat_lt n last.number ≡ false = at_last (is_field_below (Some n)) (map numbered fs) (numbered last) is_below_last at in
    let other : (n == last.number) ≡ false = at_last (λ (l : ℕ × List ℕ). is_index (Some n) l.0) (map numbered fs) (numbered last) repeats at in
    omega (arith, ltb-false n last.number below, eqb-false n last.number other)

goes_more : (a b : ℕ) (l : Label) (k : Kind) → a ≤ b → IsLabelFor a l k → IsLabelFor b l k
goes_more a b Plain k le h = tt
goes_more a b Optional k le h = h
goes_more a b Repeated k le h = tt
goes_more a b Packed k le h = h
goes_more a b (Map j) k le h = h
goes_more a b (Member o) k le h = omega (arith, h)

goes_placed : (a : ℕ) (l : Label) (k : Kind) → IsLabelFor a l k → LabelPlaced a l
goes_placed a Plain k h = tt
goes_placed a Optional k h = tt
goes_placed a Repeated k h = tt
goes_placed a Packed k h = tt
goes_placed a (Map j) k h = tt
goes_placed a (Member o) k h = h

pub names_numbered : (fs : List TheField) → map (λ (p : ℕ × List ℕ). p.1) (map numbered fs) ≡ map (λ f. f.name) fs
names_numbered [] = refl
names_numbered (f ∷ fs) = ap (λ (ns : List (List ℕ)). f.name ∷ ns) (names_numbered fs)

pub number_fits : (n : ℕ) → has_field_number (Some n) ≡ true → IsFieldNumber n
number_fits n e =
    let within = nat_lt 0 n && nat_le n MAX_FIELD_NUMBER in
    let free = nat_lt n FIRST_RESERVED_NUMBER || nat_lt LAST_RESERVED_NUMBER n in
    let range = both_left within free e in
    let gap = both_right within free e in
    record {
      positive = ltb-true 0 n (both_left (nat_lt 0 n) (nat_le n MAX_FIELD_NUMBER) range);
      small = leb-true n MAX_FIELD_NUMBER (both_right (nat_lt 0 n) (nat_le n MAX_FIELD_NUMBER) range);
      unreserved = elim (ltb_tells n FIRST_RESERVED_NUMBER) [
        | inl lt ↦ inl lt.1
        | inr ge ↦ inr (ltb-true LAST_RESERVED_NUMBER n (subst (λ (b : Bool). (b || nat_lt LAST_RESERVED_NUMBER n) ≡ true) ge.0 gap))
      ];
    }

fields_weaker : (N : Table) (a b : ℕ) (fs : List TheField) → a ≤ b → All (IsField N a) fs → All (IsField N b) fs
fields_weaker N a b fs le all = λ k d within.
    let f = all k d within in
    record { number = f.number; name = f.name; label = goes_more a b (get_or fs k d).label (get_or fs k d).kind le f.label; kind = f.kind }

pub placed_all : (N : Table) (m : TheMessage) → IsMessage N m → AllByRecursion (λ f. LabelPlaced (length m.oneofs) f.label) m.fields
placed_all N m h = recursion_from_All (λ (f : TheField). LabelPlaced (length m.oneofs) f.label) m.fields
    (λ k d within. goes_placed (length m.oneofs) (get_or m.fields k d).label (get_or m.fields k d).kind
    (h.fields k d within).label)

pub few_oneofs : (N : Table) (m : TheMessage) → IsMessage N m → length m.oneofs ≤ 128
few_oneofs N m h = omega (arith, follow_le 0 (length m.oneofs) m.fields h.oneof_order, h.few)

message_grown : (t : TypeNames) (m : TheMessage) (n : ℕ) (f : FieldLine) (lw kw : List ℕ) (bytes : ℕ) (b : NamesBefore)
    → b.open_part ≡ open_part (open_parts.Message m) → IsSmall t → IsMessage (names_table t) m → f.number ≡ Some n
    → LabelIs lw f.label → KindIs kw f.kind → IsTrue (is_name_form f.name)
    → IsClean t b bytes (Field f)
    → IsMessage (names_table t) (record {
      name = m.name;
      fields = m.fields ++ resolved_field t m.oneofs n f ∷ [];
      oneofs = joined_with m.oneofs (new_oneof m.oneofs f.label);
    })
message_grown t m n f lw kw bytes b part small ok number label kind form h =
    let N = names_table t in
    let g = resolved_field t m.oneofs n f in
    let here = map numbered m.fields in
    let few = few_oneofs N m ok in
    let clash = left_no (clashes f.label f.kind) (is_field_out_of_order b.open_part f.number) h.syntax in
    let is_below_last : is_field_out_of_order (fields here) (Some n) ≡ false =
    subst (λ (o : Option ℕ). is_field_out_of_order (fields here) o ≡ false) number
    (subst (λ (p : faults.OpenNames). is_field_out_of_order p f.number ≡ false) part
    (right_no (clashes f.label f.kind) (is_field_out_of_order b.open_part f.number) h.syntax)) in
    let repeats : repeats_number (fields here) (Some n) ≡ false =
    subst (λ (o : Option ℕ). repeats_number (fields here) o ≡ false) number
    (subst (λ (p : faults.OpenNames). repeats_number p f.number ≡ false) part
    (right_no (is_field_before b.open_part f.name) (repeats_number b.open_part f.number) h.duplicate)) in
    let new : is_among f.name (map (λ f. f.name) m.fields) ≡ false =
    subst (λ (ns : List (List ℕ)). is_among f.name ns ≡ false) (names_numbered m.fields)
    (subst (λ (p : faults.OpenNames). is_field_before p f.name ≡ false) part
    (left_no (is_field_before b.open_part f.name) (repeats_number b.open_part f.number) h.duplicate)) in
    let in_range : has_field_number (Some n) ≡ true = subst (λ (o : Option ℕ). has_field_number o ≡ true) number (not_no (has_field_number f.number) h.number) in
    let limits = left_no (not ((is_short_label f.label && is_short_kind f.kind) && is_short f.name) || nat_le 128 (open_count b.open_part)) (nat_lt 65536 bytes) h.limit in
    let shorts = not_no ((is_short_label f.label && is_short_kind f.kind) && is_short f.name)
    (left_no (not ((is_short_label f.label && is_short_kind f.kind) && is_short f.name))
    (nat_le 128 (open_count b.open_part)) limits) in
    let short_label = both_left (is_short_label f.label) (is_short_kind f.kind) (both_left (is_short_label f.label && is_short_kind f.kind) (is_short f.name) shorts) in
    let short = both_right (is_short_label f.label && is_short_kind f.kind) (is_short f.name) shorts in
    let room : length here < 128 =
    not_le 128 (length here) (subst (λ (p : faults.OpenNames). nat_le 128 (open_count p) ≡ false) part
    (right_no (not ((is_short_label f.label && is_short_kind f.kind) && is_short f.name))
    (nat_le 128 (open_count b.open_part)) limits)) in
    let grow = oneofs_grown t m.oneofs m.fields g f.label lw refl few label short_label ok.oneofs ok.oneof_names ok.oneof_order in
    let unknown_label = left_no (is_unknown_label t f.label) (is_unknown_kind t f.kind) h.unknown in
    let unknown_kind = right_no (is_unknown_label t f.label) (is_unknown_kind t f.kind) h.unknown in
    record {
      name = ok.name;
      few = omega (arith, length_push m.fields g, length-map m.fields numbered, room);
      fields = All-push (IsField N (length (joined_with m.oneofs (new_oneof m.oneofs f.label)))) m.fields g
          (fields_weaker N (length m.oneofs) (length (joined_with m.oneofs (new_oneof m.oneofs f.label))) m.fields grow.longer ok.fields)
          (record {
            number = number_fits n in_range;
            name = record { form = form; short = leb-true (length f.name) 64 short };
            label = label_goes t m.oneofs f.label f.kind kw few kind clash h.map_key;
            kind = kind_known t kw f.kind small kind unknown_kind;
          });
      ascend = ascends_push (λ (f g : TheField). f.number < g.number) m.fields g ok.ascend (λ last e. last_below m.fields n last is_below_last repeats e);
      names = subst AreDistinct (sym (map_push (λ (f : TheField). f.name) m.fields g))
          (distinct_push (map (λ f. f.name) m.fields) f.name ok.names
          (not_among f.name (map (λ f. f.name) m.fields) new));
      oneofs = grow.names;
      oneof_names = grow.distinct;
      oneof_order = grow.follow;
    }

pub sound_field : (t : TypeNames) (d : TableDraft) (m : TheMessage) (bytes n : ℕ) (f : FieldLine) (lw kw : List ℕ)
    → IsSound t (with_part d (open_parts.Message m)) → IsSmall t → f.number ≡ Some n → LabelIs lw f.label
    → KindIs kw f.kind → IsTrue (is_name_form f.name)
    → IsClean t (names_before_line (with_part d (open_parts.Message m))) bytes (Field f) → IsSound t (with_part d (with_field_line t (open_parts.Message m) (Some n) f))
sound_field t d m bytes n f lw kw s small number label kind form h = record {
  enums_up = s.enums_up;
  messages_up = s.messages_up;
  distinct = s.distinct;
  methods_distinct = s.methods_distinct;
  few_enums = s.few_enums;
  few_messages = s.few_messages;
  few_methods = s.few_methods;
  enums = s.enums;
  messages = s.messages;
  methods = s.methods;
  part = message_grown t m n f lw kw bytes (names_before_line (with_part d (open_parts.Message m))) refl small s.part number label kind form h;
  ordered = s.ordered;
}

pub sound_method : (t : TypeNames) (d : TableDraft) (bytes : ℕ) (m : MethodLine) → IsSound t d → IsSmall t
    → IsTrue (is_full_form m.service) → IsTrue (is_name_form m.name) → IsClean t (names_before_line d) bytes (Method m)
    → IsSound t (added_method t d m)
sound_method t d bytes m s small service name h =
    let o = d.open_part in
    let es = with_enum o d.enums in
    let ms = with_message o d.messages in
    let lacks = left_no (lacks_zero (open_part o)) (not (is_index m.index (length (method_names d)))) h.number in
    let enums : map (λ e. e.name) es ++ [] ≡ enum_names d = append-nil (map (λ e. e.name) es) ∙ closed_enums o d.enums in
    let messages : map (λ m. m.name) ms ++ [] ≡ message_names d = append-nil (map (λ m. m.name) ms) ∙ closed_messages o d.messages in
    let limits = left_no
    (not (((is_short_full m.service && is_short m.name) && is_short_full m.input) && is_short_full m.output)
    || nat_le 256 (length (method_names d))) (nat_lt 65536 bytes) h.limit in
    let shorts = not_no (((is_short_full m.service && is_short m.name) && is_short_full m.input)
    && is_short_full m.output)
    (left_no (not (((is_short_full m.service && is_short m.name) && is_short_full m.input)
    && is_short_full m.output)) (nat_le 256 (length (method_names d))) limits) in
    let short_names = both_left (is_short_full m.service && is_short m.name) (is_short_full m.input)
    (both_left ((is_short_full m.service && is_short m.name) && is_short_full m.input)
    (is_short_full m.output) shorts) in
    let room = not_le 256 (length (method_names d))
    (right_no (not (((is_short_full m.service && is_short m.name) && is_short_full m.input)
    && is_short_full m.output)) (nat_le 256 (length (method_names d))) limits) in
    let input = place_known m.input t.messages small.messages
    (not_no (is_among m.input t.messages)
    (left_no (not (is_among m.input t.messages)) (not (is_among m.output t.messages)) h.unknown)) in
    let output = place_known m.output t.messages small.messages
    (not_no (is_among m.output t.messages)
    (right_no (not (is_among m.input t.messages)) (not (is_among m.output t.messages)) h.unknown)) in
    record {
      enums_up = subst (IsAscendingBy IsBelow) (sym enums) s.enums_up;
      messages_up = subst (IsAscendingBy IsBelow) (sym messages) s.messages_up;
      distinct = subst AreDistinct
          (sym (ap (λ (xs : List (List ℕ)). xs ++ (map (λ m. m.name) ms ++ [])) enums
          ∙ ap (λ (xs : List (List ℕ)). enum_names d ++ xs) messages)) s.distinct;
      methods_distinct =
          subst AreDistinct (sym (map_push (λ (m : TheMethod). m.service ++ 32 ∷ m.name) d.methods (resolved_method t m)))
          (distinct_push (method_names d) (method_key m) s.methods_distinct
          (not_among (method_key m) (method_names d) h.duplicate));
      few_enums = omega (arith, ap length enums, s.few_enums);
      few_messages = omega (arith, ap length messages, s.few_messages);
      few_methods = omega (arith, length_push d.methods (resolved_method t m), length-map d.methods (λ (m : TheMethod). m.service ++ 32 ∷ m.name), room);
      enums = whole_enums t o d.enums s.part h.syntax lacks s.enums;
      messages = whole_messages t o d.messages s.part s.messages;
      methods = All-push (IsMethod (names_table t)) d.methods (resolved_method t m) s.methods (record {
        service = record { form = service; short = both_left (is_short_full m.service) (is_short m.name) short_names };
        name = record { form = name; short = leb-true (length m.name) 64 (both_right (is_short_full m.service) (is_short m.name) short_names) };
        input = omega (arith, input.0, length-map t.messages named_message);
        output = omega (arith, output.0, length-map t.messages named_message);
      });
      part = tt;
      ordered = tt;
    }
