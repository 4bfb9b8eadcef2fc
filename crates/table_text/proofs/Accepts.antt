-- The whole lines of a text without a fault make a valid table, and are its canonical text.
use Rattle.std.proofs.Common.{◌≡◌, ◌≢◌, ℕ, zero, suc, ◌+◌, ◌-◌, ◌<◌, ◌≤◌, ◌==◌, ◌||◌, not, Bool, true, false, cond}
use Rattle.std.proofs.Common.{List, [], ◌∷◌, ◌++◌, codes, length, map, get_or, Option, Some, None, refl, ap, sym}
use Rattle.std.proofs.Common.{subst, ◌∙◌, append_assoc, arith, inl, inr, length-append}
use Rattle.std.specs.Prelude.{slice_get, nat_lt, IsTrue}
use Rattle.std.specs.List.{Contains}
use Rattle.std.specs.Option.{option_map_or}
use Rattle.std.proofs.lemmas.List.{append-nil, nil_from_length}
use Rattle.std.proofs.lemmas.Bool.{ltb-false, eqb-true}
use Rattle.mrpc_table.specs.Names.{is_name_form}
use Rattle.mrpc_table.specs.Valid.{IsAscendingBy, AreDistinct, IsBelow, IsKnown, IsMessage, IsMethod}
use Rattle.table_text.specs.LineTests.{TypeNames, NamesBefore, is_among, is_empty, is_below_last, lacks_value, lacks_zero, is_enum_number, has_field_number, is_index, clashes, is_unknown_kind, is_unknown_label}
use Rattle.table_text.specs.NameIndex.{index_or_next}
use Rattle.table_text.specs.Drafts.{open_part, enum_names, message_names, method_names, names_before_line, resolved_method, with_message, with_value, with_field_line, with_part, table_of_draft, with_line}
use Rattle.mrpc_table.specs.declared.table.Kind.{Kind}
use Rattle.mrpc_table.specs.declared.table.Kind.TheVariants.{Int32, Int64, Uint32, Uint64, Sint32, Sint64}
use Rattle.mrpc_table.specs.declared.table.Kind.TheVariants.{Bool as TheBool, Fixed32, Fixed64, Sfixed32, Sfixed64}
use Rattle.mrpc_table.specs.declared.table.Kind.TheVariants.{Float, Double, Text, Octets, Message as OfMessage}
use Rattle.mrpc_table.specs.declared.table.Kind.TheVariants.{Choice}
use Rattle.mrpc_table.specs.declared.table.Label.{Label}
use Rattle.mrpc_table.specs.declared.table.Label.TheVariants.{Plain, Optional, Repeated, Packed, Map, Member}
use Rattle.mrpc_table.specs.declared.table.Field.{Field as TheField}
use Rattle.mrpc_table.specs.declared.table.Message.{Message as TheMessage}
use Rattle.mrpc_table.specs.declared.table.Choices.{Choices}
use Rattle.mrpc_table.specs.declared.table.Method.{Method as TheMethod}
use Rattle.mrpc_table.specs.declared.table.Table.{Table}
use Rattle.table_text.specs.declared.line.EnumNumber.{EnumNumber}
use Rattle.table_text.specs.declared.line.EnumNumber.TheVariants.{Low, Within, High}
use Rattle.table_text.specs.declared.line.FieldLine.{FieldLine}
use Rattle.table_text.specs.declared.line.TableLine.{TableLine}
use Rattle.table_text.specs.declared.line.TableLine.TheVariants.{Enum, Value, Message, Field, Method}
use Rattle.table_text.specs.declared.draft.OpenPart.{OpenPart}
use Rattle.table_text.specs.declared.draft.OpenPart.TheVariants as open_parts
use Rattle.table_text.specs.declared.draft.TableDraft.{TableDraft}
use Rattle.table_text.proofs.KeptLemmas.{closed_enums, closed_messages}
use Rattle.table_text.proofs.OrderLemmas.{ascends_map, contains_first, contains_later}
use Rattle.table_text.proofs.Clean.{IsClean, left_no, right_no, not_no, names_table, named_message, named_enum, place_known}
use Rattle.table_text.proofs.DraftText.{IsSmall, text_by, text_enum, text_message, text_value, text_field, text_method}
use Rattle.table_text.proofs.Soundness.{IsSound, empty_is, no_names, whole_enums, whole_messages, sound_enum, sound_message, sound_value, sound_field, sound_method, few_oneofs, placed_all}
use Rattle.table_text.proofs.SpellLemmas.{KindIs, LabelIs, NumberIs, LineIs}
use Rattle.std.proofs.lemmas.List.{length-map}
use Rattle.table_text.proofs.ParseLemmas.{WholeIs}
use Rattle.std.specs.Prelude.{is_some, unwrap_or}
use Rattle.std.specs.List.{flat_map, filter_map, enumerate_from}
use Rattle.std.specs.Fmt.{decimal, signed_decimal}
use Rattle.std.proofs.lemmas.List.{take_all}
use Rattle.std.proofs.Common.{take, drop}
use Rattle.mrpc_table.specs.Text.{spaced, line, table_text, message_lines, method_line, message_name}
use Rattle.mrpc_table.specs.Valid.{IsValid}
use Rattle.mrpc_table.specs.Lines.{words_of, whole_lines, remainder_of, pieces_of}
use Rattle.table_text.specs.Lines.{line_of, without_prefix}
use Rattle.table_text.specs.Faults.{bytes_of_lines}
use Rattle.table_text.specs.LineTests.{line_fault, end_fault, fault_at_line, types_of, names_in_lines}
use Rattle.table_text.specs.Drafts.{with_parsed_line, table_draft_of, empty_draft, table_in}
use Rattle.table_text.specs.declared.fault.TableReason.{TableReason}
use Rattle.table_text.specs.declared.fault.TableReason.TheVariants.{Syntax, Number}
use Rattle.std.proofs.lemmas.Bool.{eq-eqb}
use Rattle.table_text.proofs.OrderLemmas.{contains_nothing, contains_cases}
use Rattle.table_text.proofs.Clean.{is_clean, message_named}
use Rattle.table_text.proofs.SpellLemmas.{InRange, line_is, text_is}
use Rattle.std.proofs.Common.{drop-cons}
use Rattle.std.specs.List.{fold, cons_option}
use Rattle.std.proofs.lemmas.Bool.{cases_lt}
use Rattle.table_text.specs.LineTests.{has_short_names, has_one_too_many}
use Rattle.table_text.proofs.ListLemmas.{has_part}
use Rattle.std.specs.List.{join_with_byte}
use Rattle.std.specs.Prelude.{option_to_list}
use Rattle.std.proofs.lemmas.List.Splits.{join_with_byte-slice_split}
use Rattle.mrpc_table.specs.Text.{kind_text, label_text, field_line, enum_name}
use Rattle.table_text.specs.LineTests.{names_after}
use Rattle.std.proofs.lemmas.Option.{slice_get-map}
use Rattle.table_text.proofs.TableCuts.{fed}
use Rattle.table_text.proofs.DraftText.{flat_push}
use Rattle.table_text.proofs.LineLemmas.{init_first, end_first, before_line, before_draft, here_is, take_drop, fold_push, bytes_push, get_end}

-- ---- one line

some_number : (o : Option ℕ) → has_field_number o ≡ true → is_some o ≡ true
some_number None e = absurd cc
some_number (Some n) e = refl

some_index : (o : Option ℕ) (n : ℕ) → is_index o n ≡ true → is_some o ≡ true
some_index None n e = absurd cc
some_index (Some i) n e = refl

pub in_range : (t : TypeNames) (b : NamesBefore) (bytes : ℕ) (l : TableLine) → IsClean t b bytes l → InRange l
in_range t b bytes (Enum n) h = tt
in_range t b bytes (Value z n) h = not_no (is_enum_number z) h.number
in_range t b bytes (Message n) h = tt
in_range t b bytes (Field f) h = some_number f.number (not_no (has_field_number f.number) h.number)
in_range t b bytes (Method m) h =
    some_index m.index (length b.methods)
    (not_no (is_index m.index (length b.methods))
    (right_no (lacks_zero b.open_part) (not (is_index m.index (length b.methods))) h.number))

-- the draft with one more line, and its text
pub record Steps (t : TypeNames) (d e : TableDraft) (text : List ℕ) : Type 0 where
  pub sound : IsSound t e
  pub more : text_by (names_table t) (table_of_draft e) ≡ text_by (names_table t) (table_of_draft d) ++ (text ++ 10 ∷ [])

as_line : (text : List ℕ) (ws vs : List (List ℕ)) → text ≡ spaced ws → ws ≡ vs → line vs ≡ text ++ 10 ∷ []
as_line text ws vs e f = ap (λ (x : List ℕ). x ++ 10 ∷ []) (ap spaced (sym f) ∙ sym e)

value_step : (t : TypeNames) (d : TableDraft) (o : OpenPart) (bytes : ℕ) (z : EnumNumber) (n w text : List ℕ) (ws : List (List ℕ))
    → IsSound t (with_part d o) → IsClean t (names_before_line (with_part d o)) bytes (Value z n) → WholeIs w z
    → IsTrue (is_name_form n)
    → text ≡ spaced ws → ws ≡ codes "value" ∷ w ∷ n ∷ [] → Steps t (with_part d o) (with_part d (with_value o z n)) text
value_step t d (open_parts.Enum c) bytes (Within z) n w text ws s h whole form e f = record {
  sound = sound_value t d c bytes z n s whole.1 form h;
  more = text_value (names_table t) d c z n s.ordered.0 s.ordered.1
      ∙ ap (λ (x : List ℕ). text_by (names_table t) (table_of_draft (with_part d (open_parts.Enum c))) ++ x)
      (as_line text ws (codes "value" ∷ signed_decimal z ∷ n ∷ []) e
      (f ∙ ap (λ (x : List ℕ). codes "value" ∷ x ∷ n ∷ []) whole.0));
}
value_step t d (open_parts.Enum c) bytes Low n w text ws s h whole form e f = absurd whole
value_step t d (open_parts.Enum c) bytes High n w text ws s h whole form e f = absurd whole
value_step t d (open_parts.Message m) bytes z n w text ws s h whole form e f = let clash = h.syntax in absurd cc
value_step t d open_parts.Nothing bytes z n w text ws s h whole form e f = let clash = h.syntax in absurd cc

field_step : (t : TypeNames) (d : TableDraft) (o : OpenPart) (bytes : ℕ) (number : Option ℕ) (f : FieldLine)
    (nw lw kw text : List ℕ) (ws : List (List ℕ)) → f.number ≡ number → IsSmall t → IsSound t (with_part d o)
    → IsClean t (names_before_line (with_part d o)) bytes (Field f)
    → NumberIs nw number → LabelIs lw f.label → KindIs kw f.kind → IsTrue (is_name_form f.name)
    → text ≡ spaced ws → ws ≡ codes "field" ∷ nw ∷ lw ∷ kw ∷ f.name ∷ [] → Steps t (with_part d o) (with_part d (with_field_line t o number f)) text
field_step t d (open_parts.Message m) bytes (Some n) f nw lw kw text ws is small s h num label kind form e g = record {
  sound = sound_field t d m bytes n f lw kw s small is label kind form h;
  more = text_field t d m n f lw kw small s.ordered (few_oneofs (names_table t) m s.part)
      (placed_all (names_table t) m s.part) label kind
      (left_no (is_unknown_label t f.label) (is_unknown_kind t f.kind) h.unknown)
      (right_no (is_unknown_label t f.label) (is_unknown_kind t f.kind) h.unknown)
      ∙ ap (λ (x : List ℕ). text_by (names_table t) (table_of_draft (with_part d (open_parts.Message m))) ++ x)
      (as_line text ws (codes "field" ∷ decimal n ∷ lw ∷ kw ∷ f.name ∷ []) e
      (g ∙ ap (λ (x : List ℕ). codes "field" ∷ x ∷ lw ∷ kw ∷ f.name ∷ []) num.0));
}
field_step t d (open_parts.Message m) bytes None f nw lw kw text ws is small s h num label kind form e g = absurd num
field_step t d (open_parts.Enum c) bytes number f nw lw kw text ws is small s h num label kind form e g = let clash = right_no (clashes f.label f.kind) true h.syntax in absurd cc
field_step t d open_parts.Nothing bytes number f nw lw kw text ws is small s h num label kind form e g = let clash = right_no (clashes f.label f.kind) true h.syntax in absurd cc

index_is : (w : List ℕ) (o : Option ℕ) (n : ℕ) → NumberIs w o → is_index o n ≡ true → w ≡ decimal n
index_is w (Some i) n h e = h.0 ∙ ap decimal (eqb-true i n e)
index_is w None n h e = absurd h

line_step : (t : TypeNames) (d : TableDraft) (bytes : ℕ) (text : List ℕ) (ws : List (List ℕ)) (l : TableLine) → IsSmall t
    → IsSound t d → IsClean t (names_before_line d) bytes l → LineIs ws l → text ≡ spaced ws → Steps t d (with_line t d l) text
line_step t d bytes text ws (Enum n) small s h is e =
    let o = d.open_part in
    let front = left_no ((lacks_value (open_part o) || not (is_empty (message_names d))) || not (is_empty (method_names d))) (is_below_last n (enum_names d)) h.syntax in
    let parts = left_no (lacks_value (open_part o) || not (is_empty (message_names d))) (not (is_empty (method_names d))) front in
    let no_methods : method_names d ≡ [] = empty_is (method_names d) (right_no (lacks_value (open_part o) || not (is_empty (message_names d))) (not (is_empty (method_names d))) front) in
    let no_messages : message_names d ≡ [] = empty_is (message_names d) (right_no (lacks_value (open_part o)) (not (is_empty (message_names d))) parts) in
    record {
      sound = sound_enum t d bytes n s is.1 h;
      more = text_enum (names_table t) d n
          (no_names (λ m. m.name) (with_message o d.messages) (closed_messages o d.messages ∙ no_messages))
          (no_names (λ m. m.service ++ 32 ∷ m.name) d.methods no_methods)
          ∙ ap (λ (x : List ℕ). text_by (names_table t) (table_of_draft d) ++ x) (as_line text ws (codes "enum" ∷ n ∷ []) e is.0);
    }
line_step t d bytes text ws (Value z n) small s h is e = value_step t d d.open_part bytes z n is.0 text ws s h is.2 is.3 e is.1
line_step t d bytes text ws (Message n) small s h is e =
    let o = d.open_part in
    let front = left_no (lacks_value (open_part o) || not (is_empty (method_names d))) (is_below_last n (message_names d)) h.syntax in
    let no_methods : method_names d ≡ [] = empty_is (method_names d) (right_no (lacks_value (open_part o)) (not (is_empty (method_names d))) front) in
    record {
      sound = sound_message t d bytes n s is.1 h;
      more = text_message (names_table t) d n (no_names (λ m. m.service ++ 32 ∷ m.name) d.methods no_methods)
          ∙ ap (λ (x : List ℕ). text_by (names_table t) (table_of_draft d) ++ x) (as_line text ws (codes "message" ∷ n ∷ []) e is.0);
    }
line_step t d bytes text ws (Field f) small s h is e = field_step t d d.open_part bytes f.number f is.0 is.1 is.2 text ws refl small s h is.4 is.5 is.6 is.7 e is.3
line_step t d bytes text ws (Method m) small s h is e =
    let index = not_no (is_index m.index (length (method_names d))) (right_no (lacks_zero (open_part d.open_part)) (not (is_index m.index (length (method_names d)))) h.number) in
    let count : length (method_names d) ≡ length d.methods = length-map d.methods (λ (m : TheMethod). m.service ++ 32 ∷ m.name) in
    let number : is.0 ≡ decimal (length d.methods) = index_is is.0 m.index (length (method_names d)) is.2 index ∙ ap decimal count in
    let input = message_named t (index_or_next m.input t.messages) m.input
    (place_known m.input t.messages small.messages
    (not_no (is_among m.input t.messages)
    (left_no (not (is_among m.input t.messages)) (not (is_among m.output t.messages)) h.unknown))).1 in
    let output = message_named t (index_or_next m.output t.messages) m.output
    (place_known m.output t.messages small.messages
    (not_no (is_among m.output t.messages)
    (right_no (not (is_among m.input t.messages)) (not (is_among m.output t.messages)) h.unknown))).1 in
    let spelled : method_line (names_table t) (length d.methods, resolved_method t m)
    ≡ line (codes "method" ∷ decimal (length d.methods) ∷ m.service ∷ m.name ∷ m.input ∷ m.output ∷ []) =
    ap (λ (x : List ℕ). line (codes "method" ∷ decimal (length d.methods) ∷ m.service ∷ m.name ∷ x ∷ message_name (names_table t) (index_or_next m.output t.messages) ∷ [])) input
    ∙ ap (λ (x : List ℕ). line (codes "method" ∷ decimal (length d.methods) ∷ m.service ∷ m.name ∷ m.input ∷ x ∷ [])) output in
    record {
      sound = sound_method t d bytes m s small is.3 is.4 h;
      more = text_method (names_table t) d (resolved_method t m) ∙ ap (λ (x : List ℕ). text_by (names_table t) (table_of_draft d)
          ++ x) (spelled ∙ as_line text ws (codes "method" ∷ decimal (length d.methods) ∷ m.service ∷ m.name ∷ m.input
          ∷ m.output ∷ []) e (is.1 ∙ ap (λ (x : List ℕ). codes "method" ∷ x ∷ m.service ∷ m.name ∷ m.input ∷ m.output
          ∷ []) number));
    }

pub text_step : (t : TypeNames) (d : TableDraft) (bytes : ℕ) (text : List ℕ) → IsSmall t → IsSound t d
    → line_fault t (names_before_line d) bytes (line_of text) ≡ None → Steps t d (with_parsed_line t d (line_of text)) text
text_step t d bytes text small s none = taken (line_of text) refl none
  where
    taken : (o : Option TableLine) → line_of text ≡ o → line_fault t (names_before_line d) bytes o ≡ None → Steps t d (with_parsed_line t d o) text
    taken None e none = absurd cc
    taken (Some l) e none =
        let h = is_clean t (names_before_line d) bytes l none in
        line_step t d bytes text (words_of text) l small s h (line_is text l e (in_range t (names_before_line d) bytes l h)) (text_is text)

-- ---- all lines

abbrev pub IsFaultless : List ℕ → Type 0
IsFaultless text = (i : ℕ) → fault_at_line text i ≡ None

pub some_line : (text : List ℕ) (k : ℕ) → k < length (whole_lines text) → (l : List ℕ) × (more : List (List ℕ)) × (drop k (whole_lines text) ≡ l ∷ more)
some_line text k within =
    let e = drop-cons (whole_lines text) k [] within in
    (get_or (whole_lines text) k [], drop (suc k) (whole_lines text), e)

clean_line : (text : List ℕ) (k : ℕ) (l : List ℕ) (more : List (List ℕ)) → IsFaultless text → drop k (whole_lines text) ≡ l ∷ more
    → line_fault (types_of (whole_lines text))
    (names_before_line (table_draft_of (types_of (whole_lines text)) (take k (whole_lines text))))
    (bytes_of_lines (take k (whole_lines text)) + length l + 1) (line_of l) ≡ None
clean_line text k l more clean e =
    ap (λ (b : NamesBefore). line_fault (types_of (whole_lines text)) b (bytes_of_lines (take k (whole_lines text)) + length l
    + 1) (line_of l)) (before_draft (types_of (whole_lines text)) (take k (whole_lines text)))
    ∙ sym (here_is (whole_lines text) (remainder_of text) k l more e) ∙ clean k

pub few_bytes : (t : TypeNames) (b : NamesBefore) (bytes : ℕ) (o : Option TableLine) → line_fault t b bytes o ≡ None → bytes ≤ 65536
few_bytes t b bytes None none = absurd cc
few_bytes t b bytes (Some l) none =
    let h = is_clean t b bytes l none in
    ltb-false 65536 bytes (right_no (not (has_short_names l) || has_one_too_many b l) (nat_lt 65536 bytes) h.limit)

pub all_bytes : (text : List ℕ) → IsFaultless text → bytes_of_lines (whole_lines text) ≤ 65536
all_bytes text clean =
    let ls = whole_lines text in
    elim (cases_lt 0 (length ls)) [
      | inl some ↦
          let k = length ls - 1 in
          let line = some_line text k (omega arith) in
          let le = few_bytes (types_of ls) (names_before_line (table_draft_of (types_of ls) (take k ls)))
          (bytes_of_lines (take k ls) + length line.0 + 1) (line_of line.0)
          (clean_line text k line.0 line.1 clean line.2) in
          let next : suc k ≡ length ls = omega arith in
          let whole : take (suc k) ls ≡ ls = ap (λ (n : ℕ). take n ls) next ∙ take_all (length ls) ls (omega arith) in
          omega (arith, le, bytes_push (take k ls) line.0, ap bytes_of_lines (sym (take_drop ls k line.0 line.1 line.2) ∙ whole))
      | inr none ↦ let empty : ls ≡ [] = nil_from_length ls (omega arith) in omega (arith, ap bytes_of_lines empty)
    ]

fold_le : (n : ℕ) (ls : List (List ℕ)) → n + length ls ≤ fold ◌+◌ n (map (λ (l : List ℕ). length l + 1) ls)
fold_le n [] = omega arith
fold_le n (l ∷ ls) = omega (arith, fold_le (n + (length l + 1)) ls)

filtered_le : {X Y : Type 0} (h : X → Option Y) (xs : List X) → length (filter_map h xs) ≤ length xs
filtered_le h [] = omega arith
filtered_le {X = X} {Y = Y} h (x ∷ xs) =
    elim (h x) as (λ (o : Option Y). length (cons_option o (filter_map h xs)) ≤ suc (length xs))
    [ None ↦ omega (arith, filtered_le h xs) | Some y ↦ omega (arith, filtered_le h xs) ]

pub is_small : (text : List ℕ) → IsFaultless text → IsSmall (types_of (whole_lines text))
is_small text clean =
    let ls = whole_lines text in
    let le = fold_le 0 ls in
    record {
      enums = omega (arith, all_bytes text clean, le, filtered_le (without_prefix (codes "enum ")) ls);
      messages = omega (arith, all_bytes text clean, le, filtered_le (without_prefix (codes "message ")) ls);
    }

sound_nothing : (t : TypeNames) → IsSound t empty_draft
sound_nothing t = record {
  enums_up = tt;
  messages_up = tt;
  distinct = tt;
  methods_distinct = tt;
  few_enums = omega arith;
  few_messages = omega arith;
  few_methods = omega arith;
  enums = λ k d lt. absurd (omega arith);
  messages = λ k d lt. absurd (omega arith);
  methods = λ k d lt. absurd (omega arith);
  part = tt;
  ordered = tt;
}

-- the names that a line declares, and the suffix after a prefix in its text
abbrev enum_in : TableLine → Option (List ℕ)
enum_in (Enum n) = Some n
enum_in _ = None

abbrev message_in : TableLine → Option (List ℕ)
message_in (Message n) = Some n
message_in _ = None

pub enum_behind : (text : List ℕ) (ws : List (List ℕ)) (l : TableLine) → text ≡ spaced ws → LineIs ws l → without_prefix (codes "enum ") text ≡ enum_in l
enum_behind text ws (Enum n) e h = ap (without_prefix (codes "enum ")) (e ∙ ap spaced h.0)
enum_behind text ws (Value z n) e h = ap (without_prefix (codes "enum ")) (e ∙ ap spaced h.1)
enum_behind text ws (Message n) e h = ap (without_prefix (codes "enum ")) (e ∙ ap spaced h.0)
enum_behind text ws (Field f) e h = ap (without_prefix (codes "enum ")) (e ∙ ap spaced h.3)
enum_behind text ws (Method m) e h = ap (without_prefix (codes "enum ")) (e ∙ ap spaced h.1)

pub message_behind : (text : List ℕ) (ws : List (List ℕ)) (l : TableLine) → text ≡ spaced ws → LineIs ws l → without_prefix (codes "message ") text ≡ message_in l
message_behind text ws (Enum n) e h = ap (without_prefix (codes "message ")) (e ∙ ap spaced h.0)
message_behind text ws (Value z n) e h = ap (without_prefix (codes "message ")) (e ∙ ap spaced h.1)
message_behind text ws (Message n) e h = ap (without_prefix (codes "message ")) (e ∙ ap spaced h.0)
message_behind text ws (Field f) e h = ap (without_prefix (codes "message ")) (e ∙ ap spaced h.3)
message_behind text ws (Method m) e h = ap (without_prefix (codes "message ")) (e ∙ ap spaced h.1)

filter_push : {X Y : Type 0} (h : X → Option Y) (xs : List X) (x : X) → filter_map h (xs ++ x ∷ []) ≡ filter_map h xs ++ option_to_list (h x)
filter_push {Y = Y} h [] x = elim (h x) as (λ (o : Option Y). cons_option o [] ≡ option_to_list o) [ None ↦ refl | Some y ↦ refl ]
filter_push {Y = Y} h (z ∷ zs) x =
    elim (h z) as (λ (o : Option Y). cons_option o (filter_map h (zs ++ x ∷ [])) ≡ cons_option o (filter_map h zs)
    ++ option_to_list (h x)) [ None ↦ filter_push h zs x | Some y ↦ ap (λ ys. y ∷ ys) (filter_push h zs x) ]

enums_after : (b : NamesBefore) (l : TableLine) → (names_after b l).enums ≡ b.enums ++ option_to_list (enum_in l)
enums_after b (Enum n) = refl
enums_after b (Value z n) = sym (append-nil b.enums)
enums_after b (Message n) = sym (append-nil b.enums)
enums_after b (Field f) = sym (append-nil b.enums)
enums_after b (Method m) = sym (append-nil b.enums)

messages_after : (b : NamesBefore) (l : TableLine) → (names_after b l).messages ≡ b.messages ++ option_to_list (message_in l)
messages_after b (Enum n) = sym (append-nil b.messages)
messages_after b (Value z n) = sym (append-nil b.messages)
messages_after b (Message n) = refl
messages_after b (Field f) = sym (append-nil b.messages)
messages_after b (Method m) = sym (append-nil b.messages)

-- what a line makes of the names of the draft
pub record NamesStep (t : TypeNames) (d : TableDraft) (text : List ℕ) : Type 0 where
  pub enums : enum_names (with_parsed_line t d (line_of text)) ≡ enum_names d ++ option_to_list (without_prefix (codes "enum ") text)
  pub messages : message_names (with_parsed_line t d (line_of text)) ≡ message_names d ++ option_to_list (without_prefix (codes "message ") text)

pub names_step : (t : TypeNames) (d : TableDraft) (bytes : ℕ) (text : List ℕ) → line_fault t (names_before_line d) bytes (line_of text) ≡ None → NamesStep t d text
names_step t d bytes text none = taken (line_of text) refl none
  where
    taken : (o : Option TableLine) → line_of text ≡ o → line_fault t (names_before_line d) bytes o ≡ None → NamesStep t d text
    taken None e none = absurd cc
    taken (Some l) e none =
        let h = is_clean t (names_before_line d) bytes l none in
        let is = line_is text l e (in_range t (names_before_line d) bytes l h) in
        let next : names_before_line (with_parsed_line t d (line_of text)) ≡ names_after (names_before_line d) l = ap (λ (o : Option TableLine). names_before_line (with_parsed_line t d o)) e ∙ before_line t d (Some l) in
        record {
          enums = ap (λ (b : NamesBefore). b.enums) next ∙ enums_after (names_before_line d) l
              ∙ ap (λ (o : Option (List ℕ)). enum_names d ++ option_to_list o)
              (sym (enum_behind text (words_of text) l (text_is text) is));
          messages = ap (λ (b : NamesBefore). b.messages) next ∙ messages_after (names_before_line d) l
              ∙ ap (λ (o : Option (List ℕ)). message_names d ++ option_to_list o)
              (sym (message_behind text (words_of text) l (text_is text) is));
        }

-- the first k lines
record Walk (text : List ℕ) (k : ℕ) : Type 0 where
  sound : IsSound (types_of (whole_lines text)) (table_draft_of (types_of (whole_lines text)) (take k (whole_lines text)))
  spelled : text_by (names_table (types_of (whole_lines text))) (table_of_draft (table_draft_of (types_of (whole_lines text)) (take k (whole_lines text)))) ≡ flat_map fed (take k (whole_lines text))
  long : length (flat_map fed (take k (whole_lines text))) ≡ bytes_of_lines (take k (whole_lines text))
  enums : enum_names (table_draft_of (types_of (whole_lines text)) (take k (whole_lines text))) ≡ filter_map (without_prefix (codes "enum ")) (take k (whole_lines text))
  messages : message_names (table_draft_of (types_of (whole_lines text)) (take k (whole_lines text))) ≡ filter_map (without_prefix (codes "message ")) (take k (whole_lines text))

walk : (text : List ℕ) (k : ℕ) → IsFaultless text → k ≤ length (whole_lines text) → Walk text k
walk text zero clean le = record { sound = sound_nothing (types_of (whole_lines text)); spelled = refl; long = refl; enums = refl; messages = refl }
walk text (suc k) clean le =
    let ls = whole_lines text in
    let t = types_of ls in
    let w = walk text k clean (omega arith) in
    let line = some_line text k (omega arith) in
    let d = table_draft_of t (take k ls) in
    let none = clean_line text k line.0 line.1 clean line.2 in
    let front : take (suc k) ls ≡ take k ls ++ line.0 ∷ [] = take_drop ls k line.0 line.1 line.2 in
    let drafted : table_draft_of t (take (suc k) ls) ≡ with_parsed_line t d (line_of line.0) =
    ap (table_draft_of t) front ∙ fold_push (λ d l. with_parsed_line t d (line_of l)) empty_draft (take k ls) line.0 in
    let s = text_step t d (bytes_of_lines (take k ls) + length line.0 + 1) line.0 (is_small text clean) w.sound none in
    let n = names_step t d (bytes_of_lines (take k ls) + length line.0 + 1) line.0 none in
    let flat : flat_map fed (take (suc k) ls) ≡ flat_map fed (take k ls) ++ fed line.0 = ap (flat_map fed) front ∙ flat_push fed (take k ls) line.0 in
    record {
      sound = subst (IsSound t) (sym drafted) s.sound;
      spelled = ap (λ (e : TableDraft). text_by (names_table t) (table_of_draft e)) drafted ∙ s.more ∙ ap (λ (x : List ℕ). x ++ fed line.0) w.spelled ∙ sym flat;
      long = omega (arith, ap length flat, length-append (flat_map fed (take k ls)) (fed line.0), length-append line.0 (10 ∷ []), w.long, bytes_push (take k ls) line.0, ap bytes_of_lines front);
      enums = ap enum_names drafted ∙ n.enums
          ∙ ap (λ (x : List (List ℕ)). x ++ option_to_list (without_prefix (codes "enum ") line.0)) w.enums
          ∙ sym (filter_push (without_prefix (codes "enum ")) (take k ls) line.0) ∙ ap (filter_map (without_prefix (codes "enum ")))
          (sym front);
      messages = ap message_names drafted ∙ n.messages
          ∙ ap (λ (x : List (List ℕ)). x ++ option_to_list (without_prefix (codes "message ") line.0)) w.messages
          ∙ sym (filter_push (without_prefix (codes "message ")) (take k ls) line.0)
          ∙ ap (filter_map (without_prefix (codes "message "))) (sym front);
    }

-- ---- the text of the lines, and the names of the table that they make

joined_lines : (ps : List (List ℕ)) → ps ≢ [] → join_with_byte 10 ps ≡ flat_map fed (take (length ps - 1) ps) ++ unwrap_or (slice_get ps (length ps - 1)) []
joined_lines [] some = absurd (some refl)
joined_lines (p ∷ []) some = refl
joined_lines (p ∷ q ∷ qs) some =
    let rest = joined_lines (q ∷ qs) (λ e. cc) in
    let lines : flat_map fed (take (length (p ∷ q ∷ qs) - 1) (p ∷ q ∷ qs)) ≡ fed p ++ flat_map fed (take (length (q ∷ qs) - 1) (q ∷ qs)) = ap (flat_map fed) (init_first p q qs) in
    let last = ap (λ (o : Option (List ℕ)). unwrap_or o []) (end_first p q qs) in
    ap (λ (x : List ℕ). p ++ 10 ∷ x) rest
    ∙ sym (append_assoc p (10 ∷ []) (flat_map fed (take (length (q ∷ qs) - 1) (q ∷ qs))
    ++ unwrap_or (slice_get (q ∷ qs) (length (q ∷ qs) - 1)) []))
    ∙ sym (append_assoc (fed p) (flat_map fed (take (length (q ∷ qs) - 1) (q ∷ qs))) (unwrap_or (slice_get (q ∷ qs) (length (q ∷ qs) - 1)) []))
    ∙ ap (λ (x : List ℕ). x ++ unwrap_or (slice_get (q ∷ qs) (length (q ∷ qs) - 1)) []) (sym lines)
    ∙ ap (λ (x : List ℕ). flat_map fed (take (length (p ∷ q ∷ qs) - 1) (p ∷ q ∷ qs)) ++ x) (sym last)

pub text_lines : (text : List ℕ) → text ≡ flat_map fed (whole_lines text) ++ remainder_of text
text_lines text =
    let part = has_part 10 text in
    sym (join_with_byte-slice_split 10 text) ∙ joined_lines (pieces_of text) (λ e. let clash = sym part.2 ∙ e in cc)

same_messages : (T N : Table) → map (λ m. m.name) T.messages ≡ map (λ m. m.name) N.messages → (i : ℕ) → message_name T i ≡ message_name N i
same_messages T N e i =
    let T-is = slice_get-map (λ (m : TheMessage). m.name) T.messages i in
    let N-is = slice_get-map (λ (m : TheMessage). m.name) N.messages i in
    ap (λ (o : Option (List ℕ)). unwrap_or o []) (sym T-is ∙ ap (λ (ns : List (List ℕ)). slice_get ns i) e ∙ N-is)

same_enums : (T N : Table) → map (λ c. c.name) T.enums ≡ map (λ c. c.name) N.enums → (i : ℕ) → enum_name T i ≡ enum_name N i
same_enums T N e i =
    let T-is = slice_get-map (λ (c : Choices). c.name) T.enums i in
    let N-is = slice_get-map (λ (c : Choices). c.name) N.enums i in
    ap (λ (o : Option (List ℕ)). unwrap_or o []) (sym T-is ∙ ap (λ (ns : List (List ℕ)). slice_get ns i) e ∙ N-is)

pub record SameNames (T N : Table) : Type 0 where
  pub messages : (i : ℕ) → message_name T i ≡ message_name N i
  pub enums : (i : ℕ) → enum_name T i ≡ enum_name N i

same_kind : (T N : Table) → SameNames T N → (k : Kind) → kind_text T k ≡ kind_text N k
same_kind T N s Int32 = refl
same_kind T N s Int64 = refl
same_kind T N s Uint32 = refl
same_kind T N s Uint64 = refl
same_kind T N s Sint32 = refl
same_kind T N s Sint64 = refl
same_kind T N s TheBool = refl
same_kind T N s Fixed32 = refl
same_kind T N s Fixed64 = refl
same_kind T N s Sfixed32 = refl
same_kind T N s Sfixed64 = refl
same_kind T N s Float = refl
same_kind T N s Double = refl
same_kind T N s Text = refl
same_kind T N s Octets = refl
same_kind T N s (OfMessage i) = ap (λ (x : List ℕ). codes "message:" ++ x) (s.messages i)
same_kind T N s (Choice i) = ap (λ (x : List ℕ). codes "enum:" ++ x) (s.enums i)

same_label : (T N : Table) (oneofs : List (List ℕ)) → SameNames T N → (l : Label) → label_text T oneofs l ≡ label_text N oneofs l
same_label T N oneofs s Plain = refl
same_label T N oneofs s Optional = refl
same_label T N oneofs s Repeated = refl
same_label T N oneofs s Packed = refl
same_label T N oneofs s (Map k) = ap (λ (x : List ℕ). codes "map:" ++ x) (same_kind T N s k)
same_label T N oneofs s (Member o) = refl

same_flat : {X : Type 0} (f g : X → List ℕ) (xs : List X) → ((x : X) → f x ≡ g x) → flat_map f xs ≡ flat_map g xs
same_flat f g [] same = refl
same_flat f g (x ∷ xs) same = ap (λ (l : List ℕ). l ++ flat_map f xs) (same x) ∙ ap (λ (l : List ℕ). g x ++ l) (same_flat f g xs same)

same_field : (T N : Table) (oneofs : List (List ℕ)) → SameNames T N → (f : TheField) → field_line T oneofs f ≡ field_line N oneofs f
same_field T N oneofs s f =
    ap (λ (x : List ℕ). line (codes "field" ∷ decimal f.number ∷ x ∷ kind_text T f.kind ∷ f.name ∷ [])) (same_label T N oneofs s f.label)
    ∙ ap (λ (x : List ℕ). line (codes "field" ∷ decimal f.number ∷ label_text N oneofs f.label ∷ x ∷ f.name ∷ [])) (same_kind T N s f.kind)

same_message : (T N : Table) → SameNames T N → (m : TheMessage) → message_lines T m ≡ message_lines N m
same_message T N s m = ap (λ (x : List ℕ). line (codes "message" ∷ m.name ∷ []) ++ x) (same_flat (field_line T m.oneofs) (field_line N m.oneofs) m.fields (same_field T N m.oneofs s))

same_method : (T N : Table) → SameNames T N → (m : ℕ × TheMethod) → method_line T m ≡ method_line N m
same_method T N s m =
    ap (λ (x : List ℕ). line (codes "method" ∷ decimal m.0 ∷ m.1.service ∷ m.1.name ∷ x ∷ message_name T m.1.output ∷ [])) (s.messages m.1.input)
    ∙ ap (λ (x : List ℕ). line (codes "method" ∷ decimal m.0 ∷ m.1.service ∷ m.1.name ∷ message_name N m.1.input ∷ x ∷ [])) (s.messages m.1.output)

pub same_text : (T N U : Table) → SameNames T N → text_by T U ≡ text_by N U
same_text T N U s =
    let ms = same_flat (message_lines T) (message_lines N) U.messages (same_message T N s) in
    let ks = same_flat (method_line T) (method_line N) (enumerate_from 0 U.methods) (same_method T N s) in
    rw (ms, ks) refl

-- ---- the whole table

record EndClean (b : NamesBefore) (rest : List ℕ) : Type 0 where
  gone : rest ≡ []
  value_in : lacks_value b.open_part ≡ false
  zero_in : lacks_zero b.open_part ≡ false

end_passes : (a b : Bool) (r s : TableReason) → cond a (Some r) (cond b (Some s) None) ≡ None → (a ≡ false) × (b ≡ false)
end_passes true b r s e = absurd cc
end_passes false true r s e = absurd cc
end_passes false false r s e = (refl, refl)

end_clean : (text : List ℕ) → IsFaultless text → EndClean (names_before_line (table_draft_of (types_of (whole_lines text)) (whole_lines text))) (remainder_of text)
end_clean text clean =
    let ls = whole_lines text in
    let b = names_before_line (table_draft_of (types_of ls) ls) in
    let le : length ls ≤ length ls = omega arith in
    let all : (length ls == length ls) ≡ true = eq-eqb (length ls) (length ls) refl in
    let here : fault_at_line text (length ls) ≡ end_fault (names_in_lines ls) (remainder_of text) =
    ap (λ (o : Option (List ℕ)). option_map_or (λ x. line_fault (types_of ls) (names_in_lines (take (length ls) ls))
    (bytes_of_lines (take (length ls + 1) ls)) (line_of x)) o
    (cond (length ls == length ls) (end_fault (names_in_lines ls) (remainder_of text)) None)) (get_end ls (length ls) le)
    ∙ ap (λ (b : Bool). cond b (end_fault (names_in_lines ls) (remainder_of text)) None) all in
    let none : end_fault b (remainder_of text) ≡ None = ap (λ (b : NamesBefore). end_fault b (remainder_of text)) (before_draft (types_of ls) ls) ∙ sym here ∙ clean (length ls) in
    let tests = end_passes (not (is_empty (remainder_of text)) || lacks_value b.open_part) (lacks_zero b.open_part) Syntax Number none in
    record {
      gone = empty_is (remainder_of text) (left_no (not (is_empty (remainder_of text))) (lacks_value b.open_part) tests.0);
      value_in = right_no (not (is_empty (remainder_of text))) (lacks_value b.open_part) tests.0;
      zero_in = tests.1;
    }

record SameCounts (N T : Table) : Type 0 where
  messages : length N.messages ≡ length T.messages
  enums : length N.enums ≡ length T.enums

known_as : (N T : Table) → SameCounts N T → (k : Kind) → IsKnown N k → IsKnown T k
known_as N T s (OfMessage i) h = omega (arith, s.messages, h)
known_as N T s (Choice i) h = omega (arith, s.enums, h)
known_as N T s Int32 h = tt
known_as N T s Int64 h = tt
known_as N T s Uint32 h = tt
known_as N T s Uint64 h = tt
known_as N T s Sint32 h = tt
known_as N T s Sint64 h = tt
known_as N T s TheBool h = tt
known_as N T s Fixed32 h = tt
known_as N T s Fixed64 h = tt
known_as N T s Sfixed32 h = tt
known_as N T s Sfixed64 h = tt
known_as N T s Float h = tt
known_as N T s Double h = tt
known_as N T s Text h = tt
known_as N T s Octets h = tt

message_as : (N T : Table) → SameCounts N T → (m : TheMessage) → IsMessage N m → IsMessage T m
message_as N T s m h = record {
  name = h.name;
  few = h.few;
  fields = λ k d within. let f = h.fields k d within in record { number = f.number; name = f.name; label = f.label; kind = known_as N T s (get_or m.fields k d).kind f.kind };
  ascend = h.ascend;
  names = h.names;
  oneofs = h.oneofs;
  oneof_names = h.oneof_names;
  oneof_order = h.oneof_order;
}

method_as : (N T : Table) → SameCounts N T → (m : TheMethod) → IsMethod N m → IsMethod T m
method_as N T s m h = record { service = h.service; name = h.name; input = omega (arith, s.messages, h.input); output = omega (arith, s.messages, h.output) }

map_named_messages : (ns : List (List ℕ)) → map (λ m. m.name) (map named_message ns) ≡ ns
map_named_messages [] = refl
map_named_messages (n ∷ ns) = ap (λ (xs : List (List ℕ)). n ∷ xs) (map_named_messages ns)

map_named_enums : (ns : List (List ℕ)) → map (λ c. c.name) (map named_enum ns) ≡ ns
map_named_enums [] = refl
map_named_enums (n ∷ ns) = ap (λ (xs : List (List ℕ)). n ∷ xs) (map_named_enums ns)

abbrev pub pair_of : TheMethod → List ℕ × List ℕ
pair_of m = (m.service, m.name)

abbrev pub key_in : TheMethod → List ℕ
key_in m = m.service ++ 32 ∷ m.name

pair_key : (ms : List TheMethod) (m : TheMethod) → Contains (map pair_of ms) (pair_of m) → Contains (map key_in ms) (key_in m)
pair_key [] m h = absurd (contains_nothing (pair_of m) h)
pair_key (k ∷ ks) m h =
    elim (contains_cases (pair_of k) (pair_of m) (map pair_of ks) h) [
      | inl same ↦ subst (λ (x : List ℕ). Contains (key_in k ∷ map key_in ks) x)
          (ap (λ (p : List ℕ × List ℕ). p.0 ++ 32 ∷ p.1) same) (contains_first (key_in k) (map key_in ks))
      | inr later ↦ contains_later (key_in k) (key_in m) (map key_in ks) (pair_key ks m later)
    ]

distinct_pairs : (ms : List TheMethod) → AreDistinct (map key_in ms) → AreDistinct (map pair_of ms)
distinct_pairs [] d = tt
distinct_pairs (m ∷ ms) d = (λ h. d.0 (pair_key ms m h), distinct_pairs ms d.1)

pub accepted : (text : List ℕ) → IsFaultless text → IsValid (table_in (whole_lines text)) × (text ≡ table_text (table_in (whole_lines text)))
accepted text clean =
    let ls = whole_lines text in
    let t = types_of ls in
    let d = table_draft_of t ls in
    let o = d.open_part in
    let T = table_of_draft d in
    let N = names_table t in
    let w = walk text (length ls) clean (omega arith) in
    let whole : take (length ls) ls ≡ ls = take_all (length ls) ls (omega arith) in
    let s = subst (λ (xs : List (List ℕ)). IsSound t (table_draft_of t xs)) whole w.sound in
    let end = end_clean text clean in
    let enums : map (λ e. e.name) T.enums ≡ enum_names d = closed_enums o d.enums in
    let messages : map (λ m. m.name) T.messages ≡ message_names d = closed_messages o d.messages in
    let t_enums : enum_names d ≡ t.enums = ap (λ (xs : List (List ℕ)). enum_names (table_draft_of t xs)) (sym whole) ∙ w.enums ∙ ap (filter_map (without_prefix (codes "enum "))) whole in
    let t_messages : message_names d ≡ t.messages = ap (λ (xs : List (List ℕ)). message_names (table_draft_of t xs))
    (sym whole) ∙ w.messages ∙ ap (filter_map (without_prefix (codes "message "))) whole in
    let counts : SameCounts N T = record {
      messages = omega (arith, length-map t.messages named_message, ap length (messages ∙ t_messages), length-map T.messages (λ (m : TheMessage). m.name));
      enums = omega (arith, length-map t.enums named_enum, ap length (enums ∙ t_enums), length-map T.enums (λ (c : Choices). c.name));
    } in
    let names : SameNames T N = record {
      messages = same_messages T N (messages ∙ t_messages ∙ sym (map_named_messages t.messages));
      enums = same_enums T N (enums ∙ t_enums ∙ sym (map_named_enums t.enums));
    } in
    let spelled : table_text T ≡ flat_map fed ls =
    same_text T N T names ∙ ap (λ (xs : List (List ℕ)). text_by N (table_of_draft (table_draft_of t xs))) (sym whole)
    ∙ w.spelled ∙ ap (flat_map fed) whole in
    let text_is : text ≡ flat_map fed ls = text_lines text ∙ ap (λ (x : List ℕ). flat_map fed ls ++ x) end.gone ∙ append-nil (flat_map fed ls) in
    let long : length (flat_map fed ls) ≡ bytes_of_lines ls = ap (λ (xs : List (List ℕ)). length (flat_map fed xs)) (sym whole) ∙ w.long ∙ ap bytes_of_lines whole in (
      record {
        few_messages = omega (arith, ap length messages, length-map T.messages (λ (m : TheMessage). m.name), s.few_messages);
        few_enums = omega (arith, ap length enums, length-map T.enums (λ (c : Choices). c.name), s.few_enums);
        few_methods = s.few_methods;
        enums = whole_enums t o d.enums s.part end.value_in end.zero_in s.enums;
        enums_ascend = ascends_map IsBelow (λ (c : Choices). c.name) T.enums (subst (IsAscendingBy IsBelow) (sym enums) s.enums_up);
        messages = λ k x within. message_as N T counts (get_or T.messages k x) (whole_messages t o d.messages s.part s.messages k x within);
        messages_ascend = ascends_map IsBelow (λ (m : TheMessage). m.name) T.messages (subst (IsAscendingBy IsBelow) (sym messages) s.messages_up);
        types = subst AreDistinct
            (sym (ap (λ (xs : List (List ℕ)). xs ++ map (λ m. m.name) T.messages) enums
            ∙ ap (λ (xs : List (List ℕ)). enum_names d ++ xs) messages)) s.distinct;
        methods = λ k x within. method_as N T counts (get_or T.methods k x) (s.methods k x within);
        method_names = distinct_pairs T.methods s.methods_distinct;
        short = omega (arith, ap length spelled, long, all_bytes text clean);
      },
      text_is ∙ sym spelled,
    )
