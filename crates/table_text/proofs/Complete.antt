-- The lines of a valid table are without a fault, and make the table.
use Rattle.std.proofs.Common.{◌≡◌, ℕ, zero, suc, ◌+◌, ◌-◌, ◌^◌, ◌<◌, ◌≤◌, ◌==◌, ◌||◌, ◌&&◌, not, Bool, true}
use Rattle.std.proofs.Common.{false, cond, List, [], ◌∷◌, ◌++◌, codes, length, map, Option, Some, None, refl}
use Rattle.std.proofs.Common.{ap, sym, subst, ◌∙◌, append_assoc, arith, inl, inr, length-append}
use Rattle.std.specs.Prelude.{slice_get, nat_le, nat_lt}
use Rattle.std.specs.List.{All, Contains, list_all, AllByRecursion}
use Rattle.std.specs.Option.{option_map_or}
use Rattle.std.specs.Prelude.{option_map}
use Rattle.std.proofs.lemmas.List.{append-nil}
use Rattle.std.proofs.lemmas.List.Elements.{All-from_recursion, recursion_from_All}
use Rattle.std.proofs.lemmas.Bool.{ltb-true}
use Rattle.mrpc_table.specs.Names.{is_short, is_short_full}
use Rattle.mrpc_table.specs.declared.limits.TheConstants.{MAX_FIELD_NUMBER, FIRST_RESERVED_NUMBER, LAST_RESERVED_NUMBER}
use Rattle.mrpc_table.specs.Valid.{IsAscendingBy, AreDistinct, IsBelow, IsFieldNumber, AreOneofsInOrder, IsField, IsMessage, IsMethod}
use Rattle.table_text.proofs.TableFacts.{both as both_hold, both_left, both_right}
use Rattle.table_text.specs.LineTests.{fields, is_field_out_of_order, is_field_below, repeats_number, TypeNames, NamesBefore, is_among}
use Rattle.table_text.specs.LineTests.{is_empty, is_below_last, last_of, lacks_value, lacks_zero}
use Rattle.table_text.specs.LineTests.{has_field_number, is_index, clashes}
use Rattle.table_text.specs.LineTests.{is_unknown_kind, is_unknown_label, is_short_kind}
use Rattle.table_text.specs.LineTests.{is_short_label}
use Rattle.table_text.specs.NameIndex.{index_or_next}
use Rattle.table_text.specs.Drafts.{open_part, enum_names, message_names, method_names, names_before_line, labeled}
use Rattle.table_text.specs.Drafts.{new_oneof, joined_with, resolved_field, resolved_method, with_message, with_field_line}
use Rattle.table_text.specs.Drafts.{with_part, table_of_draft, added_message, added_method}
use Rattle.mrpc_table.specs.declared.table.Kind.{Kind}
use Rattle.mrpc_table.specs.declared.table.Label.{Label}
use Rattle.mrpc_table.specs.declared.table.Field.{Field as TheField}
use Rattle.mrpc_table.specs.declared.table.Message.{Message as TheMessage}
use Rattle.mrpc_table.specs.declared.table.Choices.{Choices}
use Rattle.mrpc_table.specs.declared.table.Method.{Method as TheMethod}
use Rattle.mrpc_table.specs.declared.table.Table.{Table}
use Rattle.table_text.specs.declared.line.FieldLine.{FieldLine}
use Rattle.table_text.specs.declared.line.MethodLine.{MethodLine}
use Rattle.table_text.specs.declared.line.TableLine.{TableLine}
use Rattle.table_text.specs.declared.line.TableLine.TheVariants.{Message, Field, Method}
use Rattle.table_text.specs.declared.draft.OpenPart.TheVariants as open_parts
use Rattle.table_text.specs.declared.draft.TableDraft.{TableDraft}
use Rattle.table_text.proofs.KeptLemmas.{numbered}
use Rattle.table_text.proofs.LastLemmas.{last-map}
use Rattle.table_text.proofs.OrderLemmas.{contains_first, contains_later}
use Rattle.table_text.proofs.Clean.{IsClean}
use Rattle.table_text.proofs.Soundness.{few_oneofs}
use Rattle.std.proofs.lemmas.List.{length-map}
use Rattle.std.specs.Prelude.{unwrap_or}
use Rattle.std.specs.List.{flat_map, filter_map, enumerate_from}
use Rattle.std.specs.Fmt.{decimal}
use Rattle.std.proofs.lemmas.List.{take_all}
use Rattle.std.proofs.Common.{take, drop}
use Rattle.mrpc_table.specs.Text.{spaced, table_text, message_name}
use Rattle.mrpc_table.specs.Valid.{IsValid}
use Rattle.mrpc_table.specs.Lines.{words_of, whole_lines, remainder_of, pieces_of}
use Rattle.table_text.specs.Lines.{line_of, without_prefix}
use Rattle.table_text.specs.Faults.{bytes_of_lines}
use Rattle.table_text.specs.LineTests.{line_fault, end_fault, fault_after_lines, types_of, names_in_lines}
use Rattle.table_text.specs.Drafts.{with_parsed_line, table_draft_of, empty_draft, table_in}
use Rattle.table_text.specs.declared.fault.TableReason.{TableReason}
use Rattle.std.proofs.lemmas.Bool.{eq-eqb}
use Rattle.table_text.proofs.OrderLemmas.{contains_nothing, contains_cases, or_true}
use Rattle.table_text.proofs.Clean.{is_clean}
use Rattle.table_text.proofs.SpellLemmas.{line_is, text_is}
use Rattle.std.specs.List.{fold, cons_option}
use Rattle.std.proofs.lemmas.Bool.{cases_lt}
use Rattle.std.specs.Prelude.{option_to_list}
use Rattle.mrpc_table.specs.Text.{kind_text, label_text}
use Rattle.table_text.proofs.LineLemmas.{before_draft, here_is, fold_push, bytes_push, get_end}
use Rattle.table_text.proofs.TableCuts.{fed}
use Rattle.table_text.proofs.Accepts.{IsFaultless, pair_of, key_in}
use Rattle.std.proofs.lemmas.List.{map-append}
use Rattle.std.proofs.lemmas.List.Elements.{All-contains, Contains-append_right}
use Rattle.std.proofs.lemmas.Bool.{le-ltb, le-leb, lt-ltb, ne_eqb}
use Rattle.table_text.proofs.Soundness.{names_numbered}
use Rattle.table_text.proofs.SpellLemmas.{split_dark, split_last, full_dark, name_dark}
use Rattle.table_text.proofs.DraftText.{get_last}
use Rattle.std.specs.List.{slice_split}
use Rattle.table_text.proofs.Accepts.{in_range, names_step}
use Rattle.std.proofs.Common.{zero-add}
use Rattle.std.proofs.lemmas.List.Elements.{Contains-append_left}
use Rattle.table_text.proofs.Clean.{both_no, no_not}
use Rattle.table_text.proofs.OrderLemmas.{ascends_split, map_ascends, distinct_split, among_not, not_falls}
use Rattle.table_text.proofs.SpellLemmas.{AllDark, dark, all-append, line_read, words_dark}
use Rattle.table_text.proofs.CompleteKinds.{enum_texts, field_text, message_texts, method_text, table_lines}
use Rattle.table_text.proofs.CompleteKinds.{lines_text, bytes_from, Runs, bytes_append, bytes_rise, runs_append}
use Rattle.table_text.proofs.CompleteKinds.{runs_line, no_more_bytes, room_left, Stand, stand_enums, stand_messages}
use Rattle.table_text.proofs.CompleteKinds.{stand_methods, front_names, enums_run, TypesOf, kind_word}
use Rattle.table_text.proofs.CompleteKinds.{message_at, kind_word_is, message_placed, kind_word_of, label_word}
use Rattle.table_text.proofs.CompleteKinds.{follow_ge, label_runs, no_clash}

-- ---- fields

abbrev field_entry : Table → List (List ℕ) → TheField → FieldLine
field_entry T oneofs f = record { number = Some f.number; label = label_word T oneofs f.label; kind = kind_word T f.kind; name = f.name }

pub field_number_is : (n : ℕ) → IsFieldNumber n → has_field_number (Some n) ≡ true
field_number_is n h =
    let low : nat_lt 0 n ≡ true = lt-ltb 0 n h.positive in
    let high : nat_le n MAX_FIELD_NUMBER ≡ true = le-leb n MAX_FIELD_NUMBER h.small in
    rw (low, high) (elim h.unreserved [
      | inl below ↦ let e : nat_lt n FIRST_RESERVED_NUMBER ≡ true = lt-ltb n FIRST_RESERVED_NUMBER below in rw e refl
      | inr above ↦ let e : nat_lt LAST_RESERVED_NUMBER n ≡ true = lt-ltb LAST_RESERVED_NUMBER n above in rw e (or_true (nat_lt n FIRST_RESERVED_NUMBER))
    ])

last_numbered : (fs : List TheField) (n : ℕ) → ((last : TheField) → last_of fs ≡ Some last → last.number < n)
    → (is_field_out_of_order (fields (map numbered fs)) (Some n) ≡ false)
    × (repeats_number (fields (map numbered fs)) (Some n) ≡ false)
last_numbered fs n up = go (last_of fs) refl
  where
    go : (o : Option TheField) → last_of fs ≡ o → (is_field_out_of_order (fields (map numbered fs)) (Some n) ≡ false) × (repeats_number (fields (map numbered fs)) (Some n) ≡ false)
    go None e =
        let at : last_of (map numbered fs) ≡ None = last-map numbered fs ∙ ap (option_map numbered) e in (
          ap (λ (o : Option (ℕ × List ℕ)). option_map_or (is_field_below (Some n)) o false) at,
          ap (λ (o : Option (ℕ × List ℕ)). option_map_or (λ (l : ℕ × List ℕ). is_index (Some n) l.0) o false) at,
        )
    go (Some last) e =
        let at : last_of (map numbered fs) ≡ Some (numbered last) = last-map numbered fs ∙ ap (option_map numbered) e in
        let lt = up last e in
        let below : nat_lt n last.number ≡ false = le-ltb n last.number (omega arith) in
        let other : (n == last.number) ≡ false = ne_eqb n last.number (omega arith) in (
          ap (λ (o : Option (ℕ × List ℕ)). option_map_or (is_field_below (Some n)) o false) at ∙ below,
          ap (λ (o : Option (ℕ × List ℕ)). option_map_or (λ (l : ℕ × List ℕ). is_index (Some n) l.0) o false) at
              ∙ other,
        )

all_three : (a b c : Bool) → a ≡ true → b ≡ true → c ≡ true → ((a && b) && c) ≡ true
all_three true true c e f g = g
all_three true false c e f g = absurd cc
all_three false b c e f g = absurd cc

fields_run : (t : TypeNames) (T : Table) (m : TheMessage) (d : TableDraft) (b : ℕ) (fs gs : List TheField) (met : ℕ)
    → IsValid T → TypesOf t T → IsMessage T m → m.fields ≡ fs ++ gs → met ≤ length m.oneofs
    → AreOneofsInOrder met (length m.oneofs) gs → bytes_from b (map (field_text T m.oneofs) gs) ≤ 65536
    → Runs t (with_part d (open_parts.Message (record { name = m.name; fields = fs; oneofs = take met m.oneofs }))) b (map (field_text T m.oneofs) gs) (with_part d (open_parts.Message m))
fields_run t T m d b fs [] met valid is ok split le follow few =
    let all : take met m.oneofs ≡ m.oneofs = take_all met m.oneofs (omega (arith, follow)) in
    let whole : fs ≡ m.fields = sym (split ∙ append-nil fs) in
    ap (λ (os : List (List ℕ)). with_part d (open_parts.Message (record { name = m.name; fields = fs; oneofs = os })))
    all ∙ ap (λ (xs : List TheField).
    with_part d (open_parts.Message (record { name = m.name; fields = xs; oneofs = m.oneofs }))) whole
fields_run t T m d b fs (g ∷ gs) met valid is ok split le follow few =
    let n = g.number in
    let field = All-contains (IsField T (length m.oneofs)) (fs ++ g ∷ gs) g
    (subst (All (IsField T (length m.oneofs))) split ok.fields)
    (Contains-append_right fs (g ∷ gs) g (contains_first g gs)) in
    let P : ℕ → Type 0 = λ k. AreOneofsInOrder k (length m.oneofs) gs in
    let lr = label_runs t T m.oneofs met g.label g.kind P valid is ok.oneofs ok.oneof_names (few_oneofs T m ok) le (λ k h. follow_ge k (length m.oneofs) gs h) field.label follow in
    let kw = kind_word_of t T g.kind valid is field.kind in
    let entry = field_entry T m.oneofs g in
    let oneofs = take met m.oneofs in
    let M : TheMessage = (record { name = m.name; fields = fs; oneofs = oneofs }) in
    let text = field_text T m.oneofs g in
    let below : n < 2 ^ 32 = omega (arith, field.number.small) in
    let reads : line_of text ≡ Some (Field entry) = line_read (codes "field" ∷ decimal n ∷ label_text T m.oneofs g.label ∷ kind_text T g.kind ∷ g.name ∷ []) (Field entry)
    (decimal n, label_text T m.oneofs g.label, kind_text T g.kind, refl, (refl, below), lr.spelled, kind_word_is T g.kind valid field.kind, field.name.form) in
    let up = subst (IsAscendingBy (λ (f g : TheField). f.number < g.number)) split ok.ascend in
    let order = last_numbered fs n (λ last e. ascends_split (λ (f g : TheField). f.number < g.number) fs g gs up last e) in
    let apart = subst AreDistinct (ap (map (λ (f : TheField). f.name)) split ∙ map-append (λ (f : TheField). f.name) fs (g ∷ gs)) ok.names in
    let fresh : is_among g.name (map (λ (p : ℕ × List ℕ). p.1) (map numbered fs)) ≡ false =
    ap (is_among g.name) (names_numbered fs) ∙ among_not g.name (map (λ f. f.name) fs)
    (distinct_split (map (λ f. f.name) fs) g.name (map (λ f. f.name) gs) apart) in
    let count : length m.fields ≡ length fs + suc (length gs) = ap length split ∙ length-append fs (g ∷ gs) in
    let numbered_count : length (map numbered fs) ≡ length fs = length-map fs numbered in
    let shorts : ((is_short_label entry.label && is_short_kind entry.kind) && is_short g.name) ≡ true =
    all_three (is_short_label entry.label) (is_short_kind entry.kind) (is_short g.name) lr.short kw.short
    (le-leb (length g.name) 64 field.name.short) in
    let le_bytes = bytes_rise (b + length text + 1) (map (field_text T m.oneofs) gs) in
    let made : resolved_field t oneofs n entry ≡ g =
    ap (λ (k : Kind). record {
      number = n;
      name = g.name;
      kind = k;
      label = labeled t oneofs (label_word T m.oneofs g.label);
    }) kw.resolves
    ∙ ap (λ (l : Label). record { number = n; name = g.name; kind = g.kind; label = l }) lr.labels in
    let next_draft : with_part d (with_field_line t (open_parts.Message M) (Some n) entry)
    ≡ with_part d (open_parts.Message (record {
      name = m.name;
      fields = fs ++ g ∷ [];
      oneofs = take lr.next m.oneofs;
    })) =
    ap (λ (f : TheField). with_part d (open_parts.Message (record { name = m.name; fields = fs ++ f ∷ []; oneofs = joined_with oneofs (new_oneof oneofs entry.label) }))) made
    ∙ ap (λ (os : List (List ℕ)). with_part d (open_parts.Message (record { name = m.name; fields = fs ++ g ∷ []; oneofs = os }))) lr.joins in
    let rest = fields_run t T m d (b + length text + 1) (fs ++ g ∷ []) gs lr.next valid is ok
    (split ∙ sym (append_assoc fs (g ∷ []) gs)) (follow_ge lr.next (length m.oneofs) gs lr.goes_on) lr.goes_on few
    in
    runs_line t (with_part d (open_parts.Message M)) (with_part d (open_parts.Message m)) b text (Field entry) (map (field_text T m.oneofs) gs) reads
    (record {
      syntax = both_no (clashes entry.label entry.kind) (is_field_out_of_order (fields (map numbered fs)) (Some n)) (no_clash t T m.oneofs (length m.oneofs) g.label g.kind kw field.label) order.0;
      number = no_not (has_field_number (Some n)) (field_number_is n field.number);
      duplicate = both_no (is_among g.name (map (λ (p : ℕ × List ℕ). p.1) (map numbered fs))) (repeats_number (fields (map numbered fs)) (Some n)) fresh order.1;
      unknown = both_no (is_unknown_label t entry.label) (is_unknown_kind t entry.kind) lr.known kw.known;
      map_key = lr.key;
      limit = both_no (not ((is_short_label entry.label && is_short_kind entry.kind) && is_short g.name) || nat_le 128 (length (map numbered fs))) (nat_lt 65536 (b + length text + 1))
          (both_no (not ((is_short_label entry.label && is_short_kind entry.kind) && is_short g.name))
          (nat_le 128 (length (map numbered fs)))
          (no_not ((is_short_label entry.label && is_short_kind entry.kind) && is_short g.name) shorts)
          (room_left (length (map numbered fs)) 128 (omega (arith, numbered_count, count, ok.few))))
          (no_more_bytes (b + length text + 1) (omega (arith, le_bytes, few)));
    })
    (subst (λ (e : TableDraft). Runs t e (b + length text + 1) (map (field_text T m.oneofs) gs) (with_part d (open_parts.Message m))) (sym next_draft) rest)

-- ---- messages

record MessagesRan (t : TypeNames) (T : Table) (d : TableDraft) (b : ℕ) (ls : List (List ℕ)) : Type 0 where
  end : TableDraft
  runs : Runs t d b ls end
  stand : Stand end T.enums T.messages []

message_clean : (t : TypeNames) (T : Table) (d : TableDraft) (bytes : ℕ) (done : List TheMessage) (m : TheMessage)
    (rest : List TheMessage) → IsValid T → T.messages ≡ done ++ m ∷ rest → Stand d T.enums done [] → bytes ≤ 65536
    → IsClean t (names_before_line d) bytes (Message m.name)
message_clean t T d bytes done m rest valid split s few =
    let es = stand_enums d T.enums done [] s in
    let ms = stand_messages d T.enums done [] s in
    let ks = stand_methods d T.enums done [] s in
    let names = front_names (λ (c : TheMessage). c.name) T.messages done m rest split in
    let up = subst (IsAscendingBy IsBelow) names (map_ascends IsBelow (λ (c : TheMessage). c.name) T.messages valid.messages_ascend) in
    let enums = map (λ (e : Choices). e.name) T.enums in
    let front = map (λ (c : TheMessage). c.name) done in
    let back = map (λ (c : TheMessage). c.name) rest in
    let apart : AreDistinct ((enums ++ front) ++ m.name ∷ back) =
    subst AreDistinct (ap (λ (xs : List (List ℕ)). enums ++ xs) names
    ∙ sym (append_assoc enums front (m.name ∷ back))) valid.types in
    let fresh = distinct_split (enums ++ front) m.name back apart in
    let ok = All-contains (IsMessage T) (done ++ m ∷ rest) m (subst (All (IsMessage T)) split valid.messages) (Contains-append_right done (m ∷ rest) m (contains_first m rest)) in
    let count : length T.messages ≡ length done + suc (length rest) = ap length split ∙ length-append done (m ∷ rest) in
    let no_methods : not (is_empty (method_names d)) ≡ false = rw ks refl in
    let stays : is_below_last m.name (message_names d) ≡ false = rw ms (not_falls m.name front (λ n last. ascends_split IsBelow front m.name back up n last)) in
    let new_enum : is_among m.name (enum_names d) ≡ false = rw es (among_not m.name enums (λ h. fresh (Contains-append_left enums front m.name h))) in
    let new_message : is_among m.name (message_names d) ≡ false = rw ms (among_not m.name front (λ h. fresh (Contains-append_right enums front m.name h))) in
    let length_is : length (message_names d) ≡ length done = ap length ms ∙ length-map done (λ (c : TheMessage). c.name) in
    record {
      syntax = both_no (lacks_value (open_part d.open_part) || not (is_empty (method_names d)))
          (is_below_last m.name (message_names d))
          (both_no (lacks_value (open_part d.open_part)) (not (is_empty (method_names d))) s.value_in no_methods)
          stays;
      number = s.zero_in;
      duplicate = both_no (is_among m.name (enum_names d)) (is_among m.name (message_names d)) new_enum new_message;
      unknown = refl;
      map_key = refl;
      limit = both_no (not (is_short_full m.name) || nat_le 256 (length (message_names d))) (nat_lt 65536 bytes)
          (both_no (not (is_short_full m.name)) (nat_le 256 (length (message_names d)))
          (no_not (is_short_full m.name) ok.name.short)
          (room_left (length (message_names d)) 256 (omega (arith, length_is, count, valid.few_messages))))
          (no_more_bytes bytes few);
    }

messages_run : (t : TypeNames) (T : Table) (d : TableDraft) (b : ℕ) (done rest : List TheMessage) → IsValid T → TypesOf t T
    → T.messages ≡ done ++ rest → Stand d T.enums done [] → bytes_from b (flat_map (message_texts T) rest) ≤ 65536
    → MessagesRan t T d b (flat_map (message_texts T) rest)
messages_run t T d b done [] valid is split s few = record {
  end = d;
  runs = refl;
  stand = record { enums = s.enums; messages = s.messages ∙ sym (split ∙ append-nil done); methods = s.methods; value_in = s.value_in; zero_in = s.zero_in };
}
messages_run t T d b done (m ∷ rest) valid is split s few =
    let head = spaced (codes "message" ∷ m.name ∷ []) in
    let b1 = b + length head + 1 in
    let b2 = bytes_from b1 (map (field_text T m.oneofs) m.fields) in
    let bytes : bytes_from b (flat_map (message_texts T) (m ∷ rest))
    ≡ bytes_from b2 (flat_map (message_texts T) rest) =
    bytes_append b (message_texts T m) (flat_map (message_texts T) rest) in
    let le2 : b2 ≤ 65536 = omega (arith, bytes, few, bytes_rise b2 (flat_map (message_texts T) rest)) in
    let le1 : b1 ≤ 65536 = omega (arith, le2, bytes_rise b1 (map (field_text T m.oneofs) m.fields)) in
    let ok = All-contains (IsMessage T) (done ++ m ∷ rest) m (subst (All (IsMessage T)) split valid.messages) (Contains-append_right done (m ∷ rest) m (contains_first m rest)) in
    let reads : line_of head ≡ Some (Message m.name) = line_read (codes "message" ∷ m.name ∷ []) (Message m.name) (refl, ok.name.form) in
    let opened = added_message d m.name in
    let whole = with_part opened (open_parts.Message m) in
    let fields_ran = fields_run t T m opened b1 [] m.fields 0 valid is ok refl (omega arith) ok.oneof_order le2 in
    let first = runs_line t d whole b head (Message m.name) (map (field_text T m.oneofs) m.fields) reads (message_clean t T d b1 done m rest valid split s le1) fields_ran in
    let split_next : T.messages ≡ (done ++ m ∷ []) ++ rest = split ∙ sym (append_assoc done (m ∷ []) rest) in
    let stand : Stand whole T.enums (done ++ m ∷ []) [] = record {
      enums = s.enums;
      messages = ap (λ (xs : List TheMessage). xs ++ m ∷ []) s.messages;
      methods = s.methods;
      value_in = refl;
      zero_in = refl;
    } in
    let more = messages_run t T whole b2 (done ++ m ∷ []) rest valid is split_next stand (omega (arith, bytes, few)) in
    record { end = more.end; runs = runs_append t d whole more.end b (message_texts T m) (flat_map (message_texts T) rest) first more.runs; stand = more.stand }

-- ---- methods

abbrev method_entry : Table → ℕ → TheMethod → MethodLine
method_entry T i m = record { index = Some i; service = m.service; name = m.name; input = message_name T m.input; output = message_name T m.output }

record MethodsRan (t : TypeNames) (T : Table) (d : TableDraft) (b : ℕ) (ls : List (List ℕ)) : Type 0 where
  end : TableDraft
  runs : Runs t d b ls end
  stand : Stand end T.enums T.messages T.methods

-- the key of a method determines its service and name
key_parts : (k : TheMethod) → dark k.service ≡ true → dark k.name ≡ true → slice_split (λ c. c == 32) (key_in k) ≡ k.service ∷ k.name ∷ []
key_parts k service name = split_dark 32 k.service k.name (omega arith) service ∙ ap (λ (x : List (List ℕ)). k.service ∷ x) (split_last 32 k.name (omega arith) name)

key_pair : (T : Table) (k m : TheMethod) → IsMethod T k → IsMethod T m → key_in k ≡ key_in m → pair_of k ≡ pair_of m
key_pair T k m hk hm e =
    let both : k.service ∷ k.name ∷ [] ≡ m.service ∷ m.name ∷ [] =
    sym (key_parts k (full_dark k.service hk.service.form) (name_dark k.name hk.name.form))
    ∙ ap (slice_split (λ c. c == 32)) e ∙ key_parts m (full_dark m.service hm.service.form)
    (name_dark m.name hm.name.form) in
    let s : k.service ≡ m.service = cc in
    let n : k.name ≡ m.name = cc in
    ap (λ (x : List ℕ). (x, k.name)) s ∙ ap (λ (x : List ℕ). (m.service, x)) n

keys_apart : (T : Table) (ks : List TheMethod) (m : TheMethod) → All (IsMethod T) ks → IsMethod T m → Contains (map key_in ks) (key_in m) → Contains (map pair_of ks) (pair_of m)
keys_apart T [] m all ok h = absurd (contains_nothing (key_in m) h)
keys_apart T (k ∷ ks) m all ok h =
    elim (contains_cases (key_in k) (key_in m) (map key_in ks) h) [
      | inl same ↦ subst (λ (p : List ℕ × List ℕ). Contains (pair_of k ∷ map pair_of ks) p)
          (key_pair T k m (all 0 k (omega arith)) ok same) (contains_first (pair_of k) (map pair_of ks))
      | inr later ↦ contains_later (pair_of k) (pair_of m) (map pair_of ks) (keys_apart T ks m (λ i d within. all (suc i) d (omega arith)) ok later)
    ]

all_front : {X : Type 0} (P : X → Type 0) (xs ys : List X) → All P (xs ++ ys) → All P xs
all_front {X = X} P xs ys all = All-from_recursion P xs (go xs (recursion_from_All P (xs ++ ys) all))
  where
    go : (zs : List X) → AllByRecursion P (zs ++ ys) → AllByRecursion P zs
    go [] h = tt
    go (z ∷ zs) h = (h.0, go zs h.1)

methods_run : (t : TypeNames) (T : Table) (d : TableDraft) (b i : ℕ) (done rest : List TheMethod) → IsValid T → TypesOf t T
    → i ≡ length done → T.methods ≡ done ++ rest → Stand d T.enums T.messages done
    → bytes_from b (map (method_text T) (enumerate_from i rest)) ≤ 65536
    → MethodsRan t T d b (map (method_text T) (enumerate_from i rest))
methods_run t T d b i done [] valid is at split s few = record {
  end = d;
  runs = refl;
  stand = record { enums = s.enums; messages = s.messages; methods = s.methods ∙ sym (split ∙ append-nil done); value_in = s.value_in; zero_in = s.zero_in };
}
methods_run t T d b i done (m ∷ rest) valid is at split s few =
    let entry = method_entry T i m in
    let text = method_text T (i, m) in
    let all = subst (All (IsMethod T)) split valid.methods in
    let ok = All-contains (IsMethod T) (done ++ m ∷ rest) m all (Contains-append_right done (m ∷ rest) m (contains_first m rest)) in
    let input = message_placed t T m.input valid is ok.input in
    let output = message_placed t T m.output valid is ok.output in
    let input_at = message_at T m.input valid ok.input in
    let output_at = message_at T m.output valid ok.output in
    let count : length T.methods ≡ length done + suc (length rest) = ap length split ∙ length-append done (m ∷ rest) in
    let below : i < 2 ^ 32 = omega (arith, at, count, valid.few_methods) in
    let reads : line_of text ≡ Some (Method entry) =
    line_read (codes "method" ∷ decimal i ∷ m.service ∷ m.name ∷ message_name T m.input ∷ message_name T m.output
    ∷ []) (Method entry)
    (decimal i, refl, (refl, below), ok.service.form, ok.name.form, input_at.full.form, output_at.full.form) in
    let ks = stand_methods d T.enums T.messages done s in
    let length_is : length (method_names d) ≡ length done = ap length ks ∙ length-map done key_in in
    let turn : (i == length (method_names d)) ≡ true = eq-eqb i (length (method_names d)) (at ∙ sym length_is) in
    let apart = subst AreDistinct (ap (map pair_of) split ∙ map-append pair_of done (m ∷ rest)) valid.method_names in
    let fresh : is_among (key_in m) (method_names d) ≡ false =
    ap (is_among (key_in m)) ks ∙ among_not (key_in m) (map key_in done)
    (λ h. distinct_split (map pair_of done) (pair_of m) (map pair_of rest) apart
    (keys_apart T done m (all_front (IsMethod T) done (m ∷ rest) all) ok h)) in
    let shorts : (((is_short_full m.service && is_short m.name) && is_short_full (message_name T m.input)) && is_short_full (message_name T m.output)) ≡ true =
    both_hold ((is_short_full m.service && is_short m.name) && is_short_full (message_name T m.input))
    (is_short_full (message_name T m.output))
    (all_three (is_short_full m.service) (is_short m.name) (is_short_full (message_name T m.input))
    ok.service.short (le-leb (length m.name) 64 ok.name.short) input_at.full.short) output_at.full.short in
    let bytes = b + length text + 1 in
    let le_bytes = bytes_rise bytes (map (method_text T) (enumerate_from (i + 1) rest)) in
    let made : resolved_method t entry ≡ m =
    ap (λ (k : ℕ). record {
      service = m.service;
      name = m.name;
      input = k;
      output = index_or_next (message_name T m.output) t.messages;
    }) input.0
    ∙ ap (λ (k : ℕ). record { service = m.service; name = m.name; input = m.input; output = k }) output.0 in
    let next = added_method t d entry in
    let stand : Stand next T.enums T.messages (done ++ m ∷ []) = record {
      enums = s.enums;
      messages = s.messages;
      methods = ap (λ (x : TheMethod). d.methods ++ x ∷ []) made ∙ ap (λ (x : List TheMethod). x ++ m ∷ []) s.methods;
      value_in = refl;
      zero_in = refl;
    } in
    let at_next : i + 1 ≡ length (done ++ m ∷ []) = omega (arith, at, length-append done (m ∷ [])) in
    let more = methods_run t T next bytes (i + 1) (done ++ m ∷ []) rest valid is at_next (split ∙ sym (append_assoc done (m ∷ []) rest)) stand few in
    record {
      end = more.end;
      runs = runs_line t d more.end b text (Method entry) (map (method_text T) (enumerate_from (i + 1) rest)) reads
          (record {
            syntax = s.value_in;
            number = both_no (lacks_zero (open_part d.open_part)) (not (i == length (method_names d))) s.zero_in (no_not (i == length (method_names d)) turn);
            duplicate = fresh;
            unknown = both_no (not (is_among (message_name T m.input) t.messages))
                (not (is_among (message_name T m.output) t.messages))
                (no_not (is_among (message_name T m.input) t.messages) input.1)
                (no_not (is_among (message_name T m.output) t.messages) output.1);
            map_key = refl;
            limit = both_no (not
                (((is_short_full m.service && is_short m.name) && is_short_full (message_name T m.input))
                && is_short_full (message_name T m.output)) || nat_le 256 (length (method_names d)))
                (nat_lt 65536 bytes)
                (both_no (not (((is_short_full m.service && is_short m.name)
                && is_short_full (message_name T m.input)) && is_short_full (message_name T m.output)))
                (nat_le 256 (length (method_names d)))
                (no_not (((is_short_full m.service && is_short m.name) && is_short_full (message_name T m.input))
                && is_short_full (message_name T m.output)) shorts)
                (room_left (length (method_names d)) 256 (omega (arith, length_is, count, valid.few_methods))))
                (no_more_bytes bytes (omega (arith, le_bytes, few)));
          }) more.runs;
      stand = more.stand;
    }

-- ---- all lines of a table

-- whole lines of a text that joins lines without a line feed
split_line : (w rest : List ℕ) → list_all (λ c. nat_lt 10 c) w ≡ true → slice_split (λ c. c == 10) (w ++ 10 ∷ rest) ≡ w ∷ slice_split (λ c. c == 10) rest
split_line [] rest e = refl
split_line (c ∷ cs) rest e =
    let above : 10 < c = ltb-true 10 c (both_left (nat_lt 10 c) (list_all (λ c. nat_lt 10 c) cs) e) in
    let other : (c == 10) ≡ false = ne_eqb c 10 (omega arith) in
    let more = split_line cs rest (both_right (nat_lt 10 c) (list_all (λ c. nat_lt 10 c) cs) e) in
    rw (other, more) refl

abbrev AllLines : List (List ℕ) → Type 0
AllLines ls = AllByRecursion (λ l. list_all (λ c. nat_lt 10 c) l ≡ true) ls

take_front : {X : Type 0} (xs ys : List X) → take (length xs) (xs ++ ys) ≡ xs
take_front [] ys = refl
take_front (x ∷ xs) ys = ap (λ zs. x ∷ zs) (take_front xs ys)

pieces_joined : (ls : List (List ℕ)) → AllLines ls → pieces_of (flat_map fed ls) ≡ ls ++ [] ∷ []
pieces_joined [] h = refl
pieces_joined (l ∷ ls) h =
    let regroup : fed l ++ flat_map fed ls ≡ l ++ 10 ∷ flat_map fed ls = append_assoc l (10 ∷ []) (flat_map fed ls) in
    ap pieces_of regroup ∙ split_line l (flat_map fed ls) h.0 ∙ ap (λ (x : List (List ℕ)). l ∷ x) (pieces_joined ls h.1)

whole_joined : (ls : List (List ℕ)) → AllLines ls → whole_lines (flat_map fed ls) ≡ ls
whole_joined ls h =
    let n : length (ls ++ [] ∷ []) - 1 ≡ length ls = omega (arith, length-append ls ([] ∷ [])) in
    ap (λ (ps : List (List ℕ)). take (length ps - 1) ps) (pieces_joined ls h) ∙ ap (λ (k : ℕ). take k (ls ++ [] ∷ [])) n ∙ take_front ls ([] ∷ [])

rest_joined : (ls : List (List ℕ)) → AllLines ls → remainder_of (flat_map fed ls) ≡ []
rest_joined ls h =
    let n : length (ls ++ [] ∷ []) - 1 ≡ length ls = omega (arith, length-append ls ([] ∷ [])) in
    ap (λ (ps : List (List ℕ)). unwrap_or (slice_get ps (length ps - 1)) []) (pieces_joined ls h)
    ∙ ap (λ (k : ℕ). unwrap_or (slice_get (ls ++ [] ∷ []) k) []) n ∙ ap (λ (o : Option (List ℕ)). unwrap_or o [])
    (get_last ls [])

-- each line consists of words without a line feed, since it is read

word_visible : (w : List ℕ) → dark w ≡ true → list_all (λ c. nat_lt 10 c) w ≡ true
word_visible [] e = refl
word_visible (c ∷ cs) e =
    let above : 32 < c = ltb-true 32 c (both_left (nat_lt 32 c) (dark cs) e) in
    let first : nat_lt 10 c ≡ true = lt-ltb 10 c (omega arith) in
    let rest = word_visible cs (both_right (nat_lt 32 c) (dark cs) e) in
    rw (first, rest) refl

spaced_visible : (ws : List (List ℕ)) → AllDark ws → list_all (λ c. nat_lt 10 c) (spaced ws) ≡ true
spaced_visible [] h = refl
spaced_visible (w ∷ []) h = word_visible w h.0
spaced_visible (w ∷ v ∷ ws) h = all-append (λ c. nat_lt 10 c) w (32 ∷ spaced (v ∷ ws)) (word_visible w h.0) (spaced_visible (v ∷ ws) h.1)

line_visible : (t : TypeNames) (d : TableDraft) (bytes : ℕ) (text : List ℕ) → line_fault t (names_before_line d) bytes (line_of text) ≡ None → list_all (λ c. nat_lt 10 c) text ≡ true
line_visible t d bytes text none = taken (line_of text) refl none
  where
    taken : (o : Option TableLine) → line_of text ≡ o → line_fault t (names_before_line d) bytes o ≡ None → list_all (λ c. nat_lt 10 c) text ≡ true
    taken None e none = absurd cc
    taken (Some l) e none =
        let h = is_clean t (names_before_line d) bytes l none in
        let is = line_is text l e (in_range t (names_before_line d) bytes l h) in
        ap (list_all (λ c. nat_lt 10 c)) (text_is text) ∙ spaced_visible (words_of text) (words_dark (words_of text) l is)

runs_visible : (t : TypeNames) (d e : TableDraft) (b : ℕ) (ls : List (List ℕ)) → Runs t d b ls e → AllLines ls
runs_visible t d e b [] r = tt
runs_visible t d e b (l ∷ ls) r = (line_visible t d (b + length l + 1) l r.0, runs_visible t (with_parsed_line t d (line_of l)) e (b + length l + 1) ls r.1)

filter_first : {X Y : Type 0} (h : X → Option Y) (x : X) (xs : List X) → filter_map h (x ∷ xs) ≡ option_to_list (h x) ++ filter_map h xs
filter_first {Y = Y} h x xs = elim (h x) as (λ (o : Option Y). cons_option o (filter_map h xs) ≡ option_to_list o ++ filter_map h xs) [ None ↦ refl | Some y ↦ refl ]

runs_enums : (t : TypeNames) (d e : TableDraft) (b : ℕ) (ls : List (List ℕ)) → Runs t d b ls e → enum_names e ≡ enum_names d ++ filter_map (without_prefix (codes "enum ")) ls
runs_enums t d e b [] r = ap enum_names (sym r) ∙ sym (append-nil (enum_names d))
runs_enums t d e b (l ∷ ls) r =
    let n = names_step t d (b + length l + 1) l r.0 in
    runs_enums t (with_parsed_line t d (line_of l)) e (b + length l + 1) ls r.1 ∙ ap (λ (x : List (List ℕ)). x ++ filter_map (without_prefix (codes "enum ")) ls) n.enums
    ∙ append_assoc (enum_names d) (option_to_list (without_prefix (codes "enum ") l)) (filter_map (without_prefix (codes "enum ")) ls)
    ∙ ap (λ (x : List (List ℕ)). enum_names d ++ x) (sym (filter_first (without_prefix (codes "enum ")) l ls))

runs_messages : (t : TypeNames) (d e : TableDraft) (b : ℕ) (ls : List (List ℕ)) → Runs t d b ls e → message_names e ≡ message_names d ++ filter_map (without_prefix (codes "message ")) ls
runs_messages t d e b [] r = ap message_names (sym r) ∙ sym (append-nil (message_names d))
runs_messages t d e b (l ∷ ls) r =
    let n = names_step t d (b + length l + 1) l r.0 in
    runs_messages t (with_parsed_line t d (line_of l)) e (b + length l + 1) ls r.1 ∙ ap (λ (x : List (List ℕ)). x ++ filter_map (without_prefix (codes "message ")) ls) n.messages
    ∙ append_assoc (message_names d) (option_to_list (without_prefix (codes "message ") l))
    (filter_map (without_prefix (codes "message ")) ls) ∙ ap (λ (x : List (List ℕ)). message_names d ++ x)
    (sym (filter_first (without_prefix (codes "message ")) l ls))

runs_draft : (t : TypeNames) (d e : TableDraft) (b : ℕ) (ls : List (List ℕ)) → Runs t d b ls e → fold (λ d line. with_parsed_line t d (line_of line)) d ls ≡ e
runs_draft t d e b [] r = r
runs_draft t d e b (l ∷ ls) r = runs_draft t (with_parsed_line t d (line_of l)) e (b + length l + 1) ls r.1

bytes_long : (b : ℕ) (ls : List (List ℕ)) → bytes_from b ls ≡ b + length (flat_map fed ls)
bytes_long b [] = omega arith
bytes_long b (l ∷ ls) = omega (arith, bytes_long (b + length l + 1) ls, length-append (fed l) (flat_map fed ls), length-append l (10 ∷ []))

drop_front : {X : Type 0} (xs ys : List X) → drop (length xs) (xs ++ ys) ≡ ys
drop_front [] ys = refl
drop_front (x ∷ xs) ys = drop_front xs ys

runs_clean : (t : TypeNames) (full done ls : List (List ℕ)) (tail : List ℕ) (d e : TableDraft) (b k : ℕ) → full ≡ done ++ ls
    → types_of full ≡ t → table_draft_of t done ≡ d → bytes_of_lines done ≡ b → Runs t d b ls e → k < length ls
    → fault_after_lines full tail (length done + k) ≡ None
runs_clean t full done [] tail d e b k split types draft bytes r within = absurd (omega arith)
runs_clean t full done (l ∷ ls) tail d e b zero split types draft bytes r within =
    let at : length done + 0 ≡ length done = omega arith in
    let here : drop (length done) full ≡ l ∷ ls = ap (drop (length done)) split ∙ drop_front done (l ∷ ls) in
    let front : take (length done) full ≡ done = ap (take (length done)) split ∙ take_front done (l ∷ ls) in
    let before_is : names_in_lines (take (length done) full) ≡ names_before_line d = ap names_in_lines front ∙ sym (before_draft t done) ∙ ap names_before_line draft in
    let bytes_is : bytes_of_lines (take (length done) full) ≡ b = ap bytes_of_lines front ∙ bytes in
    ap (fault_after_lines full tail) at ∙ here_is full tail (length done) l ls here
    ∙ ap (λ (u : TypeNames). line_fault u (names_in_lines (take (length done) full)) (bytes_of_lines (take (length done) full) + length l + 1) (line_of l)) types
    ∙ ap (λ (x : NamesBefore). line_fault t x (bytes_of_lines (take (length done) full) + length l + 1) (line_of l)) before_is
    ∙ ap (λ (n : ℕ). line_fault t (names_before_line d) (n + length l + 1) (line_of l)) bytes_is
    ∙ r.0
runs_clean t full done (l ∷ ls) tail d e b (suc k) split types draft bytes r within =
    let at : length done + suc k ≡ length (done ++ l ∷ []) + k = omega (arith, length-append done (l ∷ [])) in
    let next : table_draft_of t (done ++ l ∷ []) ≡ with_parsed_line t d (line_of l) =
    fold_push (λ d l. with_parsed_line t d (line_of l)) empty_draft done l
    ∙ ap (λ (x : TableDraft). with_parsed_line t x (line_of l)) draft in
    let more : bytes_of_lines (done ++ l ∷ []) ≡ b + length l + 1 = bytes_push done l ∙ ap (λ (n : ℕ). n + length l + 1) bytes in
    ap (fault_after_lines full tail) at ∙ runs_clean t full (done ++ l ∷ []) ls tail (with_parsed_line t d (line_of l)) e
    (b + length l + 1) k (split ∙ sym (append_assoc done (l ∷ []) ls)) types next more r.1 (omega arith)

record TableRan (T : Table) : Type 0 where
  end : TableDraft
  runs : Runs (record { enums = map (λ e. e.name) T.enums; messages = map (λ m. m.name) T.messages }) empty_draft 0 (table_lines T) end
  stand : Stand end T.enums T.messages T.methods

table_run : (T : Table) → IsValid T → TableRan T
table_run T valid =
    let t : TypeNames = (record { enums = map (λ e. e.name) T.enums; messages = map (λ m. m.name) T.messages }) in
    let es = flat_map enum_texts T.enums in
    let ms = flat_map (message_texts T) T.messages in
    let ks = map (method_text T) (enumerate_from 0 T.methods) in
    let total : bytes_from 0 (table_lines T) ≡ length (table_text T) = bytes_long 0 (table_lines T) ∙ zero-add (length (flat_map fed (table_lines T))) ∙ ap length (lines_text T) in
    let parts : bytes_from 0 (table_lines T) ≡ bytes_from (bytes_from (bytes_from 0 es) ms) ks =
    bytes_append 0 (es ++ ms) ks ∙ ap (λ (b : ℕ). bytes_from b ks) (bytes_append 0 es ms) in
    let le3 : bytes_from (bytes_from (bytes_from 0 es) ms) ks ≤ 65536 = omega (arith, total, parts, valid.short) in
    let le2 : bytes_from (bytes_from 0 es) ms ≤ 65536 = omega (arith, le3, bytes_rise (bytes_from (bytes_from 0 es) ms) ks) in
    let le1 : bytes_from 0 es ≤ 65536 = omega (arith, le2, bytes_rise (bytes_from 0 es) ms) in
    let is : TypesOf t T = record { messages = refl; enums = refl } in
    let none : Stand empty_draft [] [] [] = record { enums = refl; messages = refl; methods = refl; value_in = refl; zero_in = refl } in
    let r1 = enums_run t T empty_draft 0 [] T.enums valid refl none le1 in
    let r2 = messages_run t T r1.end (bytes_from 0 es) [] T.messages valid is refl r1.stand le2 in
    let r3 = methods_run t T r2.end (bytes_from (bytes_from 0 es) ms) 0 [] T.methods valid is refl refl r2.stand le3 in
    let two = runs_append t empty_draft r1.end r2.end 0 es ms r1.runs r2.runs in
    let third : Runs t r2.end (bytes_from 0 (es ++ ms)) ks r3.end = subst (λ (b : ℕ). Runs t r2.end b ks r3.end) (sym (bytes_append 0 es ms)) r3.runs in
    record { end = r3.end; runs = runs_append t empty_draft r2.end r3.end 0 (es ++ ms) ks two third; stand = r3.stand }

abbrev none_of_reasons : Option TableReason
none_of_reasons = None

either_none : (b : Bool) → cond b None None ≡ none_of_reasons
either_none true = refl
either_none false = refl

clean_at : (t : TypeNames) (e : TableDraft) (ls : List (List ℕ)) → types_of ls ≡ t → Runs t empty_draft 0 ls e
    → table_draft_of (types_of ls) ls ≡ e → lacks_value (open_part e.open_part) ≡ false
    → lacks_zero (open_part e.open_part) ≡ false → (i : ℕ) → fault_after_lines ls [] i ≡ None
clean_at t e ls types runs drafted value_in zero_in i =
    elim (cases_lt i (length ls)) [
      | inl within ↦ ap (fault_after_lines ls []) (sym (zero-add i)) ∙ runs_clean t ls [] ls [] empty_draft e 0 i refl types refl refl runs within
      | inr past ↦
          let before_is : names_in_lines ls ≡ names_before_line e = sym (before_draft (types_of ls) ls) ∙ ap names_before_line drafted in
          let end : end_fault (names_in_lines ls) [] ≡ None = ap (λ (b : NamesBefore). end_fault b []) before_is ∙ rw (value_in, zero_in) refl in
          ap (λ (o : Option (List ℕ)). option_map_or
          (λ x. line_fault (types_of ls) (names_in_lines (take i ls)) (bytes_of_lines (take (i + 1) ls)) (line_of x)) o
          (cond (i == length ls) (end_fault (names_in_lines ls) []) None)) (get_end ls i past)
          ∙ ap (λ (x : Option TableReason). cond (i == length ls) x None) end ∙ either_none (i == length ls)
    ]

pub complete : (T : Table) (text : List ℕ) → IsValid T → text ≡ table_text T → IsFaultless text × (table_in (whole_lines text) ≡ T)
complete T text valid e =
    let t : TypeNames = (record { enums = map (λ e. e.name) T.enums; messages = map (λ m. m.name) T.messages }) in
    let ran = table_run T valid in
    let ls = table_lines T in
    let seen = runs_visible t empty_draft ran.end 0 ls ran.runs in
    let joined : text ≡ flat_map fed ls = e ∙ sym (lines_text T) in
    let lines : whole_lines text ≡ ls = ap whole_lines joined ∙ whole_joined ls seen in
    let tail : remainder_of text ≡ [] = ap remainder_of joined ∙ rest_joined ls seen in
    let enums : filter_map (without_prefix (codes "enum ")) ls ≡ t.enums = sym (runs_enums t empty_draft ran.end 0 ls ran.runs) ∙ stand_enums ran.end T.enums T.messages T.methods ran.stand in
    let messages : filter_map (without_prefix (codes "message ")) ls ≡ t.messages =
    sym (runs_messages t empty_draft ran.end 0 ls ran.runs)
    ∙ stand_messages ran.end T.enums T.messages T.methods ran.stand in
    let types : types_of ls ≡ t =
    ap (λ (x : List (List ℕ)). record { enums = x; messages = filter_map (without_prefix (codes "message ")) ls }) enums
    ∙ ap (λ (x : List (List ℕ)). record { enums = t.enums; messages = x }) messages in
    let drafted : table_draft_of (types_of ls) ls ≡ ran.end = ap (λ (u : TypeNames). table_draft_of u ls) types ∙ runs_draft t empty_draft ran.end 0 ls ran.runs in
    let made : table_of_draft ran.end ≡ T =
    ap (λ (x : List Choices). record { messages = with_message ran.end.open_part ran.end.messages; enums = x; methods = ran.end.methods }) ran.stand.enums
    ∙ ap (λ (x : List TheMessage). record { messages = x; enums = T.enums; methods = ran.end.methods }) ran.stand.messages
    ∙ ap (λ (x : List TheMethod). record { messages = T.messages; enums = T.enums; methods = x }) ran.stand.methods in
    let clean : (i : ℕ) → fault_after_lines ls [] i ≡ None = clean_at t ran.end ls types ran.runs drafted ran.stand.value_in ran.stand.zero_in in (
      λ i. ap (λ (x : List (List ℕ)). fault_after_lines x (remainder_of text) i) lines ∙ ap (λ (r : List ℕ). fault_after_lines ls r i) tail ∙ clean i,
      ap table_in lines ∙ ap table_of_draft drafted ∙ made,
    )
