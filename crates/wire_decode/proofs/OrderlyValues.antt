-- Values that are read in order, and the content of a field with them.
use Rattle.std.proofs.Common.{◌≡◌, ℕ, suc, ◌-◌, ◌/◌, ◌%◌, ◌<◌, true, false, List, [], ◌∷◌, ◌++◌, map, length, take}
use Rattle.std.proofs.Common.{Option, Some, refl, ap, sym, subst, ◌∙◌, arith, append-nil}
use Rattle.std.specs.List.{slice_range}
use Rattle.std.specs.Option.{unwrap_or}
use Rattle.std.specs.Prelude.{Result, Ok, Err, IfOk, OnOk}
use Rattle.std.specs.Result.{result_ok}
use Rattle.std.specs.Str.{IsUtf8}
use Rattle.mrpc_table.specs.Node.{Node, no_fields, field, Content, one, many, Item, number, run, node}
use Rattle.mrpc_table.specs.Normal.{fields_of}
use Rattle.mrpc_table.specs.Words.{is_numeric, has_one_value, is_run}
use Rattle.mrpc_table.specs.declared.table.Kind.{Kind}
use Rattle.mrpc_table.specs.declared.table.Kind.TheVariants.{Text, Octets, Message as OfMessage}
use Rattle.mrpc_table.specs.declared.table.Label.{Label}
use Rattle.mrpc_table.specs.declared.table.Label.TheVariants.{Plain, Optional, Repeated, Packed, Map, Member}
use Rattle.mrpc_table.specs.declared.table.Field.{Field}
use Rattle.mrpc_table.specs.declared.table.Table.{Table}
use Rattle.wire_decode.specs.MergedMessage.{IsMergedMessage}
use Rattle.mrpc_table.specs.WireTypes.{wire_type_of}
use Rattle.wire_base.specs.Records.{IsRecordAt, IsTagAt, IsPayloadAt}
use Rattle.wire_base.specs.declared.records.Record.{Record}
use Rattle.wire_base.specs.declared.records.Payload.{Payload}
use Rattle.wire_base.specs.declared.records.Payload.TheVariants.{Varint, I64, I32, Len}
use Rattle.mrpc_table.specs.MapEntries.{last_of_each}
use Rattle.wire_decode.specs.Words.{word_form_of, payload_number, payload_type, is_map, is_list, may_be_packed, AreElements}
use Rattle.wire_decode.specs.RawMessages.{read_end, read_known, holds_number, holds_piece, holds_text, holds_octets, holds_message, holds_entry, numbers}
use Rattle.wire_decode.specs.Known.{HasRoom, is_message_kind}
use Rattle.wire_decode.specs.Merged.{list_of_items, values_in, join_fields, merged, field_content, singular}
use Rattle.wire_decode.specs.Contents.{with_content}
use Rattle.wire_decode.specs.Merged.{merged_element, merged_entry}
use Rattle.wire_decode.specs.Contents.{present, present_if_set, some_items, some_pairs, default_item_of}
use Rattle.wire_decode.specs.Ordered.{HasEachField, IsValue, AreRun, none_yet, one_more, IsFieldRead, AreValues, AreEntriesRead, IsPair}
use Rattle.wire_decode.specs.Contents.{single_content}
use Rattle.wire_decode.proofs.Merging.{element-same, singular-one, merged-suc, map-pushed}
use Rattle.wire_decode.proofs.Reading.{join-none}

payload-typed : (bytes : List ℕ) (at w : ℕ) (p : Payload) (next : ℕ) → IsPayloadAt bytes at w p next → payload_type p ≡ w
payload-typed bytes at w (Varint v) next h = sym h.0
payload-typed bytes at w (I64 v) next h = sym h.0
payload-typed bytes at w (I32 v) next h = sym h.0
payload-typed bytes at w (Len s e) next h = sym h.0

numeric-no_message : (k : Kind) → is_numeric k ≡ true → is_message_kind k ≡ false
numeric-no_message (OfMessage i) h = absurd (cc)
numeric-no_message _ h = refl

no-room-asked : (room : ℕ) (k : Kind) → is_message_kind k ≡ false → HasRoom room k
no-room-asked room k none message = absurd (let bad : false ≡ true = sym none ∙ message in cc)

-- a number
pub number-value : (T : Table) (room : ℕ) (k : Kind) (bytes : List ℕ) (at w v next : ℕ) (p : Payload)
    → is_numeric k ≡ true → w ≡ wire_type_of k → IsPayloadAt bytes at (wire_type_of k) p next → v ≡ payload_number p
    → IsValue T room k bytes at w (number (word_form_of k v)) next
number-value T room k bytes at w v next p numeric is stands value = record {
  payload = p;
  held = number (word_form_of k v);
  stands = subst (λ x. IsPayloadAt bytes at x p next) (sym is) stands;
  holds = λ label nomap. holds_number nomap numeric (payload-typed bytes at (wire_type_of k) p next stands) (ap (λ x. one (number (word_form_of k x))) value);
  has_room = no-room-asked room k (numeric-no_message k numeric);
  same = sym (element-same (merged T room) k (number (word_form_of k v)) (numeric-no_message k numeric));
}

-- a run of bytes
pub run-value : (T : Table) (room : ℕ) (k : Kind) (bytes : List ℕ) (at w first end : ℕ) → is_run k ≡ true → w ≡ 2
    → IsPayloadAt bytes at 2 (Len first end) end → (k ≡ Text → IsUtf8 (slice_range bytes first end))
    → IsValue T room k bytes at w (run (slice_range bytes first end)) end
run-value T room Text bytes at w first end h is stands text = record {
  payload = Len first end;
  held = run (slice_range bytes first end);
  stands = subst (λ x. IsPayloadAt bytes at x (Len first end) end) (sym is) stands;
  holds = λ label nomap. holds_text first end nomap refl refl (text refl) refl;
  has_room = no-room-asked room Text refl;
  same = refl;
}
run-value T room Octets bytes at w first end h is stands text = record {
  payload = Len first end;
  held = run (slice_range bytes first end);
  stands = subst (λ x. IsPayloadAt bytes at x (Len first end) end) (sym is) stands;
  holds = λ label nomap. holds_octets first end nomap refl refl refl;
  has_room = no-room-asked room Octets refl;
  same = refl;
}
run-value T room _ bytes at w first end h is stands text = absurd (cc)

-- a message
pub node-value : (T : Table) (room i : ℕ) (bytes : List ℕ) (at w first end : ℕ) (t : Node) → 0 < room → w ≡ 2
    → IsPayloadAt bytes at 2 (Len first end) end → HasEachField T (room - 1) (fields_of T i) (take end bytes) first t
    → IsValue T room (OfMessage i) bytes at w (node t) end
node-value T room i bytes at w first end t more is stands whole =
    let deeper : room ≡ suc (room - 1) = omega (arith, more) in
    record {
      payload = Len first end;
      held = node whole.raw;
      stands = subst (λ x. IsPayloadAt bytes at x (Len first end) end) (sym is) stands;
      holds = λ label nomap. holds_message (room - 1) i first end whole.raw nomap refl refl deeper whole.reads refl;
      has_room = λ message. more;
      same = ap node (whole.same ∙ sym (merged-suc T (room - 1) i whole.raw) ∙ sym (ap (λ r. merged T r i whole.raw) deeper) ∙ sym (ap (merged T room i) (join-none whole.raw)));
    }

-- ---- the content of a field

single-no_map : (label : Label) → has_one_value label ≡ true → is_map label ≡ false
single-no_map (Map key) h = absurd (cc)
single-no_map _ h = refl

single-has : (inner : ℕ → Node → Node) (label : Label) (k : Kind) (held i : Item) → has_one_value label ≡ true
    → i ≡ merged_element inner k held → single_content label i ≡ field_content inner label k (one held ∷ [])
single-has inner Plain k held i h e = ap present_if_set (ap Some e ∙ sym (singular-one inner k held))
single-has inner Optional k held i h e = ap present (ap Some e ∙ sym (singular-one inner k held))
single-has inner (Member o) k held i h e = ap present (ap Some e ∙ sym (singular-one inner k held))
single-has inner _ k held i h e = absurd (cc)

pub single-field : (T : Table) (room : ℕ) (label : Label) (k : Kind) (bytes : List ℕ) (tag start next : ℕ) (i : Item)
    (old new : Node) → has_one_value label ≡ true → IsValue T room k bytes start (tag % 8) i next
    → new ≡ join_fields old (with_content (tag / 8) (single_content label i) no_fields)
    → IsFieldRead T room label k bytes tag start next old new
single-field T room label k bytes tag start next i old new single v e = record {
  contents = one v.held ∷ [];
  run = λ at tagged. one_more [] (one v.held) v.payload at start (none_yet refl refl) tagged v.stands (v.holds label (single-no_map label single)) refl;
  same = e ∙ ap (λ o. join_fields old (with_content (tag / 8) o no_fields)) (single-has (merged T room) label k v.held i single v.same);
}

values-ones : (held : List Item) → values_in (map one held) ≡ held
values-ones [] = refl
values-ones (i ∷ is) = ap (λ x. i ∷ x) (values-ones is)

list-no_map : (label : Label) → is_list label ≡ true → is_map label ≡ false
list-no_map (Map key) h = absurd (cc)
list-no_map _ h = refl

list-has : (inner : ℕ → Node → Node) (label : Label) (k : Kind) (cs : List Content) → is_list label ≡ true
    → some_items (map (merged_element inner k) (values_in cs)) ≡ field_content inner label k cs
list-has inner Repeated k cs h = refl
list-has inner Packed k cs h = refl
list-has inner _ k cs h = absurd (cc)

pub list-field : (T : Table) (room : ℕ) (label : Label) (k : Kind) (bytes : List ℕ) (tag start next : ℕ)
    (is : List Item) (old new : Node) → is_list label ≡ true → AreValues T room k bytes tag start next is
    → new ≡ join_fields old (with_content (tag / 8) (some_items is) no_fields)
    → IsFieldRead T room label k bytes tag start next old new
list-field T room label k bytes tag start next is old new list v e = record {
  contents = map one v.held;
  run = v.run label (list-no_map label list);
  same = e ∙ ap (λ o. join_fields old (with_content (tag / 8) o no_fields))
      (ap some_items (v.same ∙ sym (ap (map (merged_element (merged T room) k)) (values-ones v.held))) ∙ list-has (merged T room) label k (map one v.held) list);
}

pub items-of-numbers : (ws : List ℕ) → list_of_items (numbers ws) ≡ map number ws
items-of-numbers [] = refl
items-of-numbers (w ∷ ws) = ap (λ x. number w ∷ x) (items-of-numbers ws)

elements-of-numbers : (inner : ℕ → Node → Node) (k : Kind) (ws : List ℕ) → is_numeric k ≡ true → map (merged_element inner k) (map number ws) ≡ map number ws
elements-of-numbers inner k [] h = refl
elements-of-numbers inner k (w ∷ ws) h =
    ap (λ x. x ∷ map (merged_element inner k) (map number ws)) (element-same inner k (number w) (numeric-no_message k h))
    ∙ ap (λ x. number w ∷ x) (elements-of-numbers inner k ws h)

packed-may : (label : Label) (k : Kind) → is_list label ≡ true → is_numeric k ≡ true → may_be_packed label k ≡ true
packed-may label k l n = rw (l, n) refl

pub piece-field : (T : Table) (room : ℕ) (label : Label) (k : Kind) (bytes : List ℕ) (tag start first end : ℕ)
    (ws : List ℕ) (is : List Item) (old new : Node) → is_list label ≡ true → is_numeric k ≡ true → tag % 8 ≡ 2
    → IsPayloadAt bytes start 2 (Len first end) end → AreElements k (take end bytes) first ws → is ≡ map number ws
    → new ≡ join_fields old (with_content (tag / 8) (some_items is) no_fields)
    → IsFieldRead T room label k bytes tag start end old new
piece-field T room label k bytes tag start first end ws is old new list numeric delimited stands whole all e =
    let here = subst (λ x. IsPayloadAt bytes start x (Len first end) end) (sym delimited) stands in
    record {
      contents = many (numbers ws) ∷ [];
      run = λ at tagged. one_more [] (many (numbers ws)) (Len first end) at start (none_yet refl refl) tagged here
          (holds_piece first end ws (packed-may label k list numeric) refl whole refl) refl;
      same = e ∙ ap (λ o. join_fields old (with_content (tag / 8) o no_fields))
          (ap some_items (all ∙ sym (elements-of-numbers (merged T room) k ws numeric)
          ∙ sym (ap (map (merged_element (merged T room) k)) (append-nil (list_of_items (numbers ws)) ∙ items-of-numbers ws)))
          ∙ list-has (merged T room) label k (many (numbers ws) ∷ []) list);
    }

pub map-field : (T : Table) (room : ℕ) (key k : Kind) (bytes : List ℕ) (tag start next : ℕ) (es : List (Item × Item))
    (old new : Node) → AreEntriesRead T room key k bytes tag start next es
    → new ≡ join_fields old (with_content (tag / 8) (some_pairs (last_of_each key es)) no_fields)
    → IsFieldRead T room (Map key) k bytes tag start next old new
map-field T room key k bytes tag start next es old new v e = record {
  contents = map one v.held;
  run = v.run;
  same = e ∙ ap (λ o. join_fields old (with_content (tag / 8) o no_fields))
      (ap (λ x. some_pairs (last_of_each key x)) (v.same ∙ sym (ap (map (merged_entry (merged T room) key k)) (values-ones v.held))));
}

-- ---- one record more

-- the values before a record whose tag ends here
pub record ValuesBefore (T : Table) (room : ℕ) (k : Kind) (bytes : List ℕ) (tag start first : ℕ) (is : List Item) : Type 0 where
  pub held : List Item
  pub run : (label : Label) → is_map label ≡ false → (at : ℕ) → IsTagAt bytes at tag start
      → (middle : ℕ) × AreRun T room label k bytes tag at (map one held) middle × IsTagAt bytes middle tag first
  pub same : is ≡ map (merged_element (merged T room) k) held

pub values-start : (T : Table) (room : ℕ) (k : Kind) (bytes : List ℕ) (tag start : ℕ) → ValuesBefore T room k bytes tag start start []
values-start T room k bytes tag start = record { held = []; run = λ label nomap at tagged. (at, none_yet refl refl, tagged); same = refl }

pub values-more : (T : Table) (room : ℕ) (k : Kind) (bytes : List ℕ) (tag start first next : ℕ) (is : List Item)
    (i : Item) → ValuesBefore T room k bytes tag start first is → IsValue T room k bytes first (tag % 8) i next
    → AreValues T room k bytes tag start next (is ++ i ∷ [])
values-more T room k bytes tag start first next is i h v = record {
  held = h.held ++ v.held ∷ [];
  run = λ label nomap at tagged.
      let r = h.run label nomap at tagged in
      one_more (map one h.held) (one v.held) v.payload r.0 first r.1 r.2 v.stands (v.holds label nomap) (map-pushed one h.held v.held);
  same = ap (λ x. x ++ i ∷ []) h.same ∙ ap (λ x. map (merged_element (merged T room) k) h.held ++ x ∷ []) v.same ∙ sym (map-pushed (merged_element (merged T room) k) h.held v.held);
}

pub values-again : (T : Table) (room : ℕ) (k : Kind) (bytes : List ℕ) (tag start next behind : ℕ) (is : List Item)
    → AreValues T room k bytes tag start next is → IsTagAt bytes next tag behind
    → ValuesBefore T room k bytes tag start behind is
values-again T room k bytes tag start next behind is h tagged = record {
  held = h.held;
  run = λ label nomap at first. (next, h.run label nomap at first, tagged);
  same = h.same;
}

pub record EntriesBefore (T : Table) (room : ℕ) (key k : Kind) (bytes : List ℕ) (tag start first : ℕ) (es : List (Item × Item)) : Type 0 where
  pub held : List Item
  pub run : (at : ℕ) → IsTagAt bytes at tag start → (middle : ℕ) × AreRun T room (Map key) k bytes tag at (map one held) middle × IsTagAt bytes middle tag first
  pub same : es ≡ map (merged_entry (merged T room) key k) held

pub entries-start : (T : Table) (room : ℕ) (key k : Kind) (bytes : List ℕ) (tag start : ℕ) → EntriesBefore T room key k bytes tag start start []
entries-start T room key k bytes tag start = record { held = []; run = λ at tagged. (at, none_yet refl refl, tagged); same = refl }

pub entries-more : (T : Table) (room : ℕ) (key k : Kind) (bytes : List ℕ) (tag start first inside next : ℕ)
    (es : List (Item × Item)) (e : Item × Item) → tag % 8 ≡ 2 → EntriesBefore T room key k bytes tag start first es
    → IsPayloadAt bytes first 2 (Len inside next) next → IsPair T room key k (take next bytes) inside e
    → AreEntriesRead T room key k bytes tag start next (es ++ e ∷ [])
entries-more T room key k bytes tag start first inside next es e delimited h stands p =
    let here = subst (λ x. IsPayloadAt bytes first x (Len inside next) next) (sym delimited) stands in
    record {
      held = h.held ++ node p.raw ∷ [];
      run = λ at tagged.
          let r = h.run at tagged in
          one_more (map one h.held) (one (node p.raw)) (Len inside next) r.0 first r.1 r.2 here
          (holds_entry key inside next p.raw refl refl p.reads p.has_room refl)
          (map-pushed one h.held (node p.raw));
      same = ap (λ x. x ++ e ∷ []) h.same ∙ ap (λ x. map (merged_entry (merged T room) key k) h.held ++ x ∷ []) p.same
          ∙ sym (map-pushed (merged_entry (merged T room) key k) h.held (node p.raw));
    }

pub entries-again : (T : Table) (room : ℕ) (key k : Kind) (bytes : List ℕ) (tag start next behind : ℕ)
    (es : List (Item × Item)) → AreEntriesRead T room key k bytes tag start next es → IsTagAt bytes next tag behind
    → EntriesBefore T room key k bytes tag start behind es
entries-again T room key k bytes tag start next behind es h tagged = record {
  held = h.held;
  run = λ at first. (next, h.run at first, tagged);
  same = h.same;
}

-- an entry with its key first, followed by its value
pub pair-read : (T : Table) (room : ℕ) (key k : Kind) (bytes : List ℕ) (at tag first middle other second next : ℕ)
    (i j : Item) → IsTagAt bytes at tag first → tag / 8 ≡ 1 → IsValue T room key bytes first (tag % 8) i middle
    → IsTagAt bytes middle other second → other / 8 ≡ 2 → IsValue T room k bytes second (other % 8) j next
    → next ≡ length bytes → IsPair T room key k bytes at (i, j)
pair-read T room key k bytes at tag first middle other second next i j tagged is_key v tagged' is_value w ends =
    let r : Record = record { number = 1; payload = v.payload; next = middle } in
    let s : Record = record { number = 2; payload = w.payload; next = next } in
    let here : IsRecordAt bytes at r = record { tag = tag; start = first; tagged = tagged; number = sym is_key; payload = v.stands } in
    let there : IsRecordAt bytes middle s = record { tag = other; start = second; tagged = tagged'; number = sym is_value; payload = w.stands } in
    let inner = merged T room in
    record {
      raw = field 1 (one v.held) (field 2 (one w.held) no_fields);
      reads = read_known r (record { number = 1; name = []; kind = key; label = Optional }) (one v.held) (field 2 (one w.held) no_fields) here refl (v.holds Optional refl) refl
          (read_known s (record { number = 2; name = []; kind = k; label = Optional }) (one w.held) no_fields there refl (w.holds Optional refl) refl (read_end ends refl));
      has_room = w.has_room;
      same =
          let first = v.same ∙ part-of inner 1 key v.held (singular inner key (v.held ∷ [])) refl in
          let second = w.same ∙ part-of inner 2 k w.held (singular inner k (w.held ∷ [])) refl in
          λ n. (first n, second n);
    }
  where
    part-of : (inner : ℕ → Node → Node) (n : ℕ) (k : Kind) (held : Item) (o : Option Item)
        → o ≡ singular inner k (held ∷ []) → merged_element inner k held ≡ unwrap_or o (default_item_of k)
    part-of inner n k held o e = sym (ap (λ x. unwrap_or x (default_item_of k)) (e ∙ singular-one inner k held))

-- the whole message
pub whole-means : (T : Table) (msg : ℕ) (bytes : List ℕ) (fs : List Field) (t : Node) → fs ≡ fields_of T msg → HasEachField T 31 fs bytes 0 t → IsMergedMessage T msg bytes t
whole-means T msg bytes fs t is whole =
    let P : List Field → Type 0 = λ x. HasEachField T 31 x bytes 0 t in
    let w = subst P is whole in
    record { raw = w.raw; reads = w.reads; value = w.same ∙ sym (merged-suc T 31 msg w.raw) }

-- equal options have equal values
some-has : {A : Type 0} (x y : A) → Some x ≡ Some y → x ≡ y
some-has x y e = ap (λ o. unwrap_or o x) e

pub ok-has : {A E : Type 0} (r : Result A E) (x : A) (P : A → Type 0) → Some x ≡ result_ok r → IfOk r P → P x
ok-has (Ok y) x P e h = subst P (sym (some-has x y e)) h
ok-has (Err z) x P e h = absurd (cc)

pub on-ok-has : {A E : Type 0} (r : Result A E) (x : A) (P : Type 0) → Some x ≡ result_ok r → OnOk r P → P
on-ok-has (Ok y) x P e h = h
on-ok-has (Err z) x P e h = absurd (cc)
