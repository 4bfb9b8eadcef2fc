-- The bytes of an encoding are the records of its tree.
use Rattle.std.proofs.Common.{◌≡◌, ℕ, zero, suc, ◌+◌, ◌^◌, ◌<◌, ◌≤◌, ◌⊎◌, List, [], ◌∷◌, ◌++◌, length, take, Some}
use Rattle.std.proofs.Common.{Bool, true, false, cond, refl, ap, sym, subst, ◌∙◌, arith, inl, inr, ⊎_elim, option_map}
use Rattle.std.proofs.Common.{unwrap_or}
use Rattle.std.specs.List.{slice_range}
use Rattle.std.specs.Str.{IsUtf8}
use Rattle.std.proofs.lemmas.List.{length-append}
use Rattle.std.proofs.lemmas.Bool.Decides.{eqb_tells}
use Rattle.mrpc_table.specs.Node.{Node, no_fields, field, Content, one, many, pairs, Item, number, run, node, Items, no_items, item, Pairs, no_pairs, pair}
use Rattle.mrpc_table.specs.Normal.{fields_of, field_at, IsRun, HasFields, HasContent, CanHaveOne, CanHaveMany, IsItem, label_at}
use Rattle.mrpc_table.specs.Normal.{AreItems, ArePairs, depth, content_depth, item_depth, items_depth, pairs_depth}
use Rattle.mrpc_table.specs.Normal.{kind_at}
use Rattle.mrpc_table.specs.Words.{is_numeric, IsWordForm, key_kind, nested_message}
use Rattle.mrpc_table.specs.declared.table.Kind.{Kind}
use Rattle.mrpc_table.specs.declared.table.Kind.TheVariants.{Uint64, Fixed32, Fixed64, Sfixed32, Sfixed64, Float, Double, Text, Octets, Message as OfMessage}
use Rattle.mrpc_table.specs.declared.table.Label.{Label}
use Rattle.mrpc_table.specs.declared.table.Label.TheVariants.{Plain, Optional, Packed, Map}
use Rattle.mrpc_table.specs.declared.table.Field.{Field}
use Rattle.mrpc_table.specs.declared.table.Table.{Table}
use Rattle.wire_base.specs.Encoding.{number_bytes, tag, delimited, is_packed, fields_bytes, content_bytes, item_bytes, joined_bytes, records_bytes, entries_bytes}
use Rattle.mrpc_table.specs.WireTypes.{wire_type_of}
use Rattle.wire_base.specs.Records.{IsPayloadAt}
use Rattle.wire_base.specs.declared.records.Payload.{Payload}
use Rattle.wire_base.specs.declared.records.Payload.TheVariants.{Len}
use Rattle.wire_base.specs.declared.records.Record.{Record}
use Rattle.wire_decode.specs.Words.{is_map, may_be_packed, AreElements}
use Rattle.wire_decode.specs.RawMessages.{IsRawMessage, read_end, read_known, IsContentUnder, holds_number, holds_piece, holds_text, holds_octets, holds_message, holds_entry, numbers}
use Rattle.wire_decode.specs.Known.{HasRoom, entry_fields}
use Rattle.wire_decode.specs.Merged.{join_fields}
use Rattle.wire_decode.proofs.WireLaws.{ReadsBack}
use Rattle.wire_decode.proofs.Gathering.{join-assoc}
use Rattle.wire_decode.proofs.Merging.{field-here, field-later}
use Rattle.wire_decode.proofs.Reading.{join-none}
use Rattle.wire_decode.proofs.Plainness.{word-numeric, run-not_numeric, word-plain, run-plain}
use Rattle.wire_decode.proofs.UsableTables.{AreFieldsFrom, IsUsable, IsUsableTable}
use Rattle.wire_decode.proofs.WordForms.{payload-typed}
use Rattle.wire_decode.proofs.Stands.{Stands, stands-left, stands-right, stands-within, stands-slice, stands-cut, cut-length, stands-record, start_of, end_of, stands-inner, stands-delimited}
use Rattle.wire_decode.proofs.SpelledNumbers.{payload_of, word-back, number-stands}
use Rattle.wire_decode.proofs.RawTree.{raw_fields, raw_content, raw_item, raw_records, raw_entries}

-- a field that is found
pub record IsFound (last n : ℕ) (f : Field) : Type 0 where
  pub usable : IsUsable f
  pub above : last < n
  pub number : f.number ≡ n

pub found-field : (last n : ℕ) (f : Field) (fs : List Field) → AreFieldsFrom last fs → field_at fs n ≡ Some f → IsFound last n f
found-field last n f [] h e = absurd (cc)
found-field last n f (g ∷ fs) h e =
    ⊎_elim
    (λ s.
    let same : g ≡ f = (let both : Some g ≡ Some f = sym (field-here g fs n s.1) ∙ e in cc) in
    subst (λ (x : Field). IsFound last n x) same (record { usable = h.1; above = (let a = h.0 in let b = s.1 in omega (arith, a, b)); number = s.1 }))
    (λ s.
    let rest = found-field g.number n f fs h.2 (sym (field-later g fs n s.1) ∙ e) in
    record { usable = rest.usable; above = (let a = h.0 in let b = rest.above in omega (arith, a, b)); number = rest.number })
    (eqb_tells g.number n)

pub kind-found : (fs : List Field) (n : ℕ) (f : Field) → field_at fs n ≡ Some f → kind_at fs n ≡ f.kind
kind-found fs n f e = ap (λ o. unwrap_or (option_map (λ f. f.kind) o) Uint64) e

pub label-found : (fs : List Field) (n : ℕ) (f : Field) → field_at fs n ≡ Some f → label_at fs n ≡ f.label
label-found fs n f e = ap (λ o. unwrap_or (option_map (λ f. f.label) o) Plain) e

type-below : (k : Kind) → wire_type_of k < 8
type-below Fixed64 = omega arith
type-below Sfixed64 = omega arith
type-below Double = omega arith
type-below Fixed32 = omega arith
type-below Sfixed32 = omega arith
type-below Float = omega arith
type-below Text = omega arith
type-below Octets = omega arith
type-below (OfMessage i) = omega arith
type-below _ = omega arith

run-kinds : (k : Kind) (bytes : List ℕ) → IsRun k bytes → ((k ≡ Text) × IsUtf8 bytes) ⊎ (k ≡ Octets)
run-kinds Text bytes h = inl (refl, h)
run-kinds Octets bytes h = inr refl
run-kinds _ bytes h = absurd h

pub depth-positive : (t : Node) → 0 < depth t
depth-positive no_fields = omega arith
depth-positive (field n c t) = let d = depth-positive t in omega (arith, d)

-- one more record before the others
record-read : ReadsBack → (T : Table) (room : ℕ) (fs : List Field) (n : ℕ) (f : Field) (bytes : List ℕ) (at w : ℕ)
    (body : List ℕ) (p : Payload) (c : Content) → field_at fs n ≡ Some f → 0 < n → n < 2 ^ 29 → w < 8
    → Stands bytes at (tag n w ++ body)
    → IsPayloadAt bytes (at + length (tag n w)) w p (at + length (tag n w) + length body)
    → IsContentUnder T room f.label f.kind bytes p c → (t : Node) → IsRawMessage T room fs bytes (at + length (tag n w ++ body)) t
    → IsRawMessage T room fs bytes at (field n c t)
record-read back_read T room fs n f bytes at w body p c found positive small type h payload holds t rest =
    let next = at + length (tag n w) + length body in
    let e : at + length (tag n w ++ body) ≡ next = omega (arith, length-append (tag n w) body) in
    let r : Record = record { number = n; payload = p; next = next } in
    read_known r f c t (stands-record back_read bytes at n w p next positive small type (stands-left (tag n w) body h)
    payload) found holds refl (subst (λ (x : ℕ). IsRawMessage T room fs bytes x t) e rest)

-- the numbers among items
abbrev numbers_in : Items → List ℕ
numbers_in no_items = []
numbers_in (item (number n) is) = n ∷ numbers_in is
numbers_in (item (run bytes) is) = numbers_in is
numbers_in (item (node t) is) = numbers_in is

numbers-back : (T : Table) (k : Kind) (is : Items) → is_numeric k ≡ true → AreItems T k is → numbers (numbers_in is) ≡ is
numbers-back T k no_items numeric h = refl
numbers-back T k (item (number n) is) numeric h = ap (item (number n)) (numbers-back T k is numeric h.1)
numbers-back T k (item (run bytes) is) numeric h = absurd (let bad : true ≡ false = sym numeric ∙ run-not_numeric k bytes h.0 in cc)
numbers-back T k (item (node t) is) numeric h = absurd (let bad : true ≡ false = sym numeric ∙ ap is_numeric h.0.1 in cc)

elements-stand : ReadsBack → (T : Table) (k : Kind) (bytes : List ℕ) (at : ℕ) (is : Items) → is_numeric k ≡ true
    → AreItems T k is → Stands bytes at (joined_bytes T k is) → length bytes ≡ at + length (joined_bytes T k is)
    → AreElements k bytes at (numbers_in is)
elements-stand back_read T k bytes at no_items numeric h stands ends = omega (arith, ends)
elements-stand back_read T k bytes at (item (number n) is) numeric h stands ends =
    let body = number_bytes k n in
    let rest = joined_bytes T k is in (
      payload_of k n,
      at + length body,
      number-stands back_read bytes at k n h.0 (stands-left body rest stands),
      sym (word-back k n h.0),
      elements-stand back_read T k bytes (at + length body) is numeric h.1 (stands-right body rest stands) (omega (arith, ends, length-append body rest)),
    )
elements-stand back_read T k bytes at (item (run bytes') is) numeric h stands ends = absurd (let bad : true ≡ false = sym numeric ∙ run-not_numeric k bytes' h.0 in cc)
elements-stand back_read T k bytes at (item (node t) is) numeric h stands ends = absurd (let bad : true ≡ false = sym numeric ∙ ap is_numeric h.0.1 in cc)

-- the payload of a value is at an offset
record ItemAt (T : Table) (room : ℕ) (label : Label) (k : Kind) (bytes : List ℕ) (at : ℕ) (i : Item) : Type 0 where
  payload : Payload
  stands : IsPayloadAt bytes at (wire_type_of k) payload (at + length (item_bytes T k i))
  holds : IsContentUnder T room label k bytes payload (one (raw_item T k i))

-- records from one offset to another are read as these contents, followed by those after them
abbrev AreReadInFront : Table → ℕ → List Field → List ℕ → ℕ → ℕ → Node → Type 0
AreReadInFront T room fs bytes at next raw = (t : Node) → IsRawMessage T room fs bytes next t → IsRawMessage T room fs bytes at (join_fields raw t)

read-nothing : (T : Table) (room : ℕ) (fs : List Field) (bytes : List ℕ) (at next : ℕ) → next ≡ at → AreReadInFront T room fs bytes at next no_fields
read-nothing T room fs bytes at next e t h = subst (λ (x : ℕ). IsRawMessage T room fs bytes x t) e h

read-both : (T : Table) (room : ℕ) (fs : List Field) (bytes : List ℕ) (at : ℕ) (a b : List ℕ) (t u : Node)
    → AreReadInFront T room fs bytes at (at + length a) t
    → AreReadInFront T room fs bytes (at + length a) (at + length a + length b) u
    → AreReadInFront T room fs bytes at (at + length (a ++ b)) (join_fields t u)
read-both T room fs bytes at a b t u first second v rest =
    let e : at + length (a ++ b) ≡ at + length a + length b = omega (arith, length-append a b) in
    subst (λ (x : Node). IsRawMessage T room fs bytes at x) (sym (join-assoc t u v)) (first (join_fields u v) (second v (subst (λ (x : ℕ). IsRawMessage T room fs bytes x v) e rest)))

number-item : ReadsBack → (T : Table) (room : ℕ) (label : Label) (k : Kind) (bytes : List ℕ) (at n : ℕ)
    → is_map label ≡ false → IsWordForm k n → Stands bytes at (number_bytes k n)
    → ItemAt T room label k bytes at (number n)
number-item back_read T room label k bytes at n single h stands =
    let here = number-stands back_read bytes at k n h stands in
    record {
      payload = payload_of k n;
      stands = here;
      holds = holds_number single (word-numeric k n h) (payload-typed bytes at (wire_type_of k) (payload_of k n)
          (at + length (number_bytes k n)) here) (ap (λ w. one (number w)) (sym (word-back k n h)));
    }

run-item : ReadsBack → (T : Table) (room : ℕ) (label : Label) (k : Kind) (bytes : List ℕ) (at : ℕ) (text : List ℕ)
    → is_map label ≡ false → length bytes < 2 ^ 64 → IsRun k text → Stands bytes at (delimited text)
    → ItemAt T room label k bytes at (run text)
run-item back_read T room label k bytes at text single few h stands =
    let start = start_of at text in
    let end = end_of at text in
    let here = stands-delimited back_read bytes at text few stands in
    let same : slice_range bytes start end ≡ text = stands-slice bytes start text end refl (stands-inner text stands) in
    let content : one (run text) ≡ one (run (slice_range bytes start end)) = ap (λ xs. one (run xs)) (sym same) in
    ⊎_elim
    (λ t. record {
      payload = Len start end;
      stands = (let type : wire_type_of k ≡ 2 = ap wire_type_of t.0 in (type, here.1, here.2, here.3, here.4, here.5));
      holds = holds_text start end single t.0 refl (subst IsUtf8 (sym same) t.1) content;
    })
    (λ o. record {
      payload = Len start end;
      stands = (let type : wire_type_of k ≡ 2 = ap wire_type_of o in (type, here.1, here.2, here.3, here.4, here.5));
      holds = holds_octets start end single o refl content;
    })
    (run-kinds k text h)

abbrev inner_bytes : Table → Kind → Node → List ℕ
inner_bytes T k t = fields_bytes T (fields_of T (nested_message k)) t

-- a nested message, whose records are read
message-item : ReadsBack → (T : Table) (room inside : ℕ) (label : Label) (k : Kind) (bytes : List ℕ) (at : ℕ)
    (t : Node) (i : ℕ) → is_map label ≡ false → length bytes < 2 ^ 64 → k ≡ OfMessage i → room ≡ suc inside
    → Stands bytes at (delimited (inner_bytes T k t))
    → AreReadInFront T inside (fields_of T (nested_message k)) (take (end_of at (inner_bytes T k t)) bytes)
    (start_of at (inner_bytes T k t)) (end_of at (inner_bytes T k t))
    (raw_fields T (fields_of T (nested_message k)) t) → ItemAt T room label k bytes at (node t)
message-item back_read T room inside label k bytes at t i single few kind has_room stands read =
    let fs = fields_of T (nested_message k) in
    let body = inner_bytes T k t in
    let start = start_of at body in
    let end = end_of at body in
    let raw = raw_fields T fs t in
    let here = stands-delimited back_read bytes at body few stands in
    let ends : end ≡ length (take end bytes) = sym (cut-length bytes start body end refl (stands-inner body stands)) in
    let reads : IsRawMessage T inside fs (take end bytes) start raw = subst (λ (x : Node). IsRawMessage T inside fs (take end bytes) start x) (join-none raw) (read no_fields (read_end ends refl)) in
    let type : wire_type_of k ≡ 2 = ap wire_type_of kind in
    let named : k ≡ OfMessage (nested_message k) = kind ∙ ap OfMessage (sym (ap nested_message kind)) in
    record {
      payload = Len start end;
      stands = (type, here.1, here.2, here.3, here.4, here.5);
      holds = holds_message inside (nested_message k) start end raw single named refl has_room reads refl;
    }

-- the value of an entry is within the depth
value-room : (T : Table) (room : ℕ) (k : Kind) (i : Item) → IsItem T k i → item_depth i ≤ suc room → HasRoom room k
value-room T room k (number n) h d e = absurd (let a : true ≡ false = sym e ∙ word-plain k n h in cc)
value-room T room k (run bytes) h d e = absurd (let a : true ≡ false = sym e ∙ run-plain k bytes h in cc)
value-room T room k (node t) h d e = let p = depth-positive t in omega (arith, d, p)

-- an entry: the record of its key, and the one of its value
entry-reads : ReadsBack → (T : Table) (room : ℕ) (key k : Kind) (bytes : List ℕ) (at : ℕ) (i j : Item)
    → Stands bytes at ((tag 1 (wire_type_of key) ++ item_bytes T key i) ++ (tag 2 (wire_type_of k) ++ item_bytes T k j))
    → length bytes ≡ at + length ((tag 1 (wire_type_of key) ++ item_bytes T key i) ++ (tag 2 (wire_type_of k) ++ item_bytes T k j))
    → ItemAt T room Optional key bytes (at + length (tag 1 (wire_type_of key))) i
    → ItemAt T room Optional k bytes (at + length (tag 1 (wire_type_of key) ++ item_bytes T key i) + length (tag 2 (wire_type_of k))) j
    → IsRawMessage T room (entry_fields key k) bytes at (field 1 (one (raw_item T key i)) (field 2 (one (raw_item T k j)) no_fields))
entry-reads back_read T room key k bytes at i j stands ends first second =
    let fs = entry_fields key k in
    let f : Field = record { number = 1; name = []; kind = key; label = Optional } in
    let g : Field = record { number = 2; name = []; kind = k; label = Optional } in
    let a = tag 1 (wire_type_of key) ++ item_bytes T key i in
    let b = tag 2 (wire_type_of k) ++ item_bytes T k j in
    let done : IsRawMessage T room fs bytes (at + length a + length b) no_fields = read_end (omega (arith, ends, length-append a b)) refl in
    record-read back_read T room fs 1 f bytes at (wire_type_of key) (item_bytes T key i) first.payload
    (one (raw_item T key i)) refl (omega arith) (omega arith) (type-below key)
    (stands-left a b stands) first.stands first.holds (field 2 (one (raw_item T k j)) no_fields)
    (record-read back_read T room fs 2 g bytes (at + length a) (wire_type_of k) (item_bytes T k j) second.payload
    (one (raw_item T k j)) refl (omega arith) (omega arith) (type-below k) (stands-right a b stands) second.stands
    second.holds no_fields done)

takes-single : (label : Label) (i : Item) → CanHaveOne label i → is_map label ≡ false
takes-single (Map key) i h = absurd h
takes-single _ i h = refl

takes-list : (label : Label) → CanHaveMany label → is_map label ≡ false
takes-list (Map key) h = absurd h
takes-list _ h = refl

pub is-packed : (label : Label) → is_packed label ≡ true → label ≡ Packed
is-packed Packed h = refl
is-packed _ h = absurd (cc)

-- a record of one value
one-read : ReadsBack → (T : Table) (room : ℕ) (fs : List Field) (n : ℕ) (f : Field) (k : Kind) (bytes : List ℕ)
    (at : ℕ) (i : Item) → field_at fs n ≡ Some f → k ≡ f.kind → IsFound 0 n f
    → Stands bytes at (tag n (wire_type_of k) ++ item_bytes T k i)
    → ItemAt T room f.label k bytes (at + length (tag n (wire_type_of k))) i
    → AreReadInFront T room fs bytes at (at + length (tag n (wire_type_of k) ++ item_bytes T k i))
    (field n (one (raw_item T k i)) no_fields)
one-read back_read T room fs n f k bytes at i found kind is stands here t rest =
    let small : n < 2 ^ 29 = (let a = is.usable.small in let b = is.number in omega (arith, a, b)) in
    record-read back_read T room fs n f bytes at (wire_type_of k) (item_bytes T k i) here.payload (one (raw_item T k i)) found is.above small (type-below k) stands here.stands
    (subst (λ (x : Kind). IsContentUnder T room f.label x bytes here.payload (one (raw_item T k i))) kind here.holds) t rest

-- a packed record
packed-read : ReadsBack → (T : Table) (room : ℕ) (fs : List Field) (n : ℕ) (f : Field) (k : Kind) (bytes : List ℕ)
    (at : ℕ) (is : Items) → field_at fs n ≡ Some f → k ≡ f.kind → IsFound 0 n f → length bytes < 2 ^ 64
    → f.label ≡ Packed → AreItems T k is → Stands bytes at (tag n 2 ++ delimited (joined_bytes T k is))
    → AreReadInFront T room fs bytes at (at + length (tag n 2 ++ delimited (joined_bytes T k is)))
    (field n (many is) no_fields)
packed-read back_read T room fs n f k bytes at is found kind fits few packed items stands t rest =
    let small : n < 2 ^ 29 = (let a = fits.usable.small in let b = fits.number in omega (arith, a, b)) in
    let numeric : is_numeric f.kind ≡ true = fits.usable.packed packed in
    let word : is_numeric k ≡ true = ap is_numeric kind ∙ numeric in
    let body = joined_bytes T k is in
    let place = at + length (tag n 2) in
    let start = start_of place body in
    let end = end_of place body in
    let behind = stands-right (tag n 2) (delimited body) stands in
    let inner = stands-inner body behind in
    let listed : may_be_packed f.label f.kind ≡ true = ap (λ l. may_be_packed l f.kind) packed ∙ numeric in
    let whole : AreElements k (take end bytes) start (numbers_in is) =
    elements-stand back_read T k (take end bytes) start is word items (stands-cut bytes start body end refl inner)
    (cut-length bytes start body end refl inner) in
    let holds : IsContentUnder T room f.label f.kind bytes (Len start end) (many is) =
    holds_piece start end (numbers_in is) listed refl
    (subst (λ (x : Kind). AreElements x (take end bytes) start (numbers_in is)) kind whole)
    (ap many (sym (numbers-back T k is word items))) in
    record-read back_read T room fs n f bytes at 2 (delimited body) (Len start end) (many is) found fits.above small
    (omega arith) stands (stands-delimited back_read bytes place body few behind) holds t rest

many-go : (T : Table) (room : ℕ) (fs : List Field) (bytes : List ℕ) (at : ℕ) (b : Bool) (x y : List ℕ) (t u : Node)
    → (b ≡ true → Stands bytes at x → AreReadInFront T room fs bytes at (at + length x) t)
    → (Stands bytes at y → AreReadInFront T room fs bytes at (at + length y) u) → Stands bytes at (cond b x y)
    → AreReadInFront T room fs bytes at (at + length (cond b x y)) (cond b t u)
many-go T room fs bytes at true x y t u one_piece records stands = one_piece refl stands
many-go T room fs bytes at false x y t u one_piece records stands = records stands

abbrev entry_bytes : Table → Kind → Kind → Item → Item → List ℕ
entry_bytes T key k i j = (tag 1 (wire_type_of key) ++ item_bytes T key i) ++ (tag 2 (wire_type_of k) ++ item_bytes T k j)

abbrev pub raw_entry : Table → Kind → Kind → Item → Item → Node
raw_entry T key k i j = field 1 (one (raw_item T key i)) (field 2 (one (raw_item T k j)) no_fields)

-- the record of an entry
entry-read : ReadsBack → (T : Table) (room : ℕ) (fs : List Field) (n : ℕ) (f : Field) (key k : Kind) (bytes : List ℕ)
    (at : ℕ) (i j : Item) → field_at fs n ≡ Some f → k ≡ f.kind → f.label ≡ Map key → IsFound 0 n f
    → length bytes < 2 ^ 64 → HasRoom room k → Stands bytes at (tag n 2 ++ delimited (entry_bytes T key k i j))
    → IsRawMessage T room (entry_fields key k) (take (end_of (at + length (tag n 2)) (entry_bytes T key k i j)) bytes)
    (start_of (at + length (tag n 2)) (entry_bytes T key k i j)) (raw_entry T key k i j)
    → AreReadInFront T room fs bytes at (at + length (tag n 2 ++ delimited (entry_bytes T key k i j))) (field n (one (node (raw_entry T key k i j))) no_fields)
entry-read back_read T room fs n f key k bytes at i j found kind map fits few has_room stands reads t rest =
    let small : n < 2 ^ 29 = (let a = fits.usable.small in let b = fits.number in omega (arith, a, b)) in
    let body = entry_bytes T key k i j in
    let raw = raw_entry T key k i j in
    let place = at + length (tag n 2) in
    let start = start_of place body in
    let end = end_of place body in
    let holds : IsContentUnder T room f.label f.kind bytes (Len start end) (one (node raw)) =
    holds_entry key start end raw map refl
    (subst (λ (x : Kind). IsRawMessage T room (entry_fields key x) (take end bytes) start raw) kind reads)
    (subst (λ (x : Kind). HasRoom room x) kind has_room) refl in
    record-read back_read T room fs n f bytes at 2 (delimited body) (Len start end) (one (node raw)) found fits.above
    small (omega arith) stands
    (stands-delimited back_read bytes place body few (stands-right (tag n 2) (delimited body) stands)) holds t
    rest

mutual
  item-reads : ReadsBack → (T : Table) → IsUsableTable T
      → (room : ℕ) (label : Label) (k : Kind) (bytes : List ℕ) (at : ℕ) (i : Item) → is_map label ≡ false
      → length bytes < 2 ^ 64 → IsItem T k i → item_depth i ≤ suc room → Stands bytes at (item_bytes T k i)
      → ItemAt T room label k bytes at i
  item-reads back_read T usable room label k bytes at (number n) single few h d stands = number-item back_read T room label k bytes at n single h stands
  item-reads back_read T usable room label k bytes at (run text) single few h d stands = run-item back_read T room label k bytes at text single few h stands
  item-reads back_read T usable zero label k bytes at (node t) single few h d stands = absurd (let p = depth-positive t in omega (arith, d, p))
  item-reads back_read T usable (suc inside) label k bytes at (node t) single few h d stands =
      let m = nested_message k in
      let body = inner_bytes T k t in
      let start = start_of at body in
      let end = end_of at body in
      let fields : HasFields T (fields_of T m) 0 t = subst (λ (x : ℕ). HasFields T (fields_of T x) 0 t) (sym (ap nested_message h.1)) h.2 in
      let inner = stands-inner body stands in
      let fewer : length (take end bytes) < 2 ^ 64 = (let e = cut-length bytes start body end refl inner in let w = stands-within bytes start body inner in omega (arith, e, w, few)) in
      message-item back_read T (suc inside) inside label k bytes at t h.0 single few h.1 refl stands
      (fields-reads back_read T usable inside m (take end bytes) start 0 t fewer fields (omega (arith, d)) (stands-cut bytes start body end refl inner))

  pub fields-reads : ReadsBack → (T : Table) → IsUsableTable T
      → (room m : ℕ) (bytes : List ℕ) (at last : ℕ) (t : Node) → length bytes < 2 ^ 64
      → HasFields T (fields_of T m) last t → depth t ≤ suc room → Stands bytes at (fields_bytes T (fields_of T m) t)
      → AreReadInFront T room (fields_of T m) bytes at (at + length (fields_bytes T (fields_of T m) t))
      (raw_fields T (fields_of T m) t)
  fields-reads back_read T usable room m bytes at last no_fields few h d stands =
      read-nothing T room (fields_of T m) bytes at (at + length (fields_bytes T (fields_of T m) no_fields))
      (omega arith)
  fields-reads back_read T usable room m bytes at last (field n c t) few h d stands =
      let fs = fields_of T m in
      let a = content_bytes T fs n c in
      let b = fields_bytes T fs t in
      read-both T room fs bytes at a b (raw_content T fs n c) (raw_fields T fs t)
      (content-reads back_read T usable room m bytes at n c few h.1 (omega (arith, d)) (stands-left a b stands))
      (fields-reads back_read T usable room m bytes (at + length a) n t few h.2 (omega (arith, d)) (stands-right a b stands))

  content-reads : ReadsBack → (T : Table) → IsUsableTable T → (room m : ℕ) (bytes : List ℕ) (at n : ℕ) (c : Content)
      → length bytes < 2 ^ 64 → HasContent T (fields_of T m) n c → content_depth c ≤ suc room
      → Stands bytes at (content_bytes T (fields_of T m) n c)
      → AreReadInFront T room (fields_of T m) bytes at (at + length (content_bytes T (fields_of T m) n c))
      (raw_content T (fields_of T m) n c)
  content-reads back_read T usable room m bytes at n (one i) few h d stands =
      let fs = fields_of T m in
      let k = kind_at fs n in
      let kind = kind-found fs n h.0 h.1 in
      one-read back_read T room fs n h.0 k bytes at i h.1 kind (found-field 0 n h.0 fs (usable.each m) h.1) stands
      (item-reads back_read T usable room h.0.label k bytes (at + length (tag n (wire_type_of k))) i
      (takes-single h.0.label i h.2) few (subst (λ (x : Kind). IsItem T x i) (sym kind) h.3) d
      (stands-right (tag n (wire_type_of k)) (item_bytes T k i) stands))
  content-reads back_read T usable room m bytes at n (many is) few h d stands =
      let fs = fields_of T m in
      let k = kind_at fs n in
      let kind = kind-found fs n h.0 h.1 in
      let fits = found-field 0 n h.0 fs (usable.each m) h.1 in
      let items : AreItems T k is = subst (λ (x : Kind). AreItems T x is) (sym kind) h.4 in
      many-go T room fs bytes at (is_packed (label_at fs n)) (tag n 2 ++ delimited (joined_bytes T k is)) (records_bytes T n k is) (field n (many is) no_fields) (raw_records T n k is)
      (λ e s. packed-read back_read T room fs n h.0 k bytes at is h.1 kind fits few (is-packed h.0.label (sym (ap is_packed (label-found fs n h.0 h.1)) ∙ e)) items s)
      (λ s. records-reads back_read T usable room m bytes at n h.0 k is few h.1 kind fits (takes-list h.0.label h.2) items d s)
      stands
  content-reads back_read T usable room m bytes at n (pairs ps) few h d stands =
      let fs = fields_of T m in
      let k = kind_at fs n in
      let kind = kind-found fs n h.0 h.2 in
      let key : key_kind (label_at fs n) ≡ h.1 = ap key_kind (label-found fs n h.0 h.2 ∙ h.3) in
      let map : h.0.label ≡ Map (key_kind (label_at fs n)) = h.3 ∙ ap Map (sym key) in
      let all : ArePairs T (key_kind (label_at fs n)) k ps = subst (λ (x : Kind). ArePairs T x k ps) (sym key) (subst (λ (x : Kind). ArePairs T h.1 x ps) (sym kind) h.5) in
      entries-reads back_read T usable room m bytes at n h.0 (key_kind (label_at fs n)) k ps few h.2 kind map (found-field 0 n h.0 fs (usable.each m) h.2) all d stands

  records-reads : ReadsBack → (T : Table) → IsUsableTable T
      → (room m : ℕ) (bytes : List ℕ) (at n : ℕ) (f : Field) (k : Kind) (is : Items) → length bytes < 2 ^ 64
      → field_at (fields_of T m) n ≡ Some f → k ≡ f.kind → IsFound 0 n f → is_map f.label ≡ false → AreItems T k is
      → items_depth is ≤ suc room → Stands bytes at (records_bytes T n k is)
      → AreReadInFront T room (fields_of T m) bytes at (at + length (records_bytes T n k is)) (raw_records T n k is)
  records-reads back_read T usable room m bytes at n f k no_items few found kind fits single h d stands =
      read-nothing T room (fields_of T m) bytes at (at + length (records_bytes T n k no_items)) (omega arith)
  records-reads back_read T usable room m bytes at n f k (item i is) few found kind fits single h d stands =
      let fs = fields_of T m in
      let a = tag n (wire_type_of k) ++ item_bytes T k i in
      let b = records_bytes T n k is in
      let first = stands-left a b stands in
      read-both T room fs bytes at a b (field n (one (raw_item T k i)) no_fields) (raw_records T n k is)
      (one-read back_read T room fs n f k bytes at i found kind fits first
      (item-reads back_read T usable room f.label k bytes (at + length (tag n (wire_type_of k))) i single few h.0
      (omega (arith, d)) (stands-right (tag n (wire_type_of k)) (item_bytes T k i) first)))
      (records-reads back_read T usable room m bytes (at + length a) n f k is few found kind fits single h.1 (omega (arith, d)) (stands-right a b stands))

  entries-reads : ReadsBack → (T : Table) → IsUsableTable T
      → (room m : ℕ) (bytes : List ℕ) (at n : ℕ) (f : Field) (key k : Kind) (ps : Pairs) → length bytes < 2 ^ 64
      → field_at (fields_of T m) n ≡ Some f → k ≡ f.kind → f.label ≡ Map key → IsFound 0 n f → ArePairs T key k ps
      → pairs_depth ps ≤ suc room → Stands bytes at (entries_bytes T n key k ps)
      → AreReadInFront T room (fields_of T m) bytes at (at + length (entries_bytes T n key k ps)) (raw_entries T n key k ps)
  entries-reads back_read T usable room m bytes at n f key k no_pairs few found kind map fits h d stands =
      read-nothing T room (fields_of T m) bytes at (at + length (entries_bytes T n key k no_pairs)) (omega arith)
  entries-reads back_read T usable room m bytes at n f key k (pair i j ps) few found kind map fits h d stands =
      let fs = fields_of T m in
      let body = entry_bytes T key k i j in
      let a = tag n 2 ++ delimited body in
      let b = entries_bytes T n key k ps in
      let first = stands-left a b stands in
      let place = at + length (tag n 2) in
      let start = start_of place body in
      let end = end_of place body in
      let inner = stands-inner body (stands-right (tag n 2) (delimited body) first) in
      let cut = take end bytes in
      let within = stands-cut bytes start body end refl inner in
      let long = cut-length bytes start body end refl inner in
      let fewer : length cut < 2 ^ 64 = (let w = stands-within bytes start body inner in omega (arith, long, w, few)) in
      let at_key = tag 1 (wire_type_of key) in
      let at_value = tag 2 (wire_type_of k) in
      let key_part = stands-left (at_key ++ item_bytes T key i) (at_value ++ item_bytes T k j) within in
      let value_part = stands-right (at_key ++ item_bytes T key i) (at_value ++ item_bytes T k j) within in
      let reads = entry-reads back_read T room key k cut start i j within long
      (item-reads back_read T usable room Optional key cut (start + length at_key) i refl fewer h.0 (omega (arith, d)) (stands-right at_key (item_bytes T key i) key_part))
      (item-reads back_read T usable room Optional k cut (start + length (at_key ++ item_bytes T key i)
      + length at_value) j refl fewer h.1 (omega (arith, d))
      (stands-right at_value (item_bytes T k j) value_part)) in
      read-both T room fs bytes at a b (field n (one (node (raw_entry T key k i j))) no_fields) (raw_entries T n key k ps)
      (entry-read back_read T room fs n f key k bytes at i j found kind map fits few (value-room T room k j h.1 (omega (arith, d))) first reads)
      (entries-reads back_read T usable room m bytes (at + length a) n f key k ps few found kind map fits h.2 (omega (arith, d)) (stands-right a b stands))
