-- Bytes are read or have a first fault.
use Rattle.std.proofs.Common.{◌≡◌, ◌≢◌, ℕ, zero, suc, ◌+◌, ◌%◌, ◌<◌, ◌≤◌, ◌⊎◌, List, [], ◌∷◌, length, take, Option}
use Rattle.std.proofs.Common.{Some, None, Bool, true, false, refl, sym, subst, ◌∙◌, arith, inl, inr, ⊎_elim}
use Rattle.std.specs.Option.{option_map, unwrap_or}
use Rattle.std.specs.List.{slice_range}
use Rattle.std.specs.Str.{is_utf8}
use Rattle.std.proofs.lemmas.Bool.{cases_lt}
use Rattle.std.proofs.lemmas.List.{length-take-le}
use Rattle.std.proofs.lemmas.Str.{IsUtf8-from_is_utf8, is_utf8-from_IsUtf8}
use Rattle.mrpc_table.specs.Node.{Node, no_fields, field, Content, one, many, run, node}
use Rattle.mrpc_table.specs.Normal.{fields_of, field_at}
use Rattle.mrpc_table.specs.Words.{is_numeric}
use Rattle.mrpc_table.specs.declared.table.Kind.{Kind}
use Rattle.mrpc_table.specs.declared.table.Kind.TheVariants.{Text, Octets, Message as OfMessage}
use Rattle.mrpc_table.specs.declared.table.Label.{Label}
use Rattle.mrpc_table.specs.declared.table.Label.TheVariants.{Map}
use Rattle.mrpc_table.specs.declared.table.Field.{Field}
use Rattle.mrpc_table.specs.declared.table.Table.{Table}
use Rattle.mrpc_table.specs.WireTypes.{wire_type_of}
use Rattle.wire_base.specs.Records.{IsPayloadAt, IsWireType, IsWithin}
use Rattle.wire_base.specs.declared.records.Payload.{Payload}
use Rattle.wire_base.specs.declared.records.Payload.TheVariants.{Varint, I64, I32, Len}
use Rattle.wire_base.specs.declared.records.Record.{Record}
use Rattle.wire_decode.specs.Words.{word_form_of, payload_number, payload_type, is_map, accepts_payload, AreElements}
use Rattle.wire_decode.specs.RawMessages.{IsRawMessage, read_end, read_other, read_known, IsContentUnder, holds_piece, holds_text}
use Rattle.wire_decode.specs.RawMessages.{holds_octets, holds_message, holds_entry}
use Rattle.wire_decode.specs.Known.{HasRoom, is_message_kind, is_known_record}
use Rattle.wire_decode.specs.Known.{entry_fields}
use Rattle.wire_decode.specs.RawMessages.{numbers}
use Rattle.wire_decode.specs.Reason.{decode_reason_of}
use Rattle.wire_decode.specs.FaultWalk.{IsFaultReached, no_record, behind_other, behind_known, in_payload, IsPayloadFault, no_elements, no_text, too_deep, in_message, in_entry, no_room}
use Rattle.wire_decode.specs.Parts.{IsFixedOrVarint}
use Rattle.wire_decode.specs.declared.fault.DecodeReason.{DecodeReason}
use Rattle.wire_decode.specs.declared.fault.DecodeReason.TheVariants.{Utf8, PackedLength, Depth}
use Rattle.wire_decode.proofs.WireLaws.{Law}
use Rattle.wire_decode.proofs.Payloads.{PayloadAt-ahead, PayloadAt-within, PayloadAt-span, RecordAt-ahead, RecordAt-within}
use Rattle.wire_decode.proofs.Elements.{numeric-type}
use Rattle.wire_decode.proofs.Reading.{payload_size, record-smaller}
use Rattle.wire_decode.proofs.Contents.{number-holds, packs, numeric-kind}

tells : (b : Bool) → (b ≡ true) ⊎ (b ≡ false)
tells true = inl refl
tells false = inr refl

-- ---- the elements of a packed payload

fixed-known : (w : ℕ) → IsFixedOrVarint w → IsWireType w
fixed-known w h = ⊎_elim (λ e. inl e) (λ t. ⊎_elim (λ e. inr (inl e)) (λ e. inr (inr (inr e))) t) h

abbrev ElementsOr : Kind → List ℕ → ℕ → Type 0
ElementsOr k bytes at = ((ws : List ℕ) × AreElements k bytes at ws) ⊎ ((ws : List ℕ) → AreElements k bytes at ws → ⊥)

-- there is no element at an offset before the end
no_first : (k : Kind) (bytes : List ℕ) (at : ℕ) → at < length bytes → ((p : Payload) (next : ℕ) → IsPayloadAt bytes at (wire_type_of k) p next → ⊥)
    → (ws : List ℕ) → AreElements k bytes at ws → ⊥
no_first k bytes at more none [] h = omega (arith, more, h)
no_first k bytes at more none (w ∷ ws) h = none h.0 h.1 h.2

-- if no elements follow the only one there, the bytes are no elements
no_rest : Law → (k : Kind) (bytes : List ℕ) (at : ℕ) (p : Payload) (next : ℕ) → at < length bytes → IsPayloadAt bytes at (wire_type_of k) p next
    → ((ws : List ℕ) → AreElements k bytes next ws → ⊥) → (ws : List ℕ) → AreElements k bytes at ws → ⊥
no_rest law k bytes at p next more here none [] h = omega (arith, more, h)
no_rest law k bytes at p next more here none (w ∷ ws) h =
    let same = law.one_payload bytes at (wire_type_of k) h.0 p h.1 next h.2 here in
    let P : ℕ → Type 0 = λ n. AreElements k bytes n ws in
    none ws (subst P same.1 h.4)

elements-or : Law → (left : ℕ) (k : Kind) (bytes : List ℕ) (at : ℕ) → is_numeric k ≡ true → at ≤ length bytes → length bytes ≤ at + left → ElementsOr k bytes at
elements-or law zero k bytes at numeric within few = inl ([], let e : at ≡ length bytes = omega (arith, within, few) in e)
elements-or law (suc left) k bytes at numeric within few =
    ⊎_elim
    (λ more.
    ⊎_elim
    (λ h.
    let ahead = PayloadAt-ahead bytes at (wire_type_of k) h.0 h.1 h.2 in
    ⊎_elim
    (λ rest. inl (word_form_of k (payload_number h.0) ∷ rest.0, (h.0, h.1, h.2, refl, rest.1)))
    (λ none. inr (no_rest law k bytes at h.0 h.1 more h.2 none))
    (elements-or law left k bytes h.1 numeric (PayloadAt-within bytes at (wire_type_of k) h.0 h.1 h.2) (omega (arith, ahead, few))))
    (λ f. inr (no_first k bytes at more (λ p next here. law.no_payload bytes at (wire_type_of k) p next f.0 here f.1)))
    (law.some_payload bytes at (wire_type_of k) (fixed-known (wire_type_of k) (numeric-type k numeric)) within))
    (λ past. inl ([], let e : at ≡ length bytes = omega (arith, within, past) in e))
    (cases_lt at (length bytes))

-- ---- one payload

abbrev ReadsOr : Table → ℕ → List Field → List ℕ → ℕ → Type 0
ReadsOr T room fs bytes at = ((t : Node) × IsRawMessage T room fs bytes at t) ⊎ ((reason : DecodeReason) × (place : ℕ) × IsFaultReached T room fs bytes at reason place)

abbrev HoldsOr : Table → ℕ → Label → Kind → List ℕ → Payload → Type 0
HoldsOr T room label k bytes p = ((c : Content) × IsContentUnder T room label k bytes p c) ⊎ ((reason : DecodeReason) × (place : ℕ) × IsPayloadFault T room label k bytes p reason place)

-- bytes of at most this length are read or have a fault
abbrev Reader : Table → ℕ → Type 0
Reader T left = (room : ℕ) (fs : List Field) (bytes : List ℕ) (at : ℕ) → at ≤ length bytes → length bytes ≤ at + left → ReadsOr T room fs bytes at

room-or : (room : ℕ) (k : Kind) → HasRoom room k ⊎ (HasRoom room k → ⊥)
room-or room k =
    ⊎_elim
    (λ yes. ⊎_elim (λ some. inl (λ e. some)) (λ none. inr (λ h. let some = h yes in omega (arith, some, none))) (cases_lt 0 room))
    (λ no. inl (λ e. absurd (let clash : true ≡ false = sym e ∙ no in cc)))
    (tells (is_message_kind k))

-- the bytes of a payload, cut after it
cut-within : (bytes : List ℕ) (s e : ℕ) → IsWithin (length bytes) (Len s e) → s ≤ length (take e bytes)
cut-within bytes s e within = omega (arith, within.0, length-take-le e bytes within.1)

cut-few : (bytes : List ℕ) (s e left : ℕ) → IsWithin (length bytes) (Len s e) → e ≤ s + left → length (take e bytes) ≤ s + left
cut-few bytes s e left within few = omega (arith, few, length-take-le e bytes within.1)

entry-or : (T : Table) (left room : ℕ) (label : Label) (key k : Kind) (bytes : List ℕ) (s e : ℕ) → Reader T left → label ≡ Map key
    → IsWithin (length bytes) (Len s e) → e ≤ s + left → HoldsOr T room label k bytes (Len s e)
entry-or T left room label key k bytes s e read map within few =
    ⊎_elim
    (λ t.
    ⊎_elim
    (λ some. inl (one (node t.0), holds_entry key s e t.0 map refl t.1 some refl))
    (λ none. inr (Depth, s, no_room key e t.0 map refl t.1 none refl))
    (room-or room k))
    (λ f. inr (f.0, f.1, in_entry key s e map refl f.2))
    (read room (entry_fields key k) (take e bytes) s (cut-within bytes s e within) (cut-few bytes s e left within few))

message-or : (T : Table) (left room : ℕ) (label : Label) (k : Kind) (i : ℕ) (bytes : List ℕ) (s e : ℕ) → Reader T left → is_map label ≡ false → k ≡ OfMessage i
    → IsWithin (length bytes) (Len s e) → e ≤ s + left → HoldsOr T room label k bytes (Len s e)
message-or T left zero label k i bytes s e read single kind within few = inr (Depth, s, too_deep i e single kind refl refl refl)
message-or T left (suc inside) label k i bytes s e read single kind within few =
    ⊎_elim
    (λ t. inl (one (node t.0), holds_message inside i s e t.0 single kind refl refl t.1 refl))
    (λ f. inr (f.0, f.1, in_message inside i s e single kind refl refl f.2))
    (read inside (fields_of T i) (take e bytes) s (cut-within bytes s e within) (cut-few bytes s e left within few))

text-or : (T : Table) (room : ℕ) (label : Label) (k : Kind) (bytes : List ℕ) (s e : ℕ) → is_map label ≡ false → k ≡ Text → HoldsOr T room label k bytes (Len s e)
text-or T room label k bytes s e single kind =
    ⊎_elim
    (λ yes. inl (one (run (slice_range bytes s e)), holds_text s e single kind refl (IsUtf8-from_is_utf8 (slice_range bytes s e) yes) refl))
    (λ no. inr (Utf8, s, no_text e single kind refl refl (λ h. let clash : true ≡ false = sym (is_utf8-from_IsUtf8 (slice_range bytes s e) h) ∙ no in cc)))
    (tells (is_utf8 (slice_range bytes s e)))

piece-or : Law → (T : Table) (left room : ℕ) (label : Label) (k : Kind) (bytes : List ℕ) (s e : ℕ) → accepts_payload label k (Len s e) ≡ true → is_map label ≡ false
    → is_numeric k ≡ true → IsWithin (length bytes) (Len s e) → e ≤ s + left → HoldsOr T room label k bytes (Len s e)
piece-or law T left room label k bytes s e suited single numeric within few =
    let packed = packs label k s e suited single numeric in
    ⊎_elim
    (λ ws. inl (many (numbers ws.0), holds_piece s e ws.0 packed refl ws.1 refl))
    (λ none. inr (PackedLength, s, no_elements e packed refl refl none))
    (elements-or law left k (take e bytes) s numeric (cut-within bytes s e within) (cut-few bytes s e left within few))

-- a delimited payload of a field that is no map
single-or : Law → (T : Table) (left room : ℕ) (label : Label) (k : Kind) (bytes : List ℕ) (s e : ℕ) → Reader T left → accepts_payload label k (Len s e) ≡ true → is_map label ≡ false
    → IsWithin (length bytes) (Len s e) → e ≤ s + left → HoldsOr T room label k bytes (Len s e)
single-or law T left room label Text bytes s e read suited single within few = text-or T room label Text bytes s e single refl
single-or law T left room label Octets bytes s e read suited single within few = inl (one (run (slice_range bytes s e)), holds_octets s e single refl refl refl)
single-or law T left room label (OfMessage i) bytes s e read suited single within few = message-or T left room label (OfMessage i) i bytes s e read single refl within few
single-or law T left room label k bytes s e read suited single within few =
    piece-or law T left room label k bytes s e suited single (numeric-kind k (λ x. cc) (λ x. cc) (λ i x. cc)) within few

delimited-or : Law → (T : Table) (left room : ℕ) (label : Label) (k : Kind) (bytes : List ℕ) (s e : ℕ) → Reader T left → accepts_payload label k (Len s e) ≡ true
    → IsWithin (length bytes) (Len s e) → e ≤ s + left → HoldsOr T room label k bytes (Len s e)
delimited-or law T left room (Map key) k bytes s e read suited within few = entry-or T left room (Map key) key k bytes s e read refl within few
delimited-or law T left room label k bytes s e read suited within few = single-or law T left room label k bytes s e read suited refl within few

number-or : (T : Table) (room : ℕ) (label : Label) (k : Kind) (bytes : List ℕ) (p : Payload) → accepts_payload label k p ≡ true → payload_type p ≢ 2 → HoldsOr T room label k bytes p
number-or T room label k bytes p suited short = inl (_, number-holds T room label k bytes p suited short)

holds-or : Law → (T : Table) (left room : ℕ) (label : Label) (k : Kind) (bytes : List ℕ) (p : Payload) → Reader T left → accepts_payload label k p ≡ true
    → IsWithin (length bytes) p → (payload_size p ≤ left) → HoldsOr T room label k bytes p
holds-or law T left room label k bytes (Varint v) read suited within few = number-or T room label k bytes (Varint v) suited (λ e. omega (arith, e))
holds-or law T left room label k bytes (I64 v) read suited within few = number-or T room label k bytes (I64 v) suited (λ e. omega (arith, e))
holds-or law T left room label k bytes (I32 v) read suited within few = number-or T room label k bytes (I32 v) suited (λ e. omega (arith, e))
holds-or law T left room label k bytes (Len s e) read suited within few = delimited-or law T left room label k bytes s e read suited within (omega (arith, few))

-- ---- the records

-- a record that is known is of a field
known-field : (fs : List Field) (r : Record) → is_known_record fs r ≡ true → (f : Field) × (field_at fs r.number ≡ Some f) × (accepts_payload f.label f.kind r.payload ≡ true)
known-field fs r h = go (field_at fs r.number) h
  where
    go : (o : Option Field) → unwrap_or (option_map (λ f. accepts_payload f.label f.kind r.payload) o) false ≡ true → (f : Field) × (o ≡ Some f) × (accepts_payload f.label f.kind r.payload ≡ true)
    go None e = absurd (cc)
    go (Some f) e = (f, refl, e)

reads-or : Law → (T : Table) (left : ℕ) → Reader T left
reads-or law T zero room fs bytes at within few = inl (no_fields, read_end (omega (arith, within, few)) refl)
reads-or law T (suc left) room fs bytes at within few =
    ⊎_elim
    (λ more.
    ⊎_elim
    (λ h.
    let r = h.0 in
    let here = h.1 in
    let ahead = RecordAt-ahead bytes at r here in
    let rest = reads-or law T left room fs bytes r.next (RecordAt-within bytes at r here) (omega (arith, ahead, few)) in
    ⊎_elim
    (λ known.
    let f = known-field fs r known in
    let span = PayloadAt-span bytes here.start (here.tag % 8) r.payload r.next here.payload in
    let size = record-smaller bytes at r here more span in
    ⊎_elim
    (λ c.
    ⊎_elim
    (λ t. inl (field r.number c.0 t.0, read_known r f.0 c.0 t.0 here f.1 c.1 refl t.1))
    (λ g. inr (g.0, g.1, behind_known r f.0 c.0 here f.1 c.1 g.2))
    rest)
    (λ g. inr (g.0, g.1, in_payload r f.0 here f.1 g.2))
    (holds-or law T left room f.0.label f.0.kind bytes r.payload (reads-or law T left) f.2 span (omega (arith, size, few))))
    (λ other.
    ⊎_elim
    (λ t. inl (t.0, read_other r here other t.1))
    (λ g. inr (g.0, g.1, behind_other r here other g.2))
    rest)
    (tells (is_known_record fs r)))
    (λ f. inr (decode_reason_of f.0.reason, f.0.place, no_record f.0 more f.1 refl refl))
    (law.some_record bytes at within))
    (λ past. inl (no_fields, read_end (omega (arith, within, past)) refl))
    (cases_lt at (length bytes))

pub reading-or : Law → (T : Table) (msg : ℕ) (bytes : List ℕ)
    → ((raw : Node) × IsRawMessage T 31 (fields_of T msg) bytes 0 raw) ⊎ ((reason : DecodeReason) × (place : ℕ) × IsFaultReached T 31 (fields_of T msg) bytes 0 reason place)
reading-or law T msg bytes = reads-or law T (length bytes) 31 (fields_of T msg) bytes 0 (omega arith) (omega arith)
