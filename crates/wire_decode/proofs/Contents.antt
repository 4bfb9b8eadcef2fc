-- The content of a payload of a field, from the results of the readers of payloads.
use Rattle.std.proofs.Common.{◌≡◌, ◌≢◌, ℕ, ◌&&◌, ◌==◌, List, take, Some, None, Bool, true, false, Result, refl, ap, sym, subst, ◌∙◌, arith, ⊎_elim}
use Rattle.std.specs.Option.{option_map, unwrap_or}
use Rattle.std.specs.Result.{IfOk, IfErr}
use Rattle.std.specs.List.{slice_range}
use Rattle.std.specs.Str.{IsUtf8}
use Rattle.std.proofs.lemmas.Bool.{or_cases, eqb-true}
use Rattle.std.proofs.lemmas.Result.{IfOk-weaker, IfErr-weaker}
use Rattle.mrpc_table.specs.Node.{Content, one, number, run}
use Rattle.mrpc_table.specs.Normal.{field_at}
use Rattle.mrpc_table.specs.Words.{is_numeric}
use Rattle.mrpc_table.specs.View.{content_of}
use Rattle.mrpc_table.specs.declared.tree.FieldValue.{FieldValue}
use Rattle.mrpc_table.specs.declared.table.Kind.{Kind}
use Rattle.mrpc_table.specs.declared.table.Kind.TheVariants.{Text, Octets, Message as OfMessage}
use Rattle.mrpc_table.specs.declared.table.Label.{Label}
use Rattle.mrpc_table.specs.declared.table.Label.TheVariants.{Map}
use Rattle.mrpc_table.specs.declared.table.Field.{Field}
use Rattle.mrpc_table.specs.declared.table.Table.{Table}
use Rattle.mrpc_table.specs.WireTypes.{wire_type_of}
use Rattle.wire_base.specs.declared.records.Payload.{Payload}
use Rattle.wire_base.specs.declared.records.Payload.TheVariants.{Len}
use Rattle.wire_base.specs.declared.records.Record.{Record}
use Rattle.wire_decode.specs.Words.{word_form_of, payload_number, payload_type, own_type, is_map, may_be_packed, accepts_payload}
use Rattle.wire_decode.specs.RawMessages.{IsRawMessage, IsContentUnder, holds_number, holds_piece, holds_text, holds_octets, holds_message, holds_entry}
use Rattle.wire_decode.specs.Known.{entry_fields, is_known_record}
use Rattle.wire_decode.specs.FaultWalk.{IsPayloadFault, no_elements, no_text, too_deep, in_message, in_entry, no_room}
use Rattle.wire_decode.specs.Faults.{OnDecodeFault}
use Rattle.wire_decode.specs.Parts.{IsPackedPayload, HasNoPackedPayload, IsEntry, IsEntryFault, entry_fault, entry_room, IsInner, IsInnerFault, inner_fault, inner_room}
use Rattle.wire_decode.specs.declared.fault.DecodeFault.{DecodeFault}
use Rattle.wire_decode.specs.declared.fault.DecodeReason.{DecodeReason}
use Rattle.wire_decode.specs.declared.fault.DecodeReason.TheVariants.{Utf8, PackedLength}
use Rattle.wire_decode.proofs.Faulty.{faults_as}

-- a kind that isn't read from a delimited payload is a number's
pub type-numeric : (k : Kind) → wire_type_of k ≢ 2 → is_numeric k ≡ true
type-numeric Text h = absurd (h refl)
type-numeric Octets h = absurd (h refl)
type-numeric (OfMessage i) h = absurd (h refl)
type-numeric _ h = refl

pub numeric-kind : (k : Kind) → (k ≡ Text → ⊥) → (k ≡ Octets → ⊥) → ((i : ℕ) → k ≡ OfMessage i → ⊥) → is_numeric k ≡ true
numeric-kind Text a b c = absurd (a refl)
numeric-kind Octets a b c = absurd (b refl)
numeric-kind (OfMessage i) a b c = absurd (c i refl)
numeric-kind _ a b c = refl

pub numeric-type_not_len : (k : Kind) → is_numeric k ≡ true → wire_type_of k ≢ 2
numeric-type_not_len Text h e = cc
numeric-type_not_len Octets h e = cc
numeric-type_not_len (OfMessage i) h e = cc
numeric-type_not_len _ h e = omega (arith, e)

pub not_map : (label : Label) → ((key : Kind) → label ≡ Map key → ⊥) → is_map label ≡ false
not_map (Map key) h = absurd (h key refl)
not_map _ h = refl

own-not_map : (label : Label) (k : Kind) → is_map label ≡ false → own_type label k ≡ wire_type_of k
own-not_map (Map key) k h = absurd (cc)
own-not_map _ k h = refl

own-map : (label : Label) (k : Kind) → own_type label k ≢ 2 → is_map label ≡ false
own-map (Map key) k h = absurd (h refl)
own-map _ k h = refl

and-left : (a b : Bool) → (a && b) ≡ true → a ≡ true
and-left true b h = refl
and-left false b h = h

and-right : (a b : Bool) → (a && b) ≡ true → b ≡ true
and-right true b h = h
and-right false b h = absurd (cc)

-- a payload that isn't delimited is of the field's own type
suits-own : (label : Label) (k : Kind) (p : Payload) → accepts_payload label k p ≡ true → payload_type p ≢ 2 → payload_type p ≡ own_type label k
suits-own label k p h short =
    ⊎_elim
    (λ e. eqb-true (payload_type p) (own_type label k) e)
    (λ e. absurd (short (eqb-true (payload_type p) 2 (and-right (may_be_packed label k) (payload_type p == 2) e))))
    (or_cases (payload_type p == own_type label k) (may_be_packed label k && (payload_type p == 2)) h)

pub number-holds : (T : Table) (room : ℕ) (label : Label) (k : Kind) (bytes : List ℕ) (p : Payload)
    → accepts_payload label k p ≡ true → payload_type p ≢ 2
    → IsContentUnder T room label k bytes p (one (number (word_form_of k (payload_number p))))
number-holds T room label k bytes p h short =
    let own = suits-own label k p h short in
    let single = own-map label k (λ e. short (own ∙ e)) in
    let typed : payload_type p ≡ wire_type_of k = own ∙ own-not_map label k single in
    holds_number single (type-numeric k (λ e. short (typed ∙ e))) typed refl

-- numbers in a delimited payload are packed
pub packs : (label : Label) (k : Kind) (s e : ℕ) → accepts_payload label k (Len s e) ≡ true → is_map label ≡ false → is_numeric k ≡ true → may_be_packed label k ≡ true
packs label k s e h single numeric =
    ⊎_elim
    (λ own. absurd (numeric-type_not_len k numeric (sym (eqb-true 2 (own_type label k) own ∙ own-not_map label k single))))
    (λ both. and-left (may_be_packed label k) (2 == 2) both)
    (or_cases (2 == own_type label k) (may_be_packed label k && (2 == 2)) h)

pub piece-holds : (T : Table) (room : ℕ) (label : Label) (k : Kind) (bytes : List ℕ) (s e : ℕ) (c : Content)
    → may_be_packed label k ≡ true → IsPackedPayload k (take e bytes) s c → IsContentUnder T room label k bytes (Len s e) c
piece-holds T room label k bytes s e c packed h = holds_piece s e h.words packed refl h.whole h.content

pub entry-holds : (T : Table) (room : ℕ) (key k : Kind) (bytes : List ℕ) (s e : ℕ) (c : Content)
    → IsEntry T room key k (take e bytes) s c → IsContentUnder T room (Map key) k bytes (Len s e) c
entry-holds T room key k bytes s e c h = holds_entry key s e h.raw refl refl h.reads h.has_room h.content

pub entry-fails : (T : Table) (room : ℕ) (key k : Kind) (bytes : List ℕ) (s e : ℕ) (reason : DecodeReason) (place : ℕ)
    → IsEntryFault T room key k (take e bytes) s reason place → IsPayloadFault T room (Map key) k bytes (Len s e) reason place
entry-fails T room key k bytes s e reason place (entry_fault h) = in_entry key s e refl refl h
entry-fails T room key k bytes s e reason place (entry_room t h none is at) =
    no_room key e t refl (ap (λ x. Len x e) (sym at)) (let P : ℕ
    → Type 0 = λ x. IsRawMessage T room (entry_fields key k) (take e bytes) x t in subst P (sym at) h) none is

pub message-holds : (T : Table) (room : ℕ) (label : Label) (i : ℕ) (bytes : List ℕ) (s e : ℕ) (c : Content)
    → is_map label ≡ false → IsInner T room i (take e bytes) s c → IsContentUnder T room label (OfMessage i) bytes (Len s e) c
message-holds T room label i bytes s e c single h = holds_message h.inside i s e h.raw single refl refl h.has_room h.reads h.content

pub message-fails : (T : Table) (room : ℕ) (label : Label) (i : ℕ) (bytes : List ℕ) (s e : ℕ) (reason : DecodeReason)
    (place : ℕ) → is_map label ≡ false → IsInnerFault T room i (take e bytes) s reason place
    → IsPayloadFault T room label (OfMessage i) bytes (Len s e) reason place
message-fails T room label i bytes s e reason place single (inner_fault inside more h) = in_message inside i s e single refl refl more h
message-fails T room label i bytes s e reason place single (inner_room none is at) = too_deep i e single refl (ap (λ x. Len x e) (sym at)) none is

-- a record without a field that is read from its payload
pub unknown : (fs : List Field) (r : Record) → field_at fs r.number ≡ None → is_known_record fs r ≡ false
unknown fs r e = ap (λ o. unwrap_or (option_map (λ f. accepts_payload f.label f.kind r.payload) o) false) e

pub unsuited : (fs : List Field) (r : Record) (f : Field) → field_at fs r.number ≡ Some f → accepts_payload f.label f.kind r.payload ≡ false → is_known_record fs r ≡ false
unsuited fs r f e s = ap (λ o. unwrap_or (option_map (λ f. accepts_payload f.label f.kind r.payload) o) false) e ∙ s

-- the results of the reader of one kind of payload, as those of the reader of payloads
pub record Answers (T : Table) (room : ℕ) (label : Label) (k : Kind) (bytes : List ℕ) (p : Payload) (r : Result FieldValue DecodeFault) : Type 0 where
  pub found : IfOk r (λ c. IsContentUnder T room label k bytes p (content_of c))
  pub fault : IfErr r (OnDecodeFault (λ reason place. IsPayloadFault T room label k bytes p reason place))

-- the results, if the label, the kind and the payload are known by equations
pub answers-at : (T : Table) (room : ℕ) (label l : Label) (k j : Kind) (bytes : List ℕ) (p q : Payload)
    (r : Result FieldValue DecodeFault) → label ≡ l → k ≡ j → p ≡ q → Answers T room l j bytes q r
    → Answers T room label k bytes p r
answers-at T room label l k j bytes p q r a b c h =
    let P : Label → Type 0 = λ x. Answers T room x k bytes p r in
    let Q : Kind → Type 0 = λ x. Answers T room l x bytes p r in
    let R : Payload → Type 0 = λ x. Answers T room l j bytes x r in
    subst P (sym a) (subst Q (sym b) (subst R (sym c) h))

pub entry-answers : (T : Table) (room : ℕ) (key k : Kind) (bytes : List ℕ) (s e : ℕ)
    (r : Result FieldValue DecodeFault) → IfOk r (λ c. IsEntry T room key k (take e bytes) s (content_of c))
    → IfErr r (OnDecodeFault (λ reason place. IsEntryFault T room key k (take e bytes) s reason place))
    → Answers T room (Map key) k bytes (Len s e) r
entry-answers T room key k bytes s e r found fault = record {
  found = IfOk-weaker r _ _ (λ c h. entry-holds T room key k bytes s e (content_of c) h) found;
  fault = IfErr-weaker r _ _ (λ f h. faults_as _ _ f h (λ reason place g. entry-fails T room key k bytes s e reason place g)) fault;
}

pub message-answers : (T : Table) (room : ℕ) (label : Label) (i : ℕ) (bytes : List ℕ) (s e : ℕ)
    (r : Result FieldValue DecodeFault) → is_map label ≡ false
    → IfOk r (λ c. IsInner T room i (take e bytes) s (content_of c))
    → IfErr r (OnDecodeFault (λ reason place. IsInnerFault T room i (take e bytes) s reason place))
    → Answers T room label (OfMessage i) bytes (Len s e) r
message-answers T room label i bytes s e r single found fault = record {
  found = IfOk-weaker r _ _ (λ c h. message-holds T room label i bytes s e (content_of c) single h) found;
  fault = IfErr-weaker r _ _ (λ f h. faults_as _ _ f h (λ reason place g. message-fails T room label i bytes s e reason place single g)) fault;
}

pub text-answers : (T : Table) (room : ℕ) (label : Label) (bytes : List ℕ) (s e : ℕ)
    (r : Result FieldValue DecodeFault) → is_map label ≡ false
    → IfOk r (λ c. (content_of c ≡ one (run (slice_range bytes s e))) × IsUtf8 (slice_range bytes s e))
    → IfErr r (OnDecodeFault (λ reason at. (reason ≡ Utf8) × (at ≡ s) × (IsUtf8 (slice_range bytes s e) → ⊥)))
    → Answers T room label Text bytes (Len s e) r
text-answers T room label bytes s e r single found fault = record {
  found = IfOk-weaker r _ _ (λ c h. holds_text s e single refl refl h.1 h.0) found;
  fault = IfErr-weaker r _ _ (λ f h. faults_as _ _ f h (λ reason place g. let at : s ≡ place = sym g.1 in
      no_text e single refl (ap (λ x. Len x e) at) g.0 (let P : ℕ → Type 0 = λ x. IsUtf8 (slice_range bytes x e)
      → ⊥ in subst P at g.2))) fault;
}

pub octets-answers : (T : Table) (room : ℕ) (label : Label) (bytes : List ℕ) (s e : ℕ)
    (r : Result FieldValue DecodeFault) → is_map label ≡ false
    → IfOk r (λ c. content_of c ≡ one (run (slice_range bytes s e))) → IfErr r (OnDecodeFault (λ reason at. ⊥))
    → Answers T room label Octets bytes (Len s e) r
octets-answers T room label bytes s e r single found fault = record {
  found = IfOk-weaker r _ _ (λ c h. holds_octets s e single refl refl h) found;
  fault = IfErr-weaker r _ _ (λ f h. faults_as _ _ f h (λ reason place g. absurd g)) fault;
}

pub packed-answers : (T : Table) (room : ℕ) (label : Label) (k : Kind) (bytes : List ℕ) (s e : ℕ)
    (r : Result FieldValue DecodeFault) → may_be_packed label k ≡ true
    → IfOk r (λ c. IsPackedPayload k (take e bytes) s (content_of c))
    → IfErr r (OnDecodeFault (λ reason at. (reason ≡ PackedLength) × (at ≡ s) × HasNoPackedPayload k (take e bytes) s))
    → Answers T room label k bytes (Len s e) r
packed-answers T room label k bytes s e r packed found fault = record {
  found = IfOk-weaker r _ _ (λ c h. piece-holds T room label k bytes s e (content_of c) packed h) found;
  fault = IfErr-weaker r _ _ (λ f h. faults_as _ _ f h (λ reason place g. let at : s ≡ place = sym g.1 in
      no_elements e packed (ap (λ x. Len x e) at) g.0 (let P : ℕ → Type 0 = λ x. HasNoPackedPayload k (take e bytes) x in
      subst P at g.2))) fault;
}
