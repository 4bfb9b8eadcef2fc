-- The content of bytes doesn't change if other bytes precede or follow them.
use Rattle.std.proofs.Common.{◌≡◌, ℕ, ◌+◌, ◌-◌, ◌%◌, ◌≤◌, List, [], ◌∷◌, ◌++◌, length, take, drop, Option, Some, None}
use Rattle.std.proofs.Common.{false, refl, ap, sym, subst, ◌∙◌, arith}
use Rattle.std.specs.Option.{option_map, unwrap_or}
use Rattle.std.specs.List.{slice_range}
use Rattle.std.specs.Str.{IsUtf8}
use Rattle.std.specs.Int.{w32, w64, from_le_bytes}
use Rattle.std.proofs.lemmas.List.{length-take, length-drop, length-append, drop-drop, drop-take, drop_at, take-append-le, drop-append-le}
use Rattle.std.specs.List.{concat}
use Rattle.mrpc_table.specs.Node.{Node, field, Content, one, Item, number, run, node}
use Rattle.mrpc_table.specs.Normal.{fields_of, field_at}
use Rattle.mrpc_table.specs.declared.table.Kind.{Kind}
use Rattle.mrpc_table.specs.declared.table.Label.{Label}
use Rattle.mrpc_table.specs.declared.table.Field.{Field}
use Rattle.mrpc_table.specs.declared.table.Table.{Table}
use Rattle.mrpc_table.specs.WireTypes.{wire_type_of}
use Rattle.wire_base.specs.Records.{IsVarint, IsVarintAt, IsPayloadAt, IsRecordAt, IsWithin}
use Rattle.wire_base.specs.declared.records.Record.{Record}
use Rattle.wire_base.specs.declared.records.Payload.{Payload}
use Rattle.wire_base.specs.declared.records.Payload.TheVariants.{Varint, I64, I32, Len}
use Rattle.wire_decode.specs.Words.{payload_number, payload_type, accepts_payload, word_form_of, AreElements}
use Rattle.wire_decode.specs.RawMessages.{IsRawMessage, read_end, read_other, read_known, IsContentUnder, holds_number, holds_piece, holds_text, holds_octets, holds_message, holds_entry}
use Rattle.wire_decode.specs.Known.{is_known_record, entry_fields}
use Rattle.wire_decode.specs.Merged.{join_fields, joined_messages}
use Rattle.wire_decode.specs.Joined.{AreRawMessages}
use Rattle.wire_decode.proofs.Payloads.{VarintAt-moves, PayloadAt-span}

-- ---- bytes before

pub slice-drop : (d : ℕ) (b : List ℕ) (s e : ℕ) → slice_range (drop d b) s e ≡ slice_range b (d + s) (d + e)
slice-drop d b s e =
    ap (take (e - s)) (drop-drop s d b)
    ∙ ap (λ n. take n (drop (d + s) b)) (let h : e - s ≡ (d + e) - (d + s) = omega arith in h)

-- a payload, and a record, with this many bytes before
abbrev pub payload_ahead : ℕ → Payload → Payload
payload_ahead d (Varint v) = Varint v
payload_ahead d (I64 v) = I64 v
payload_ahead d (I32 v) = I32 v
payload_ahead d (Len s e) = Len (d + s) (d + e)

abbrev pub record_ahead : ℕ → Record → Record
record_ahead d r = record { number = r.number; payload = payload_ahead d r.payload; next = d + r.next }

pub number-ahead : (d : ℕ) (p : Payload) → payload_number (payload_ahead d p) ≡ payload_number p
number-ahead d (Varint v) = refl
number-ahead d (I64 v) = refl
number-ahead d (I32 v) = refl
number-ahead d (Len s e) = refl

pub type-ahead : (d : ℕ) (p : Payload) → payload_type (payload_ahead d p) ≡ payload_type p
type-ahead d (Varint v) = refl
type-ahead d (I64 v) = refl
type-ahead d (I32 v) = refl
type-ahead d (Len s e) = refl

module _ (d : ℕ) (b : List ℕ) (fits : d ≤ length b) where
  pub varint-to : (at v n : ℕ) → IsVarintAt (drop d b) at v n → IsVarintAt b (d + at) v (d + n)
  varint-to at v n h = record {
    within = (let w = h.within in omega (arith, w, fits, length-drop d b));
    spelled = subst (λ (xs : List ℕ). IsVarint xs v) (slice-drop d b at n) h.spelled;
  }

  pub varint-back : (at v n : ℕ) → IsVarintAt b (d + at) v (d + n) → IsVarintAt (drop d b) at v n
  varint-back at v n h = record {
    within = (let w = h.within in omega (arith, w, length-drop d b));
    spelled = subst (λ (xs : List ℕ). IsVarint xs v) (sym (slice-drop d b at n)) h.spelled;
  }

  pub varint-found : (at v m : ℕ) → IsVarintAt b (d + at) v m → (n : ℕ) × (m ≡ d + n) × IsVarintAt (drop d b) at v n
  varint-found at v m h =
      let moves = VarintAt-moves h in
      let e : m ≡ d + (m - d) = omega (arith, moves) in
      (m - d, e, varint-back at v (m - d) (subst (λ (x : ℕ). IsVarintAt b (d + at) v x) e h))

  pub payload-to : (at w : ℕ) (p : Payload) (n : ℕ) → IsPayloadAt (drop d b) at w p n → IsPayloadAt b (d + at) w (payload_ahead d p) (d + n)
  payload-to at w (Varint v) n h = (h.0, varint-to at v n h.1)
  payload-to at w (I64 v) n h = (h.0, (let e = h.1 in omega (arith, e)), (let l = h.2 in omega (arith, l, fits, length-drop d b)), h.3 ∙ ap (from_le_bytes w64) (slice-drop d b at n))
  payload-to at w (I32 v) n h = (h.0, (let e = h.1 in omega (arith, e)), (let l = h.2 in omega (arith, l, fits, length-drop d b)), h.3 ∙ ap (from_le_bytes w32) (slice-drop d b at n))
  payload-to at w (Len s e) n h = (
    h.0,
    h.1,
    varint-to at h.1 s h.2,
    (let x = h.3 in omega (arith, x)),
    (let l = h.4 in omega (arith, l, fits, length-drop d b)),
    (let x = h.5 in omega (arith, x)),
  )

  pub payload-found : (at w : ℕ) (q : Payload) (m : ℕ) → IsPayloadAt b (d + at) w q m
      → (p : Payload) × (n : ℕ) × (q ≡ payload_ahead d p) × (m ≡ d + n) × IsPayloadAt (drop d b) at w p n
  payload-found at w (Varint v) m h = let f = varint-found at v m h.1 in (Varint v, f.0, refl, f.1, (h.0, f.2))
  payload-found at w (I64 v) m h =
      let e : m ≡ d + (at + 8) = (let x = h.1 in omega (arith, x)) in (
        I64 v,
        at + 8,
        refl,
        e,
        (
          h.0,
          refl,
          (let l = h.2 in omega (arith, l, e, length-drop d b)),
          h.3 ∙ ap (λ x. from_le_bytes w64 (slice_range b (d + at) x)) e
              ∙ ap (from_le_bytes w64) (sym (slice-drop d b at (at + 8))),
        ),
      )
  payload-found at w (I32 v) m h =
      let e : m ≡ d + (at + 4) = (let x = h.1 in omega (arith, x)) in (
        I32 v,
        at + 4,
        refl,
        e,
        (
          h.0,
          refl,
          (let l = h.2 in omega (arith, l, e, length-drop d b)),
          h.3 ∙ ap (λ x. from_le_bytes w32 (slice_range b (d + at) x)) e
              ∙ ap (from_le_bytes w32) (sym (slice-drop d b at (at + 4))),
        ),
      )
  payload-found at w (Len s' e') m h =
      let f = varint-found at h.1 s' h.2 in
      let ends : e' ≡ d + (f.0 + h.1) = (let x = h.3 in let y = f.1 in omega (arith, x, y)) in
      let m_is : m ≡ d + (f.0 + h.1) = h.5 ∙ ends in (
        Len f.0 (f.0 + h.1),
        f.0 + h.1,
        ap (λ x. Len x e') f.1 ∙ ap (λ x. Len (d + f.0) x) ends,
        m_is,
        (h.0, h.1, f.2, refl, (let l = h.4 in omega (arith, l, ends, length-drop d b)), refl),
      )

  pub record-to : (at : ℕ) (r : Record) → IsRecordAt (drop d b) at r → IsRecordAt b (d + at) (record_ahead d r)
  record-to at r h = record {
    tag = h.tag;
    start = d + h.start;
    tagged = record { stands = varint-to at h.tag h.start h.tagged.stands; small = h.tagged.small; numbered = h.tagged.numbered };
    number = h.number;
    payload = payload-to h.start (h.tag % 8) r.payload r.next h.payload;
  }

  pub record-found : (at : ℕ) (q : Record) → IsRecordAt b (d + at) q → (r : Record) × (q ≡ record_ahead d r) × IsRecordAt (drop d b) at r
  record-found at q h =
      let v = varint-found at h.tag h.start h.tagged.stands in
      let f = payload-found v.0 (h.tag % 8) q.payload q.next (subst (λ (x : ℕ). IsPayloadAt b x (h.tag % 8) q.payload q.next) v.1 h.payload) in
      let make : Payload → ℕ → Record = λ p n. record { number = q.number; payload = p; next = n } in (
        make f.0 f.1,
        ap (λ p. make p q.next) f.2 ∙ ap (make (payload_ahead d f.0)) f.3,
        record {
          tag = h.tag;
          start = v.0;
          tagged = record { stands = v.2; small = h.tagged.small; numbered = h.tagged.numbered };
          number = h.number;
          payload = f.4;
        },
      )

  pub elements-to : (k : Kind) (at : ℕ) (ws : List ℕ) → AreElements k (drop d b) at ws → AreElements k b (d + at) ws
  elements-to k at [] h = omega (arith, h, fits, length-drop d b)
  elements-to k at (w ∷ ws) h = (payload_ahead d h.0, d + h.1, payload-to at (wire_type_of k) h.0 h.1 h.2, h.3 ∙ ap (word_form_of k) (sym (number-ahead d h.0)), elements-to k h.1 ws h.4)

  pub elements-back : (k : Kind) (at : ℕ) (ws : List ℕ) → AreElements k b (d + at) ws → AreElements k (drop d b) at ws
  elements-back k at [] h = omega (arith, h, length-drop d b)
  elements-back k at (w ∷ ws) h =
      let f = payload-found at (wire_type_of k) h.0 h.1 h.2 in (
        f.0,
        f.1,
        f.4,
        h.3 ∙ ap (λ p. word_form_of k (payload_number p)) f.2 ∙ ap (word_form_of k) (number-ahead d f.0),
        elements-back k f.1 ws (subst (λ (x : ℕ). AreElements k b x ws) f.3 h.4),
      )

suits-ahead : (d : ℕ) (label : Label) (k : Kind) (p : Payload) → accepts_payload label k (payload_ahead d p) ≡ accepts_payload label k p
suits-ahead d label k (Varint v) = refl
suits-ahead d label k (I64 v) = refl
suits-ahead d label k (I32 v) = refl
suits-ahead d label k (Len s e) = refl

known-ahead : (d : ℕ) (fs : List Field) (r : Record) → is_known_record fs (record_ahead d r) ≡ is_known_record fs r
known-ahead d fs r = go (field_at fs r.number)
  where
    go : (o : Option Field) → unwrap_or (option_map (λ f. accepts_payload f.label f.kind (payload_ahead d r.payload)) o) false
        ≡ unwrap_or (option_map (λ f. accepts_payload f.label f.kind r.payload) o) false
    go None = refl
    go (Some f) = suits-ahead d f.label f.kind r.payload

-- bytes that are cut after a payload
cut-fits : (d e : ℕ) (b : List ℕ) → d ≤ length b → d ≤ length (take (d + e) b)
cut-fits d e b fits = omega (arith, fits, length-take (d + e) b)

cut-same : (d e : ℕ) (b x : List ℕ) → x ≡ drop d b → take e x ≡ drop d (take (d + e) b)
cut-same d e b x is = ap (take e) is ∙ sym (drop-take d e b)

len-found : (d : ℕ) (p : Payload) (s' e' : ℕ) → payload_ahead d p ≡ Len s' e' → (s : ℕ) × (e : ℕ) × (p ≡ Len s e) × (s' ≡ d + s) × (e' ≡ d + e)
len-found d (Varint v) s' e' h = absurd (cc)
len-found d (I64 v) s' e' h = absurd (cc)
len-found d (I32 v) s' e' h = absurd (cc)
len-found d (Len s e) s' e' h = (s, e, refl, cc, cc)

mutual
  -- what is read in bytes is read with others before them
  pub reads-to : (d : ℕ) (b x : List ℕ) → d ≤ length b → x ≡ drop d b
      → {T : Table} {room : ℕ} {fs : List Field} {at : ℕ} {t : Node} → IsRawMessage T room fs x at t
      → IsRawMessage T room fs b (d + at) t
  reads-to d b x fits e (read_end a is) = read_end (let l = ap length e in omega (arith, a, l, fits, length-drop d b)) is
  reads-to d b x fits e {T} {room} {fs} {at} {t} (read_other r here other g) =
      read_other (record_ahead d r) (record-to d b fits at r (subst (λ (xs : List ℕ). IsRecordAt xs at r) e here)) (known-ahead d fs r ∙ other) (reads-to d b x fits e g)
  reads-to d b x fits e {T} {room} {fs} {at} {t} (read_known r f c rest here at_f holds is g) =
      read_known (record_ahead d r) f c rest (record-to d b fits at r (subst (λ (xs : List ℕ). IsRecordAt xs at r) e here)) at_f (holds-to d b x fits e holds) is (reads-to d b x fits e g)

  pub holds-to : (d : ℕ) (b x : List ℕ) → d ≤ length b → x ≡ drop d b
      → {T : Table} {room : ℕ} {label : Label} {k : Kind} {p : Payload} {c : Content} → IsContentUnder T room label k x p c
      → IsContentUnder T room label k b (payload_ahead d p) c
  holds-to d b x fits e {T} {room} {label} {k} {p} {c} (holds_number single numeric typed is) =
      holds_number single numeric (type-ahead d p ∙ typed) (is ∙ ap (λ n. one (number (word_form_of k n))) (sym (number-ahead d p)))
  holds-to d b x fits e {T} {room} {label} {k} {p} {c} (holds_piece s f ws packed at whole is) =
      holds_piece (d + s) (d + f) ws packed (ap (payload_ahead d) at)
      (elements-to d (take (d + f) b) (cut-fits d f b fits) k s ws
      (subst (λ (xs : List ℕ). AreElements k xs s ws) (cut-same d f b x e) whole)) is
  holds-to d b x fits e (holds_text s f single kind at utf8 is) =
      let same = ap (λ xs. slice_range xs s f) e ∙ slice-drop d b s f in
      holds_text (d + s) (d + f) single kind (ap (payload_ahead d) at) (subst IsUtf8 same utf8) (is ∙ ap (λ xs. one (run xs)) same)
  holds-to d b x fits e (holds_octets s f single kind at is) =
      let same = ap (λ xs. slice_range xs s f) e ∙ slice-drop d b s f in
      holds_octets (d + s) (d + f) single kind (ap (payload_ahead d) at) (is ∙ ap (λ xs. one (run xs)) same)
  holds-to d b x fits e (holds_message inside i s f t single kind at room_is reads is) =
      holds_message inside i (d + s) (d + f) t single kind (ap (payload_ahead d) at) room_is (reads-to d (take (d + f) b) (take f x) (cut-fits d f b fits) (cut-same d f b x e) reads) is
  holds-to d b x fits e (holds_entry key s f t map at reads room_is is) =
      holds_entry key (d + s) (d + f) t map (ap (payload_ahead d) at) (reads-to d (take (d + f) b) (take f x) (cut-fits d f b fits) (cut-same d f b x e) reads) room_is is

mutual
  -- and what is read after others is read without them
  pub reads-back : (d : ℕ) (b : List ℕ) → d ≤ length b
      → (at : ℕ) {T : Table} {room : ℕ} {fs : List Field} {from : ℕ} {t : Node} → from ≡ d + at
      → IsRawMessage T room fs b from t → IsRawMessage T room fs (drop d b) at t
  reads-back d b fits at {T} {room} {fs} {from} {t} e (read_end a is) = read_end (omega (arith, a, e, fits, length-drop d b)) is
  reads-back d b fits at {T} {room} {fs} {from} {t} e (read_other q here other g) =
      let f = record-found d b fits at q (subst (λ (x : ℕ). IsRecordAt b x q) e here) in
      read_other f.0 f.2 (sym (known-ahead d fs f.0) ∙ sym (ap (is_known_record fs) f.1) ∙ other) (reads-back d b fits f.0.next (ap (λ (x : Record). x.next) f.1) g)
  reads-back d b fits at {T} {room} {fs} {from} {t} e (read_known q g c rest here at_g holds is more) =
      let f = record-found d b fits at q (subst (λ (x : ℕ). IsRecordAt b x q) e here) in
      read_known f.0 g c rest f.2 (ap (λ (x : Record). field_at fs x.number) (sym f.1) ∙ at_g)
      (holds-back d b fits f.0.payload (ap (λ (x : Record). x.payload) f.1) holds)
      (is ∙ ap (λ (x : Record). field x.number c rest) f.1)
      (reads-back d b fits f.0.next (ap (λ (x : Record). x.next) f.1) more)

  pub holds-back : (d : ℕ) (b : List ℕ) → d ≤ length b
      → (p : Payload) {T : Table} {room : ℕ} {label : Label} {k : Kind} {q : Payload} {c : Content}
      → q ≡ payload_ahead d p → IsContentUnder T room label k b q c → IsContentUnder T room label k (drop d b) p c
  holds-back d b fits p {T} {room} {label} {k} {q} {c} e (holds_number single numeric typed is) =
      holds_number single numeric (sym (ap payload_type e ∙ type-ahead d p) ∙ typed) (is ∙ ap (λ n. one (number (word_form_of k n))) (ap payload_number e ∙ number-ahead d p))
  holds-back d b fits p {T} {room} {label} {k} {q} {c} e (holds_piece s' e' ws packed at whole is) =
      let f = len-found d p s' e' (sym e ∙ at) in
      let here : AreElements k (take (d + f.1) b) (d + f.0) ws =
      subst (λ (x : ℕ). AreElements k (take x b) (d + f.0) ws) f.4
      (subst (λ (x : ℕ). AreElements k (take e' b) x ws) f.3 whole) in
      holds_piece f.0 f.1 ws packed f.2 (subst (λ (xs : List ℕ). AreElements k xs f.0 ws) (drop-take d f.1 b)
      (elements-back d (take (d + f.1) b) (cut-fits d f.1 b fits) k f.0 ws here)) is
  holds-back d b fits p e (holds_text s' e' single kind at utf8 is) =
      let f = len-found d p s' e' (sym e ∙ at) in
      let same : slice_range b s' e' ≡ slice_range (drop d b) f.0 f.1 = ap (λ x. slice_range b x e') f.3 ∙ ap (slice_range b (d + f.0)) f.4 ∙ sym (slice-drop d b f.0 f.1) in
      holds_text f.0 f.1 single kind f.2 (subst IsUtf8 same utf8) (is ∙ ap (λ xs. one (run xs)) same)
  holds-back d b fits p e (holds_octets s' e' single kind at is) =
      let f = len-found d p s' e' (sym e ∙ at) in
      let same : slice_range b s' e' ≡ slice_range (drop d b) f.0 f.1 = ap (λ x. slice_range b x e') f.3 ∙ ap (slice_range b (d + f.0)) f.4 ∙ sym (slice-drop d b f.0 f.1) in
      holds_octets f.0 f.1 single kind f.2 (is ∙ ap (λ xs. one (run xs)) same)
  holds-back d b fits p {T} {room} {label} {k} {q} {c} e (holds_message inside i s' e' t single kind at room_is reads is) =
      let f = len-found d p s' e' (sym e ∙ at) in
      let long : d ≤ length (take e' b) = subst (λ (x : ℕ). d ≤ length (take x b)) (sym f.4) (cut-fits d f.1 b fits) in
      let cut : drop d (take e' b) ≡ take f.1 (drop d b) = ap (λ x. drop d (take x b)) f.4 ∙ drop-take d f.1 b in
      holds_message inside i f.0 f.1 t single kind f.2 room_is (subst (λ (xs : List ℕ). IsRawMessage T inside (fields_of T i) xs f.0 t) cut (reads-back d (take e' b) long f.0 f.3 reads)) is
  holds-back d b fits p {T} {room} {label} {k} {q} {c} e (holds_entry key s' e' t map at reads room_is is) =
      let f = len-found d p s' e' (sym e ∙ at) in
      let long : d ≤ length (take e' b) = subst (λ (x : ℕ). d ≤ length (take x b)) (sym f.4) (cut-fits d f.1 b fits) in
      let cut : drop d (take e' b) ≡ take f.1 (drop d b) = ap (λ x. drop d (take x b)) f.4 ∙ drop-take d f.1 b in
      holds_entry key f.0 f.1 t map f.2 (subst (λ (xs : List ℕ). IsRawMessage T room (entry_fields key k) xs f.0 t) cut (reads-back d (take e' b) long f.0 f.3 reads)) room_is is

-- ---- bytes after

slice-front : (a b : List ℕ) (s e : ℕ) → s ≤ e → e ≤ length a → slice_range a s e ≡ slice_range (a ++ b) s e
slice-front a b s e ordered within =
    sym (ap (take (e - s)) (drop-append-le s a b (omega (arith, ordered, within)))
    ∙ take-append-le (e - s) (drop s a) b (omega (arith, within, length-drop s a)))

longer : (a b : List ℕ) (n : ℕ) → n ≤ length a → n ≤ length (a ++ b)
longer a b n h = omega (arith, h, length-append a b)

varint-front : (a b : List ℕ) (at v n : ℕ) → IsVarintAt a at v n → IsVarintAt (a ++ b) at v n
varint-front a b at v n h = record {
  within = longer a b n h.within;
  spelled = subst (λ (xs : List ℕ). IsVarint xs v) (slice-front a b at n (let m = VarintAt-moves h in omega (arith, m)) h.within) h.spelled;
}

payload-front : (a b : List ℕ) (at w : ℕ) (p : Payload) (n : ℕ) → IsPayloadAt a at w p n → IsPayloadAt (a ++ b) at w p n
payload-front a b at w (Varint v) n h = (h.0, varint-front a b at v n h.1)
payload-front a b at w (I64 v) n h = (h.0, h.1, longer a b n h.2, h.3 ∙ ap (from_le_bytes w64) (slice-front a b at n (let x = h.1 in omega (arith, x)) h.2))
payload-front a b at w (I32 v) n h = (h.0, h.1, longer a b n h.2, h.3 ∙ ap (from_le_bytes w32) (slice-front a b at n (let x = h.1 in omega (arith, x)) h.2))
payload-front a b at w (Len s e) n h = (h.0, h.1, varint-front a b at h.1 s h.2, h.3, longer a b e h.4, h.5)

record-front : (a b : List ℕ) (at : ℕ) (r : Record) → IsRecordAt a at r → IsRecordAt (a ++ b) at r
record-front a b at r h = record {
  tag = h.tag;
  start = h.start;
  tagged = record { stands = varint-front a b at h.tag h.start h.tagged.stands; small = h.tagged.small; numbered = h.tagged.numbered };
  number = h.number;
  payload = payload-front a b h.start (h.tag % 8) r.payload r.next h.payload;
}

-- a payload within the first bytes
holds-front : (a b : List ℕ) {T : Table} {room : ℕ} {label : Label} {k : Kind} {p : Payload} {c : Content}
    → IsWithin (length a) p → IsContentUnder T room label k a p c → IsContentUnder T room label k (a ++ b) p c
holds-front a b w (holds_number single numeric typed is) = holds_number single numeric typed is
holds-front a b {T} {room} {label} {k} {p} {c} w (holds_piece s e ws packed at whole is) =
    let v = subst (IsWithin (length a)) at w in
    holds_piece s e ws packed at (subst (λ (xs : List ℕ). AreElements k xs s ws) (sym (take-append-le e a b v.1)) whole) is
holds-front a b w (holds_text s e single kind at utf8 is) =
    let v = subst (IsWithin (length a)) at w in
    let same = slice-front a b s e v.0 v.1 in
    holds_text s e single kind at (subst IsUtf8 same utf8) (is ∙ ap (λ xs. one (run xs)) same)
holds-front a b w (holds_octets s e single kind at is) =
    let v = subst (IsWithin (length a)) at w in
    holds_octets s e single kind at (is ∙ ap (λ xs. one (run xs)) (slice-front a b s e v.0 v.1))
holds-front a b {T} {room} {label} {k} {p} {c} w (holds_message inside i s e t single kind at room_is reads is) =
    let v = subst (IsWithin (length a)) at w in
    holds_message inside i s e t single kind at room_is (subst (λ (xs : List ℕ). IsRawMessage T inside (fields_of T i) xs s t) (sym (take-append-le e a b v.1)) reads) is
holds-front a b {T} {room} {label} {k} {p} {c} w (holds_entry key s e t map at reads room_is is) =
    let v = subst (IsWithin (length a)) at w in
    holds_entry key s e t map at (subst (λ (xs : List ℕ). IsRawMessage T room (entry_fields key k) xs s t) (sym (take-append-le e a b v.1)) reads) room_is is

reads-front : {T : Table} {room : ℕ} {fs : List Field} (a b : List ℕ) (u : Node) {at : ℕ} {t : Node}
    → IsRawMessage T room fs a at t → IsRawMessage T room fs (a ++ b) (length a) u → IsRawMessage T room fs (a ++ b) at (join_fields t u)
reads-front {T} {room} {fs} a b u {at} {t} (read_end e is) h =
    subst (λ (n : ℕ). IsRawMessage T room fs (a ++ b) n (join_fields t u)) (sym e) (subst (λ (x : Node). IsRawMessage T room fs (a ++ b) (length a) (join_fields x u)) (sym is) h)
reads-front {T} {room} {fs} a b u {at} {t} (read_other r here other g) h = read_other r (record-front a b at r here) other (reads-front a b u g h)
reads-front {T} {room} {fs} a b u {at} {t} (read_known r f c rest here at_f holds is g) h =
    read_known r f c (join_fields rest u) (record-front a b at r here) at_f (holds-front a b (PayloadAt-span a here.start (here.tag % 8) r.payload r.next here.payload) holds)
    (ap (λ x. join_fields x u) is) (reads-front a b u g h)

-- the records of two strings, the second after the first
pub reads-joined : (T : Table) (room : ℕ) (fs : List Field) (a b : List ℕ) (t u : Node) → IsRawMessage T room fs a 0 t
    → IsRawMessage T room fs b 0 u → IsRawMessage T room fs (a ++ b) 0 (join_fields t u)
reads-joined T room fs a b t u first second =
    let here : IsRawMessage T room fs (a ++ b) (length a + 0) u = reads-to (length a) (a ++ b) b (omega (arith, length-append a b)) (sym (drop_at a b (length a) refl)) second in
    reads-front a b u first (subst (λ (n : ℕ). IsRawMessage T room fs (a ++ b) n u) (let e : length a + 0 ≡ length a = omega arith in e) here)

pub payloads-joined : (T : Table) (room : ℕ) (fs : List Field) (ps : List (List ℕ)) (is : List Item) → AreRawMessages T room fs ps is → IsRawMessage T room fs (concat ps) 0 (joined_messages is)
payloads-joined T room fs [] [] h = read_end refl refl
payloads-joined T room fs [] (i ∷ is) h = absurd h
payloads-joined T room fs (p ∷ ps) [] h = absurd h
payloads-joined T room fs (p ∷ ps) (number n ∷ is) h = absurd h
payloads-joined T room fs (p ∷ ps) (run bytes ∷ is) h = absurd h
payloads-joined T room fs (p ∷ ps) (node t ∷ is) h = reads-joined T room fs p (concat ps) t (joined_messages is) h.0 (payloads-joined T room fs ps is h.1)
