-- Bytes are read in at most one way, bytes that are read have no fault, and others have one first fault.
use Rattle.std.proofs.Common.{◌≡◌, ◌≢◌, ℕ, suc, ◌<◌, ◌&&◌, ◌==◌, List, [], ◌∷◌, length, take, Option, Some, Bool}
use Rattle.std.proofs.Common.{true, false, cond, refl, ap, sym, subst, ◌∙◌, arith}
use Rattle.std.specs.Option.{option_map, unwrap_or}
use Rattle.std.specs.List.{slice_range}
use Rattle.std.specs.Str.{IsUtf8}
use Rattle.mrpc_table.specs.Node.{Node, field, Content, one, many, run, node}
use Rattle.mrpc_table.specs.Normal.{fields_of, field_at}
use Rattle.mrpc_table.specs.Words.{is_numeric}
use Rattle.mrpc_table.specs.declared.table.Kind.{Kind}
use Rattle.mrpc_table.specs.declared.table.Kind.TheVariants.{Text, Octets, Message as OfMessage}
use Rattle.mrpc_table.specs.declared.table.Label.{Label}
use Rattle.mrpc_table.specs.declared.table.Label.TheVariants.{Plain, Optional, Repeated, Packed, Map, Member}
use Rattle.mrpc_table.specs.declared.table.Field.{Field}
use Rattle.mrpc_table.specs.declared.table.Table.{Table}
use Rattle.mrpc_table.specs.WireTypes.{wire_type_of}
use Rattle.wire_base.specs.Records.{IsRecordAt}
use Rattle.wire_base.specs.declared.records.Payload.{Payload}
use Rattle.wire_base.specs.declared.records.Payload.TheVariants.{Len}
use Rattle.wire_base.specs.declared.records.Record.{Record}
use Rattle.wire_base.specs.declared.fault.WireFault.{WireFault}
use Rattle.wire_decode.proofs.WireLaws.{Law}
use Rattle.wire_decode.proofs.Payloads.{PayloadAt-ahead, PayloadAt-within, RecordAt-ahead, RecordAt-within}
use Rattle.std.proofs.lemmas.Bool.{or_left, or_right, eq-eqb}
use Rattle.wire_decode.specs.Words.{word_form_of, payload_number, payload_type, own_type, is_map, may_be_packed, accepts_payload, AreElements}
use Rattle.wire_decode.specs.RawMessages.{IsRawMessage, read_end, read_other, read_known, IsContentUnder, holds_number, holds_piece}
use Rattle.wire_decode.specs.RawMessages.{holds_text, holds_octets, holds_message, holds_entry, numbers}
use Rattle.wire_decode.specs.Known.{entry_fields}
use Rattle.wire_decode.specs.Known.{is_known_record}
use Rattle.wire_decode.specs.Reason.{decode_reason_of}
use Rattle.wire_decode.specs.FaultWalk.{IsFaultReached, no_record, behind_other, behind_known, in_payload, IsPayloadFault, no_elements, no_text, too_deep, in_message, in_entry, no_room}
use Rattle.wire_decode.specs.declared.fault.DecodeReason.{DecodeReason}

-- a record is within the bytes
record-ahead : (bytes : List ℕ) (at : ℕ) (r : Record) → IsRecordAt bytes at r → at < length bytes
record-ahead bytes at r h = let a = RecordAt-ahead bytes at r h in let w = RecordAt-within bytes at r h in omega (arith, a, w)

pub elements-same : Law → (k : Kind) (bytes : List ℕ) (at : ℕ) (ws vs : List ℕ) → AreElements k bytes at ws → AreElements k bytes at vs → ws ≡ vs
elements-same law k bytes at [] [] g h = refl
elements-same law k bytes at [] (v ∷ vs) g h =
    let a = PayloadAt-ahead bytes at (wire_type_of k) h.0 h.1 h.2 in
    let w = PayloadAt-within bytes at (wire_type_of k) h.0 h.1 h.2 in
    absurd (omega (arith, a, w, g))
elements-same law k bytes at (w ∷ ws) [] g h =
    let a = PayloadAt-ahead bytes at (wire_type_of k) g.0 g.1 g.2 in
    let b = PayloadAt-within bytes at (wire_type_of k) g.0 g.1 g.2 in
    absurd (omega (arith, a, b, h))
elements-same law k bytes at (w ∷ ws) (v ∷ vs) g h =
    let same = law.one_payload bytes at (wire_type_of k) g.0 h.0 g.1 h.1 g.2 h.2 in
    let word : w ≡ v = g.3 ∙ ap (λ p. word_form_of k (payload_number p)) same.0 ∙ sym h.3 in
    let P : ℕ → Type 0 = λ n. AreElements k bytes n vs in
    let rest = elements-same law k bytes g.1 ws vs g.4 (subst P (sym same.1) h.4) in
    ap (λ x. x ∷ ws) word ∙ ap (λ xs. v ∷ xs) rest

-- which reader a payload has: of numbers, packed numbers, text, bytes, messages, entries
abbrev kind_class : Kind → ℕ
kind_class Text = 2
kind_class Octets = 3
kind_class (OfMessage i) = 4
kind_class _ = 1

abbrev class : Label → Kind → Payload → ℕ
class label k p = cond (is_map label) 5 (cond (payload_type p == 2) (kind_class k) 0)

class-single : (label : Label) (k : Kind) (p : Payload) (b : Bool) → is_map label ≡ false → (payload_type p == 2) ≡ b → class label k p ≡ cond b (kind_class k) 0
class-single label k p b single test = ap (λ m. cond m 5 (cond (payload_type p == 2) (kind_class k) 0)) single ∙ ap (λ t. cond t (kind_class k) 0) test

class-map : (label : Label) (k : Kind) (p : Payload) (key : Kind) → label ≡ Map key → class label k p ≡ 5
class-map label k p key e = ap (λ l. class l k p) e

numeric-test : (k : Kind) → is_numeric k ≡ true → (wire_type_of k == 2) ≡ false
numeric-test Text h = absurd (cc)
numeric-test Octets h = absurd (cc)
numeric-test (OfMessage i) h = absurd (cc)
numeric-test _ h = refl

numeric-class : (k : Kind) → is_numeric k ≡ true → kind_class k ≡ 1
numeric-class Text h = absurd (cc)
numeric-class Octets h = absurd (cc)
numeric-class (OfMessage i) h = absurd (cc)
numeric-class _ h = refl

pub packed-single : (label : Label) (k : Kind) → may_be_packed label k ≡ true → is_map label ≡ false
packed-single (Map key) k h = absurd (cc)
packed-single _ k h = refl

pub packed-numeric : (label : Label) (k : Kind) → may_be_packed label k ≡ true → is_numeric k ≡ true
packed-numeric Repeated k h = h
packed-numeric Packed k h = h
packed-numeric Plain k h = absurd (cc)
packed-numeric Optional k h = absurd (cc)
packed-numeric (Map key) k h = absurd (cc)
packed-numeric (Member o) k h = absurd (cc)

len-test : (p : Payload) (s e : ℕ) → p ≡ Len s e → (payload_type p == 2) ≡ true
len-test p s e h = ap (λ q. payload_type q == 2) h

class-len : (label : Label) (k : Kind) (p : Payload) (s e : ℕ) → is_map label ≡ false → p ≡ Len s e → class label k p ≡ kind_class k
class-len label k p s e single h = class-single label k p true single (len-test p s e h)

abbrev index : {T : Table} {room : ℕ} {label : Label} {k : Kind} {bytes : List ℕ} {p : Payload} {c : Content} → IsContentUnder T room label k bytes p c → ℕ
index (holds_number single numeric typed e) = 0
index (holds_piece s e ws packed at whole is) = 1
index (holds_text s e single kind at utf8 is) = 2
index (holds_octets s e single kind at is) = 3
index (holds_message inside i s e t single kind at room reads is) = 4
index (holds_entry key s e t map at reads room is) = 5

index-class : {T : Table} {room : ℕ} {label : Label} {k : Kind} {bytes : List ℕ} {p : Payload} {c : Content} (h : IsContentUnder T room label k bytes p c) → class label k p ≡ index h
index-class {label = label} {k = k} {p = p} (holds_number single numeric typed e) = class-single label k p false single (ap (λ w. w == 2) typed ∙ numeric-test k numeric)
index-class {label = label} {k = k} {p = p} (holds_piece s e ws packed at whole is) =
    class-len label k p s e (packed-single label k packed) at ∙ numeric-class k (packed-numeric label k packed)
index-class {label = label} {k = k} {p = p} (holds_text s e single kind at utf8 is) = class-len label k p s e single at ∙ ap kind_class kind
index-class {label = label} {k = k} {p = p} (holds_octets s e single kind at is) = class-len label k p s e single at ∙ ap kind_class kind
index-class {label = label} {k = k} {p = p} (holds_message inside i s e t single kind at room reads is) = class-len label k p s e single at ∙ ap kind_class kind
index-class {label = label} {k = k} {p = p} (holds_entry key s e t map at reads room is) = class-map label k p key map

abbrev fail_index : {T : Table} {room : ℕ} {label : Label} {k : Kind} {bytes : List ℕ} {p : Payload} {reason
    : DecodeReason} {place : ℕ} → IsPayloadFault T room label k bytes p reason place → ℕ
fail_index (no_elements e packed at is none) = 1
fail_index (no_text e single kind at is none) = 2
fail_index (too_deep i e single kind at room is) = 4
fail_index (in_message inside i s e single kind at room faults) = 4
fail_index (in_entry key s e map at faults) = 5
fail_index (no_room key e t map at reads room is) = 5

fail-class : {T : Table} {room : ℕ} {label : Label} {k : Kind} {bytes : List ℕ} {p : Payload} {reason
    : DecodeReason} {place : ℕ} (h : IsPayloadFault T room label k bytes p reason place) → class label k p ≡ fail_index h
fail-class {label = label} {k = k} {p = p} {place = s} (no_elements e packed at is none) =
    class-len label k p s e (packed-single label k packed) at ∙ numeric-class k (packed-numeric label k packed)
fail-class {label = label} {k = k} {p = p} {place = s} (no_text e single kind at is none) = class-len label k p s e single at ∙ ap kind_class kind
fail-class {label = label} {k = k} {p = p} {place = s} (too_deep i e single kind at room is) = class-len label k p s e single at ∙ ap kind_class kind
fail-class {label = label} {k = k} {p = p} (in_message inside i s e single kind at room faults) = class-len label k p s e single at ∙ ap kind_class kind
fail-class {label = label} {k = k} {p = p} (in_entry key s e map at faults) = class-map label k p key map
fail-class {label = label} {k = k} {p = p} (no_room key e t map at reads room is) = class-map label k p key map

-- a payload is read, or at fault, only if it is of the field's own type
own-suits : (label : Label) (k : Kind) (p : Payload) → payload_type p ≡ own_type label k → accepts_payload label k p ≡ true
own-suits label k p h = or_left (payload_type p == own_type label k) (may_be_packed label k && (payload_type p == 2)) (eq-eqb (payload_type p) (own_type label k) h)

own-single : (label : Label) (k : Kind) → is_map label ≡ false → own_type label k ≡ wire_type_of k
own-single (Map key) k h = absurd (cc)
own-single _ k h = refl

len-suits : (label : Label) (k : Kind) (p : Payload) (s e : ℕ) → is_map label ≡ false → wire_type_of k ≡ 2 → p ≡ Len s e → accepts_payload label k p ≡ true
len-suits label k p s e single two at = own-suits label k p (ap payload_type at ∙ sym two ∙ sym (own-single label k single))

map-suits : (label : Label) (k : Kind) (p : Payload) (s e : ℕ) (key : Kind) → label ≡ Map key → p ≡ Len s e → accepts_payload label k p ≡ true
map-suits label k p s e key map at = own-suits label k p (ap payload_type at ∙ sym (ap (λ l. own_type l k) map))

packed-suits : (label : Label) (k : Kind) (p : Payload) (s e : ℕ) → may_be_packed label k ≡ true → p ≡ Len s e → accepts_payload label k p ≡ true
packed-suits label k p s e packed at =
    or_right (payload_type p == own_type label k) (may_be_packed label k && (payload_type p == 2))
    (ap (λ b. b && (payload_type p == 2)) packed ∙ len-test p s e at)

pub holds-suits : {T : Table} {room : ℕ} {label : Label} {k : Kind} {bytes : List ℕ} {p : Payload} {c : Content} → IsContentUnder T room label k bytes p c → accepts_payload label k p ≡ true
holds-suits {label = label} {k = k} {p = p} (holds_number single numeric typed e) = own-suits label k p (typed ∙ sym (own-single label k single))
holds-suits {label = label} {k = k} {p = p} (holds_piece s e ws packed at whole is) = packed-suits label k p s e packed at
holds-suits {label = label} {k = k} {p = p} (holds_text s e single kind at utf8 is) = len-suits label k p s e single (ap wire_type_of kind) at
holds-suits {label = label} {k = k} {p = p} (holds_octets s e single kind at is) = len-suits label k p s e single (ap wire_type_of kind) at
holds-suits {label = label} {k = k} {p = p} (holds_message inside i s e t single kind at room reads is) = len-suits label k p s e single (ap wire_type_of kind) at
holds-suits {label = label} {k = k} {p = p} (holds_entry key s e t map at reads room is) = map-suits label k p s e key map at

fails-suits : {T : Table} {room : ℕ} {label : Label} {k : Kind} {bytes : List ℕ} {p : Payload} {reason
    : DecodeReason} {place : ℕ} → IsPayloadFault T room label k bytes p reason place → accepts_payload label k p ≡ true
fails-suits {label = label} {k = k} {p = p} {place = s} (no_elements e packed at is none) = packed-suits label k p s e packed at
fails-suits {label = label} {k = k} {p = p} {place = s} (no_text e single kind at is none) = len-suits label k p s e single (ap wire_type_of kind) at
fails-suits {label = label} {k = k} {p = p} {place = s} (too_deep i e single kind at room is) = len-suits label k p s e single (ap wire_type_of kind) at
fails-suits {label = label} {k = k} {p = p} (in_message inside i s e single kind at room faults) = len-suits label k p s e single (ap wire_type_of kind) at
fails-suits {label = label} {k = k} {p = p} (in_entry key s e map at faults) = map-suits label k p s e key map at
fails-suits {label = label} {k = k} {p = p} {place = s} (no_room key e t map at reads room is) = map-suits label k p s e key map at

known : (fs : List Field) (r : Record) (f : Field) → field_at fs r.number ≡ Some f → accepts_payload f.label f.kind r.payload ≡ true → is_known_record fs r ≡ true
known fs r f e s = ap (λ o. unwrap_or (option_map (λ f. accepts_payload f.label f.kind r.payload) o) false) e ∙ s

both : (b : Bool) → b ≡ true → b ≡ false → ⊥
both b t f = (let e : true ≡ false = sym t ∙ f in cc)

some-same : (f g : Field) (o : Option Field) → o ≡ Some f → o ≡ Some g → f ≡ g
some-same f g o a b = (let e : Some f ≡ Some g = sym a ∙ b in cc)

mutual
  pub reads-same : Law → {T : Table} {room : ℕ} {fs : List Field} {bytes : List ℕ} {at : ℕ} {t u : Node} → IsRawMessage T room fs bytes at t → IsRawMessage T room fs bytes at u → t ≡ u
  reads-same law (read_end a b) (read_end c d) = b ∙ sym d
  reads-same law {bytes = bytes} {at = at} (read_end a b) (read_other r here other g) = absurd (let h = record-ahead bytes at r here in omega (arith, h, a))
  reads-same law {bytes = bytes} {at = at} (read_end a b) (read_known r f c rest here at_f holds is g) = absurd (let h = record-ahead bytes at r here in omega (arith, h, a))
  reads-same law {bytes = bytes} {at = at} (read_other r here other g) (read_end a b) = absurd (let h = record-ahead bytes at r here in omega (arith, h, a))
  reads-same law {T} {room} {fs} {bytes} {at} {t} {u} (read_other r here other g) (read_other r' here' other' g') =
      let same = law.one_record bytes at r r' here here' in
      let P : Record → Type 0 = λ x. IsRawMessage T room fs bytes x.next u in
      reads-same law g (subst P (sym same) g')
  reads-same law {T} {room} {fs} {bytes} {at} {t} {u} (read_other r here other g) (read_known r' f c rest here' at_f holds is g') =
      let same = law.one_record bytes at r r' here here' in
      absurd (both (is_known_record fs r') (known fs r' f at_f (holds-suits holds)) (sym (ap (is_known_record fs) same) ∙ other))
  reads-same law {bytes = bytes} {at = at} (read_known r f c rest here at_f holds is g) (read_end a b) = absurd (let h = record-ahead bytes at r here in omega (arith, h, a))
  reads-same law {T} {room} {fs} {bytes} {at} {t} {u} (read_known r f c rest here at_f holds is g) (read_other r' here' other' g') =
      let same = law.one_record bytes at r r' here here' in
      absurd (both (is_known_record fs r) (known fs r f at_f (holds-suits holds)) (ap (is_known_record fs) same ∙ other'))
  reads-same law {T} {room} {fs} {bytes} {at} {t} {u} (read_known r f c rest here at_f holds is g) (read_known r' f' c' rest' here' at_f' holds' is' g') =
      let same : r' ≡ r = law.one_record bytes at r' r here' here in
      let N : Record → Type 0 = λ x. IsRawMessage T room fs bytes x.next rest' in
      let F : Record → Type 0 = λ x. field_at fs x.number ≡ Some f' in
      let H : Record → Type 0 = λ x. IsContentUnder T room f'.label f'.kind bytes x.payload c' in
      let G : Field → Type 0 = λ x. IsContentUnder T room x.label x.kind bytes r.payload c' in
      let one_field : f' ≡ f = some-same f' f (field_at fs r.number) (subst F same at_f') at_f in
      let contents = holds-same law holds (subst G one_field (subst H same holds')) in
      let rests = reads-same law g (subst N same g') in
      is ∙ ap (λ x. field r.number x rest) contents ∙ ap (field r.number c') rests ∙ ap (λ x. field x.number c' rest') (sym same) ∙ sym is'

  holds-same : Law → {T : Table} {room : ℕ} {label : Label} {k : Kind} {bytes : List ℕ} {p : Payload} {c d : Content}
      → IsContentUnder T room label k bytes p c → IsContentUnder T room label k bytes p d → c ≡ d
  holds-same law (holds_number single numeric typed is) (holds_number single' numeric' typed' is') = is ∙ sym is'
  holds-same law {k = k} {bytes = bytes} (holds_piece s e ws packed at whole is) (holds_piece s' e' ws' packed' at' whole' is') =
      let same : Len s' e' ≡ Len s e = sym at' ∙ at in
      let starts : s' ≡ s = cc in
      let ends : e' ≡ e = cc in
      let P : ℕ → Type 0 = λ x. AreElements k (take e' bytes) x ws' in
      let Q : ℕ → Type 0 = λ x. AreElements k (take x bytes) s ws' in
      let words = elements-same law k (take e bytes) s ws ws' whole (subst Q ends (subst P starts whole')) in
      is ∙ ap (λ x. many (numbers x)) words ∙ sym is'
  holds-same law {bytes = bytes} (holds_text s e single kind at utf8 is) (holds_text s' e' single' kind' at' utf8' is') =
      let same : Len s e ≡ Len s' e' = sym at ∙ at' in
      let starts : s ≡ s' = cc in
      let ends : e ≡ e' = cc in
      is ∙ ap (λ x. one (run (slice_range bytes x e))) starts ∙ ap (λ x. one (run (slice_range bytes s' x))) ends ∙ sym is'
  holds-same law {bytes = bytes} (holds_octets s e single kind at is) (holds_octets s' e' single' kind' at' is') =
      let same : Len s e ≡ Len s' e' = sym at ∙ at' in
      let starts : s ≡ s' = cc in
      let ends : e ≡ e' = cc in
      is ∙ ap (λ x. one (run (slice_range bytes x e))) starts ∙ ap (λ x. one (run (slice_range bytes s' x))) ends ∙ sym is'
  holds-same law {T} {room} {label} {k} {bytes} {p} {c} {d}
      (holds_message inside i s e t single kind at room_is reads is)
      (holds_message inside' i' s' e' t' single' kind' at' room_is' reads' is') =
      let same : Len s' e' ≡ Len s e = sym at' ∙ at in
      let starts : s' ≡ s = cc in
      let ends : e' ≡ e = cc in
      let messages : OfMessage i' ≡ OfMessage i = sym kind' ∙ kind in
      let place : i' ≡ i = cc in
      let rooms : inside' ≡ inside = (let h : suc inside' ≡ suc inside = sym room_is' ∙ room_is in omega (arith, h)) in
      let A : ℕ → Type 0 = λ x. IsRawMessage T x (fields_of T i') (take e' bytes) s' t' in
      let B : ℕ → Type 0 = λ x. IsRawMessage T inside (fields_of T x) (take e' bytes) s' t' in
      let C : ℕ → Type 0 = λ x. IsRawMessage T inside (fields_of T i) (take x bytes) s' t' in
      let D : ℕ → Type 0 = λ x. IsRawMessage T inside (fields_of T i) (take e bytes) x t' in
      let trees = reads-same law reads (subst D starts (subst C ends (subst B place (subst A rooms reads')))) in
      is ∙ ap (λ x. one (node x)) trees ∙ sym is'
  holds-same law {T} {room} {label} {k} {bytes} {p} {c} {d} (holds_entry key s e t map at reads room_is is) (holds_entry key' s' e' t' map' at' reads' room_is' is') =
      let same : Len s' e' ≡ Len s e = sym at' ∙ at in
      let starts : s' ≡ s = cc in
      let ends : e' ≡ e = cc in
      let maps : Map key' ≡ Map key = sym map' ∙ map in
      let keys : key' ≡ key = cc in
      let B : Kind → Type 0 = λ x. IsRawMessage T room (entry_fields x k) (take e' bytes) s' t' in
      let C : ℕ → Type 0 = λ x. IsRawMessage T room (entry_fields key k) (take x bytes) s' t' in
      let D : ℕ → Type 0 = λ x. IsRawMessage T room (entry_fields key k) (take e bytes) x t' in
      let trees = reads-same law reads (subst D starts (subst C ends (subst B keys reads'))) in
      is ∙ ap (λ x. one (node x)) trees ∙ sym is'
  holds-same law a b = absurd (let h : index a ≡ index b = sym (index-class a) ∙ index-class b in omega (arith, h))

-- a single number, and bytes, have no fault of their own
fail-kinds : {T : Table} {room : ℕ} {label : Label} {k : Kind} {bytes : List ℕ} {p : Payload} {reason
    : DecodeReason} {place : ℕ} (h : IsPayloadFault T room label k bytes p reason place)
    → (0 < fail_index h) × (fail_index h ≢ 3)
fail-kinds (no_elements e packed at is none) = (omega arith, λ e. omega (arith, e))
fail-kinds (no_text e single kind at is none) = (omega arith, λ e. omega (arith, e))
fail-kinds (too_deep i e single kind at room is) = (omega arith, λ e. omega (arith, e))
fail-kinds (in_message inside i s e single kind at room faults) = (omega arith, λ e. omega (arith, e))
fail-kinds (in_entry key s e map at faults) = (omega arith, λ e. omega (arith, e))
fail-kinds (no_room key e t map at reads room is) = (omega arith, λ e. omega (arith, e))

mutual
  pub reads-faultless : Law
      → {T : Table} {room : ℕ} {fs : List Field} {bytes : List ℕ} {at : ℕ} {t : Node} {reason : DecodeReason} {place
      : ℕ} → IsRawMessage T room fs bytes at t → IsFaultReached T room fs bytes at reason place → ⊥
  reads-faultless law (read_end a b) (no_record f more fault is at_is) = omega (arith, more, a)
  reads-faultless law {bytes = bytes} {at = at} (read_end a b) (behind_other r here other g) = let h = record-ahead bytes at r here in omega (arith, h, a)
  reads-faultless law {bytes = bytes} {at = at} (read_end a b) (behind_known r f c here at_f holds g) = let h = record-ahead bytes at r here in omega (arith, h, a)
  reads-faultless law {bytes = bytes} {at = at} (read_end a b) (in_payload r f here at_f fails) = let h = record-ahead bytes at r here in omega (arith, h, a)
  reads-faultless law {bytes = bytes} {at = at} (read_other r here other g) (no_record f more fault is at_is) = law.not_both bytes at r f here fault
  reads-faultless law {T} {room} {fs} {bytes} {at} {t} {reason} {place} (read_other r here other g) (behind_other r' here' other' g') =
      let P : Record → Type 0 = λ x. IsFaultReached T room fs bytes x.next reason place in
      reads-faultless law g (subst P (law.one_record bytes at r' r here' here) g')
  reads-faultless law {T} {room} {fs} {bytes} {at} (read_other r here other g) (behind_known r' f c here' at_f holds g') =
      both (is_known_record fs r') (known fs r' f at_f (holds-suits holds)) (ap (is_known_record fs) (law.one_record bytes at r' r here' here) ∙ other)
  reads-faultless law {T} {room} {fs} {bytes} {at} (read_other r here other g) (in_payload r' f here' at_f fails) =
      both (is_known_record fs r') (known fs r' f at_f (fails-suits fails)) (ap (is_known_record fs) (law.one_record bytes at r' r here' here) ∙ other)
  reads-faultless law {bytes = bytes} {at = at} (read_known r f c rest here at_f holds is g) (no_record w more fault is_w at_is) = law.not_both bytes at r w here fault
  reads-faultless law {T} {room} {fs} {bytes} {at} (read_known r f c rest here at_f holds is g) (behind_other r' here' other' g') =
      both (is_known_record fs r) (known fs r f at_f (holds-suits holds)) (ap (is_known_record fs) (law.one_record bytes at r r' here here') ∙ other')
  reads-faultless law {T} {room} {fs} {bytes} {at} {t} {reason} {place} (read_known r f c rest here at_f holds is g) (behind_known r' f' c' here' at_f' holds' g') =
      let P : Record → Type 0 = λ x. IsFaultReached T room fs bytes x.next reason place in
      reads-faultless law g (subst P (law.one_record bytes at r' r here' here) g')
  reads-faultless law {T} {room} {fs} {bytes} {at} {t} {reason} {place} (read_known r f c rest here at_f holds is g) (in_payload r' f' here' at_f' fails) =
      let same : r' ≡ r = law.one_record bytes at r' r here' here in
      let F : Record → Type 0 = λ x. field_at fs x.number ≡ Some f' in
      let H : Record → Type 0 = λ x. IsPayloadFault T room f'.label f'.kind bytes x.payload reason place in
      let G : Field → Type 0 = λ x. IsPayloadFault T room x.label x.kind bytes r.payload reason place in
      let one_field : f' ≡ f = some-same f' f (field_at fs r.number) (subst F same at_f') at_f in
      holds-faultless law holds (subst G one_field (subst H same fails))

  holds-faultless : Law
      → {T : Table} {room : ℕ} {label : Label} {k : Kind} {bytes : List ℕ} {p : Payload} {c : Content} {reason
      : DecodeReason} {place : ℕ} → IsContentUnder T room label k bytes p c → IsPayloadFault T room label k bytes p reason place → ⊥
  holds-faultless law {k = k} {bytes = bytes} {place = place} (holds_piece s e ws packed at whole is) (no_elements e' packed' at' is' none) =
      let same : Len s e ≡ Len place e' = sym at ∙ at' in
      let starts : s ≡ place = cc in
      let ends : e ≡ e' = cc in
      let P : ℕ → Type 0 = λ x. AreElements k (take e bytes) x ws in
      let Q : ℕ → Type 0 = λ x. AreElements k (take x bytes) place ws in
      none ws (subst Q ends (subst P starts whole))
  holds-faultless law {bytes = bytes} {place = place} (holds_text s e single kind at utf8 is) (no_text e' single' kind' at' is' none) =
      let same : Len s e ≡ Len place e' = sym at ∙ at' in
      let starts : s ≡ place = cc in
      let ends : e ≡ e' = cc in
      let P : ℕ → Type 0 = λ x. IsUtf8 (slice_range bytes x e) in
      let Q : ℕ → Type 0 = λ x. IsUtf8 (slice_range bytes place x) in
      none (subst Q ends (subst P starts utf8))
  holds-faultless law (holds_message inside i s e t single kind at room_is reads is)
      (too_deep i' e' single' kind' at' room_is' is') = (let h : suc inside ≡ 0 = sym room_is ∙ room_is' in
      omega (arith, h))
  holds-faultless law {T} {room} {label} {k} {bytes} {p} {c} {reason} {place}
      (holds_message inside i s e t single kind at room_is reads is)
      (in_message inside' i' s' e' single' kind' at' room_is' faults') =
      let same : Len s' e' ≡ Len s e = sym at' ∙ at in
      let starts : s' ≡ s = cc in
      let ends : e' ≡ e = cc in
      let messages : OfMessage i' ≡ OfMessage i = sym kind' ∙ kind in
      let at_i : i' ≡ i = cc in
      let rooms : inside' ≡ inside = (let h : suc inside' ≡ suc inside = sym room_is' ∙ room_is in omega (arith, h)) in
      let A : ℕ → Type 0 = λ x. IsFaultReached T x (fields_of T i') (take e' bytes) s' reason place in
      let B : ℕ → Type 0 = λ x. IsFaultReached T inside (fields_of T x) (take e' bytes) s' reason place in
      let C : ℕ → Type 0 = λ x. IsFaultReached T inside (fields_of T i) (take x bytes) s' reason place in
      let D : ℕ → Type 0 = λ x. IsFaultReached T inside (fields_of T i) (take e bytes) x reason place in
      reads-faultless law reads (subst D starts (subst C ends (subst B at_i (subst A rooms faults'))))
  holds-faultless law {T} {room} {label} {k} {bytes} {p} {c} {reason} {place} (holds_entry key s e t map at reads room_is is) (in_entry key' s' e' map' at' faults') =
      let same : Len s' e' ≡ Len s e = sym at' ∙ at in
      let starts : s' ≡ s = cc in
      let ends : e' ≡ e = cc in
      let maps : Map key' ≡ Map key = sym map' ∙ map in
      let keys : key' ≡ key = cc in
      let B : Kind → Type 0 = λ x. IsFaultReached T room (entry_fields x k) (take e' bytes) s' reason place in
      let C : ℕ → Type 0 = λ x. IsFaultReached T room (entry_fields key k) (take x bytes) s' reason place in
      let D : ℕ → Type 0 = λ x. IsFaultReached T room (entry_fields key k) (take e bytes) x reason place in
      reads-faultless law reads (subst D starts (subst C ends (subst B keys faults')))
  holds-faultless law (holds_entry key s e t map at reads room_is is) (no_room key' e' t' map' at' reads' none is') = none room_is
  holds-faultless law {T} {room} {label} {k} {bytes} {p} {c} (holds_number single numeric typed is) b =
      let a : IsContentUnder T room label k bytes p c = holds_number single numeric typed is in
      let h : 0 ≡ fail_index b = sym (index-class a) ∙ fail-class b in
      let more = (fail-kinds b).0 in
      omega (arith, h, more)
  holds-faultless law {T} {room} {label} {k} {bytes} {p} {c} (holds_octets s e single kind at is) b =
      let a : IsContentUnder T room label k bytes p c = holds_octets s e single kind at is in
      (fail-kinds b).1 (sym (fail-class b) ∙ index-class a)
  holds-faultless law a b = let h : index a ≡ fail_index b = sym (index-class a) ∙ fail-class b in omega (arith, h)

-- ---- one fault

-- the payload of the record there has at most one fault
fails-at : Law → (T : Table) (room : ℕ) (fs : List Field) (bytes : List ℕ) (at : ℕ) (r r' : Record) (f f' : Field) (reason : DecodeReason) (place : ℕ)
    → IsRecordAt bytes at r → IsRecordAt bytes at r' → field_at fs r.number ≡ Some f → field_at fs r'.number ≡ Some f'
    → IsPayloadFault T room f'.label f'.kind bytes r'.payload reason place → IsPayloadFault T room f.label f.kind bytes r.payload reason place
fails-at law T room fs bytes at r r' f f' reason place here here' at_f at_f' fails =
    let same : r' ≡ r = law.one_record bytes at r' r here' here in
    let F : Record → Type 0 = λ x. field_at fs x.number ≡ Some f' in
    let H : Record → Type 0 = λ x. IsPayloadFault T room f'.label f'.kind bytes x.payload reason place in
    let G : Field → Type 0 = λ x. IsPayloadFault T room x.label x.kind bytes r.payload reason place in
    let one_field : f' ≡ f = some-same f' f (field_at fs r.number) (subst F same at_f') at_f in
    subst G one_field (subst H same fails)

-- an entry that is read has no fault
entry-faultless : Law
    → (T : Table) (room : ℕ) (label : Label) (k : Kind) (bytes : List ℕ) (p : Payload) (key key' : Kind)
    (s e s' e' : ℕ) (t : Node) (reason : DecodeReason) (place : ℕ)
    → label ≡ Map key → label ≡ Map key' → p ≡ Len s e → p ≡ Len s' e'
    → IsRawMessage T room (entry_fields key' k) (take e' bytes) s' t → IsFaultReached T room (entry_fields key k) (take e bytes) s reason place → ⊥
entry-faultless law T room label k bytes p key key' s e s' e' t reason place map map' at at' reads faults =
    let same : Len s e ≡ Len s' e' = sym at ∙ at' in
    let starts : s ≡ s' = cc in
    let ends : e ≡ e' = cc in
    let maps : Map key ≡ Map key' = sym map ∙ map' in
    let keys : key ≡ key' = cc in
    let B : Kind → Type 0 = λ x. IsFaultReached T room (entry_fields x k) (take e bytes) s reason place in
    let C : ℕ → Type 0 = λ x. IsFaultReached T room (entry_fields key' k) (take x bytes) s reason place in
    let D : ℕ → Type 0 = λ x. IsFaultReached T room (entry_fields key' k) (take e' bytes) x reason place in
    reads-faultless law reads (subst D starts (subst C ends (subst B keys faults)))

len-start : (p : Payload) (s e s' e' : ℕ) → p ≡ Len s e → p ≡ Len s' e' → s ≡ s'
len-start p s e s' e' a b = let same : Len s e ≡ Len s' e' = sym a ∙ b in cc

-- a first fault is the only one
mutual
  pub faults-same : Law → {T : Table} {room : ℕ} {fs : List Field} {bytes : List ℕ} {at : ℕ} {reason why : DecodeReason} {place there : ℕ}
      → IsFaultReached T room fs bytes at reason place → IsFaultReached T room fs bytes at why there → (reason ≡ why) × (place ≡ there)
  faults-same law {bytes = bytes} {at = at} (no_record f more fault is at_is) (no_record g more' fault' is' at_is') =
      let one : f ≡ g = law.one_fault bytes at f g fault fault' in
      (is ∙ ap (λ (x : WireFault). decode_reason_of x.reason) one ∙ sym is', at_is ∙ ap (λ (x : WireFault). x.place) one ∙ sym at_is')
  faults-same law {bytes = bytes} {at = at} (no_record f more fault is at_is) (behind_other r here other g) = absurd (law.not_both bytes at r f here fault)
  faults-same law {bytes = bytes} {at = at} (no_record f more fault is at_is) (behind_known r h c here at_f holds g) = absurd (law.not_both bytes at r f here fault)
  faults-same law {bytes = bytes} {at = at} (no_record f more fault is at_is) (in_payload r h here at_f fails) = absurd (law.not_both bytes at r f here fault)
  faults-same law {bytes = bytes} {at = at} (behind_other r here other g) (no_record f more fault is at_is) = absurd (law.not_both bytes at r f here fault)
  faults-same law {T} {room} {fs} {bytes} {at} {reason} {why} {place} {there} (behind_other r here other g) (behind_other r' here' other' g') =
      let P : Record → Type 0 = λ x. IsFaultReached T room fs bytes x.next why there in
      faults-same law g (subst P (law.one_record bytes at r' r here' here) g')
  faults-same law {T} {room} {fs} {bytes} {at} (behind_other r here other g) (behind_known r' f c here' at_f holds g') =
      absurd (both (is_known_record fs r') (known fs r' f at_f (holds-suits holds)) (ap (is_known_record fs) (law.one_record bytes at r' r here' here) ∙ other))
  faults-same law {T} {room} {fs} {bytes} {at} (behind_other r here other g) (in_payload r' f here' at_f fails) =
      absurd (both (is_known_record fs r') (known fs r' f at_f (fails-suits fails)) (ap (is_known_record fs) (law.one_record bytes at r' r here' here) ∙ other))
  faults-same law {bytes = bytes} {at = at} (behind_known r h c here at_f holds g) (no_record f more fault is at_is) = absurd (law.not_both bytes at r f here fault)
  faults-same law {T} {room} {fs} {bytes} {at} (behind_known r f c here at_f holds g) (behind_other r' here' other g') =
      absurd (both (is_known_record fs r) (known fs r f at_f (holds-suits holds)) (ap (is_known_record fs) (law.one_record bytes at r r' here here') ∙ other))
  faults-same law {T} {room} {fs} {bytes} {at} {reason} {why} {place} {there} (behind_known r f c here at_f holds g) (behind_known r' f' c' here' at_f' holds' g') =
      let P : Record → Type 0 = λ x. IsFaultReached T room fs bytes x.next why there in
      faults-same law g (subst P (law.one_record bytes at r' r here' here) g')
  faults-same law {T} {room} {fs} {bytes} {at} {reason} {why} {place} {there} (behind_known r f c here at_f holds g) (in_payload r' f' here' at_f' fails) =
      absurd (holds-faultless law holds (fails-at law T room fs bytes at r r' f f' why there here here' at_f at_f' fails))
  faults-same law {bytes = bytes} {at = at} (in_payload r h here at_f fails) (no_record f more fault is at_is) = absurd (law.not_both bytes at r f here fault)
  faults-same law {T} {room} {fs} {bytes} {at} (in_payload r f here at_f fails) (behind_other r' here' other g') =
      absurd (both (is_known_record fs r) (known fs r f at_f (fails-suits fails)) (ap (is_known_record fs) (law.one_record bytes at r r' here here') ∙ other))
  faults-same law {T} {room} {fs} {bytes} {at} {reason} {why} {place} {there} (in_payload r f here at_f fails) (behind_known r' f' c' here' at_f' holds' g') =
      absurd (holds-faultless law holds' (fails-at law T room fs bytes at r' r f' f reason place here' here at_f' at_f fails))
  faults-same law {T} {room} {fs} {bytes} {at} {reason} {why} {place} {there} (in_payload r f here at_f fails) (in_payload r' f' here' at_f' fails') =
      fails-same law fails (fails-at law T room fs bytes at r r' f f' why there here here' at_f at_f' fails')

  fails-same : Law → {T : Table} {room : ℕ} {label : Label} {k : Kind} {bytes : List ℕ} {p : Payload} {reason why : DecodeReason} {place there : ℕ}
      → IsPayloadFault T room label k bytes p reason place → IsPayloadFault T room label k bytes p why there → (reason ≡ why) × (place ≡ there)
  fails-same law {p = p} {place = s} {there = s'} (no_elements e packed at is none) (no_elements e' packed' at' is' none') = (is ∙ sym is', len-start p s e s' e' at at')
  fails-same law {p = p} {place = s} {there = s'} (no_text e single kind at is none) (no_text e' single' kind' at' is' none') = (is ∙ sym is', len-start p s e s' e' at at')
  fails-same law {p = p} {place = s} {there = s'} (too_deep i e single kind at room is) (too_deep i' e' single' kind' at' room' is') = (is ∙ sym is', len-start p s e s' e' at at')
  fails-same law (too_deep i e single kind at room_is is)
      (in_message inside i' s' e' single' kind' at' room_is' faults') =
      absurd (let h : suc inside ≡ 0 = sym room_is' ∙ room_is in omega (arith, h))
  fails-same law (in_message inside i s e single kind at room_is faults)
      (too_deep i' e' single' kind' at' room_is' is') = absurd (let h : suc inside ≡ 0 = sym room_is ∙ room_is' in
      omega (arith, h))
  fails-same law {T} {room} {label} {k} {bytes} {p} {reason} {why} {place} {there}
      (in_message inside i s e single kind at room_is faults)
      (in_message inside' i' s' e' single' kind' at' room_is' faults') =
      let same : Len s' e' ≡ Len s e = sym at' ∙ at in
      let starts : s' ≡ s = cc in
      let ends : e' ≡ e = cc in
      let messages : OfMessage i' ≡ OfMessage i = sym kind' ∙ kind in
      let at_i : i' ≡ i = cc in
      let rooms : inside' ≡ inside = (let h : suc inside' ≡ suc inside = sym room_is' ∙ room_is in omega (arith, h)) in
      let A : ℕ → Type 0 = λ x. IsFaultReached T x (fields_of T i') (take e' bytes) s' why there in
      let B : ℕ → Type 0 = λ x. IsFaultReached T inside (fields_of T x) (take e' bytes) s' why there in
      let C : ℕ → Type 0 = λ x. IsFaultReached T inside (fields_of T i) (take x bytes) s' why there in
      let D : ℕ → Type 0 = λ x. IsFaultReached T inside (fields_of T i) (take e bytes) x why there in
      faults-same law faults (subst D starts (subst C ends (subst B at_i (subst A rooms faults'))))
  fails-same law {T} {room} {label} {k} {bytes} {p} {reason} {why} {place} {there} (in_entry key s e map at faults) (in_entry key' s' e' map' at' faults') =
      let same : Len s' e' ≡ Len s e = sym at' ∙ at in
      let starts : s' ≡ s = cc in
      let ends : e' ≡ e = cc in
      let maps : Map key' ≡ Map key = sym map' ∙ map in
      let keys : key' ≡ key = cc in
      let B : Kind → Type 0 = λ x. IsFaultReached T room (entry_fields x k) (take e' bytes) s' why there in
      let C : ℕ → Type 0 = λ x. IsFaultReached T room (entry_fields key k) (take x bytes) s' why there in
      let D : ℕ → Type 0 = λ x. IsFaultReached T room (entry_fields key k) (take e bytes) x why there in
      faults-same law faults (subst D starts (subst C ends (subst B keys faults')))
  fails-same law {T} {room} {label} {k} {bytes} {p} {reason} {why} {place} {there} (in_entry key s e map at faults) (no_room key' e' t' map' at' reads' none' is') =
      absurd (entry-faultless law T room label k bytes p key key' s e there e' t' reason place map map' at at' reads' faults)
  fails-same law {T} {room} {label} {k} {bytes} {p} {reason} {why} {place} {there} (no_room key e t map at reads none is) (in_entry key' s' e' map' at' faults') =
      absurd (entry-faultless law T room label k bytes p key' key s' e' place e t why there map' map at' at reads faults')
  fails-same law {p = p} {place = s} {there = s'} (no_room key e t map at reads none is) (no_room key' e' t' map' at' reads' none' is') = (is ∙ sym is', len-start p s e s' e' at at')
  fails-same law a b = absurd (let h : fail_index a ≡ fail_index b = sym (fail-class a) ∙ fail-class b in omega (arith, h))
