-- At an offset there is at most one varint or fault, and at most one record or fault.
use Rattle.std.proofs.Common.{◌≡◌, ℕ, ◌+◌, ◌-◌, ◌/◌, ◌%◌, ◌^◌, ◌<◌, ◌≤◌, ◌⊎◌, List, [], ◌∷◌, ◌++◌, length, take, drop}
use Rattle.std.proofs.Common.{All, Result, Ok, Err, refl, ap, sym, subst, ◌∙◌, arith, inl, inr, ⊎_elim}
use Rattle.std.specs.List.{slice_range}
use Rattle.std.specs.Int.{w32, w64, from_le_bytes}
use Rattle.std.specs.Result.{IfOk, IfErr}
use Rattle.std.proofs.lemmas.Bool.{cases_lt}
use Rattle.std.proofs.lemmas.List.{take-take}
use Rattle.std.proofs.lemmas.List.Elements.{All-head, All-tail, All-take}
use Rattle.std.proofs.lemmas.List.Folds.{drop_split}
use Rattle.wire_base.specs.Records.{HasVarintForm, group_sum, IsVarintAt, HasNoVarintAt, IsPayloadAt, IsRecordAt, IsWithin}
use Rattle.wire_base.specs.Records.{IsWireType, HasNoPayloadAt, no_varint, no_length, short_i64, short_i32, short_len}
use Rattle.wire_base.specs.Records.{IsWireFaultAt, no_tag, tag_range, number_zero, wire_type, no_payload}
use Rattle.wire_base.specs.declared.records.Payload.{Payload}
use Rattle.wire_base.specs.declared.records.Payload.TheVariants.{Varint, I64, I32, Len}
use Rattle.wire_base.specs.declared.records.Record.{Record}
use Rattle.wire_base.specs.declared.fault.WireReason.{WireReason}
use Rattle.wire_base.specs.declared.fault.WireReason.TheVariants.{Varint as NoVarint, TagRange, NumberZero, WireType, Short}
use Rattle.wire_base.specs.declared.fault.WireFault.{WireFault}
use Rattle.wire_base.proofs.Varints.{length-slice_range}

-- no varint is a proper prefix of another
pub same_front : (a b x y : List ℕ) → HasVarintForm a → HasVarintForm b → a ++ x ≡ b ++ y → a ≡ b
same_front [] b x y f g e = absurd f
same_front (c ∷ cs) [] x y f g e = absurd g
same_front (c ∷ []) (d ∷ []) x y f g e = cc
same_front (c ∷ []) (d ∷ d' ∷ bs) x y f g e = let h : c ≡ d = cc in absurd (omega (arith, h, f, g.0))
same_front (c ∷ c' ∷ cs) (d ∷ []) x y f g e = let h : c ≡ d = cc in absurd (omega (arith, h, f.0, g))
same_front (c ∷ c' ∷ cs) (d ∷ d' ∷ bs) x y f g e =
    let rest : (c' ∷ cs) ++ x ≡ (d' ∷ bs) ++ y = cc in
    let same = same_front (c' ∷ cs) (d' ∷ bs) x y f.1 g.1 rest in
    cc

-- the last byte of a varint doesn't have the top bit set
pub form_ends : (a : List ℕ) → HasVarintForm a → All (λ b. 128 ≤ b) a → ⊥
form_ends [] f top = f
form_ends (c ∷ []) f top = let h = All-head (λ b. 128 ≤ b) c [] top in omega (arith, h, f)
form_ends (c ∷ d ∷ bs) f top = form_ends (d ∷ bs) f.1 (All-tail (λ b. 128 ≤ b) c (d ∷ bs) top)

-- a varint has a byte
pub VarintAt-moves : {bytes : List ℕ} {at v next : ℕ} → IsVarintAt bytes at v next → at < next
VarintAt-moves {bytes} {at} {v} {next} here =
    ⊎_elim (λ less. less) (λ past.
    let none : slice_range bytes at next ≡ [] = ap (λ n. take n (drop at bytes)) (let e : next - at ≡ 0 = omega arith in e) in
    absurd (let form : HasVarintForm [] = rw none at here.spelled.form in form)) (cases_lt at next)

pub VarintAt-same : {bytes : List ℕ} {at v m w n : ℕ} → IsVarintAt bytes at v m → IsVarintAt bytes at w n → (v ≡ w) × (m ≡ n)
VarintAt-same {bytes} {at} {v} {m} {w} {n} a b =
    let to_m = VarintAt-moves a in
    let to_n = VarintAt-moves b in
    let same : slice_range bytes at m ≡ slice_range bytes at n =
    same_front (slice_range bytes at m) (slice_range bytes at n) (drop m bytes) (drop n bytes) a.spelled.form
    b.spelled.form (sym (drop_split bytes at m (omega arith)) ∙ drop_split bytes at n (omega arith)) in
    let within_m = a.within in
    let within_n = b.within in (
      a.spelled.value ∙ ap (λ s. group_sum s % 2 ^ 64) same ∙ sym b.spelled.value,
      omega (arith, length-slice_range bytes at m (omega arith) within_m, length-slice_range bytes at n (omega arith) within_n, ap length same),
    )

-- if there is a varint, there is no fault
pub VarintAt-no_fault : {bytes : List ℕ} {at v next : ℕ} (reason : WireReason) → IsVarintAt bytes at v next → HasNoVarintAt bytes at reason → ⊥
VarintAt-no_fault {bytes} {at} {v} {next} NoVarint here fault =
    let long = length-slice_range bytes at next (let e = VarintAt-moves here in omega arith) here.within in
    let short = here.spelled.short in
    let part : take (next - at) (slice_range bytes at (at + 10)) ≡ slice_range bytes at next = take-take (next - at) (at + 10 - at) (drop at bytes) (omega (arith, long, short)) in
    form_ends (slice_range bytes at next) here.spelled.form
    (let top : All (λ b. 128 ≤ b) (take (next - at) (slice_range bytes at (at + 10))) =
    All-take (λ b. 128 ≤ b) (next - at) (slice_range bytes at (at + 10)) fault.top in rw part at top)
VarintAt-no_fault {bytes} {at} {v} {next} Short here fault =
    form_ends (slice_range bytes at next) here.spelled.form (All-take (λ b. 128 ≤ b) (next - at) (drop at bytes) fault.top)
VarintAt-no_fault TagRange here fault = fault
VarintAt-no_fault NumberZero here fault = fault
VarintAt-no_fault WireType here fault = fault

-- the fault of a varint has one reason
pub NoVarintAt-same : (bytes : List ℕ) (at : ℕ) (r s : WireReason) → HasNoVarintAt bytes at r → HasNoVarintAt bytes at s → r ≡ s
NoVarintAt-same bytes at NoVarint NoVarint f g = refl
NoVarintAt-same bytes at Short Short f g = refl
NoVarintAt-same bytes at NoVarint Short f g = let a = f.ten in let b = g.fewer in absurd (omega arith)
NoVarintAt-same bytes at Short NoVarint f g = let a = g.ten in let b = f.fewer in absurd (omega arith)
NoVarintAt-same bytes at TagRange s f g = absurd f
NoVarintAt-same bytes at NumberZero s f g = absurd f
NoVarintAt-same bytes at WireType s f g = absurd f
NoVarintAt-same bytes at NoVarint TagRange f g = absurd g
NoVarintAt-same bytes at NoVarint NumberZero f g = absurd g
NoVarintAt-same bytes at NoVarint WireType f g = absurd g
NoVarintAt-same bytes at Short TagRange f g = absurd g
NoVarintAt-same bytes at Short NumberZero f g = absurd g
NoVarintAt-same bytes at Short WireType f g = absurd g

-- there is at most one payload of a wire type at an offset
pub PayloadAt-same : (bytes : List ℕ) (at w : ℕ) (p q : Payload) (m n : ℕ) → IsPayloadAt bytes at w p m → IsPayloadAt bytes at w q n → (p ≡ q) × (m ≡ n)
PayloadAt-same bytes at w (Varint v) (Varint u) m n a b = let e = VarintAt-same a.1 b.1 in (ap Varint e.0, e.1)
PayloadAt-same bytes at w (I64 v) (I64 u) m n a b = let e : m ≡ n = a.1 ∙ sym b.1 in (ap I64 (a.3 ∙ ap (λ k. from_le_bytes w64 (slice_range bytes at k)) e ∙ sym b.3), e)
PayloadAt-same bytes at w (I32 v) (I32 u) m n a b = let e : m ≡ n = a.1 ∙ sym b.1 in (ap I32 (a.3 ∙ ap (λ k. from_le_bytes w32 (slice_range bytes at k)) e ∙ sym b.3), e)
PayloadAt-same bytes at w (Len s e) (Len s' e') m n a b =
    let same = VarintAt-same a.2 b.2 in
    let ends : e ≡ e' = omega (arith, a.3, b.3, same.0, same.1) in
    (ap (λ k. Len k e) same.1 ∙ ap (Len s') ends, a.5 ∙ ends ∙ sym b.5)
PayloadAt-same bytes at w (Varint v) (I64 u) m n a b = absurd (omega (arith, a.0, b.0))
PayloadAt-same bytes at w (Varint v) (I32 u) m n a b = absurd (omega (arith, a.0, b.0))
PayloadAt-same bytes at w (Varint v) (Len s' e') m n a b = absurd (omega (arith, a.0, b.0))
PayloadAt-same bytes at w (I64 v) (Varint u) m n a b = absurd (omega (arith, a.0, b.0))
PayloadAt-same bytes at w (I64 v) (I32 u) m n a b = absurd (omega (arith, a.0, b.0))
PayloadAt-same bytes at w (I64 v) (Len s' e') m n a b = absurd (omega (arith, a.0, b.0))
PayloadAt-same bytes at w (I32 v) (Varint u) m n a b = absurd (omega (arith, a.0, b.0))
PayloadAt-same bytes at w (I32 v) (I64 u) m n a b = absurd (omega (arith, a.0, b.0))
PayloadAt-same bytes at w (I32 v) (Len s' e') m n a b = absurd (omega (arith, a.0, b.0))
PayloadAt-same bytes at w (Len s e) (Varint u) m n a b = absurd (omega (arith, a.0, b.0))
PayloadAt-same bytes at w (Len s e) (I64 u) m n a b = absurd (omega (arith, a.0, b.0))
PayloadAt-same bytes at w (Len s e) (I32 u) m n a b = absurd (omega (arith, a.0, b.0))

-- the wire types whose payload starts with a varint
abbrev IsVarintType : ℕ → Type 0
IsVarintType w = (w ≡ 0) ⊎ (w ≡ 2)

-- the payload has no varint, or is too short after it
pub NoPayloadAt-cases : {bytes : List ℕ} {at w : ℕ} {reason : WireReason} → HasNoPayloadAt bytes at w reason
    → (IsVarintType w × HasNoVarintAt bytes at reason) ⊎ ((reason ≡ Short) × ((s : WireReason) → HasNoVarintAt bytes at s
    → IsVarintType w → ⊥))
NoPayloadAt-cases (no_varint e f) = inl (inl e, f)
NoPayloadAt-cases (no_length e f) = inl (inr e, f)
NoPayloadAt-cases (short_i64 e r h) = inr (r, λ s f t. ⊎_elim (λ z. omega (arith, e, z)) (λ z. omega (arith, e, z)) t)
NoPayloadAt-cases (short_i32 e r h) = inr (r, λ s f t. ⊎_elim (λ z. omega (arith, e, z)) (λ z. omega (arith, e, z)) t)
NoPayloadAt-cases (short_len n start e r v h) = inr (r, λ s f t. VarintAt-no_fault s v f)

pub NoPayloadAt-same : (bytes : List ℕ) (at w : ℕ) (r s : WireReason) → HasNoPayloadAt bytes at w r → HasNoPayloadAt bytes at w s → r ≡ s
NoPayloadAt-same bytes at w r s f g =
    ⊎_elim
    (λ a. ⊎_elim (λ b. NoVarintAt-same bytes at r s a.1 b.1) (λ b. absurd (b.1 r a.1 a.0)) (NoPayloadAt-cases g))
    (λ a. ⊎_elim (λ b. absurd (a.1 s b.1 b.0)) (λ b. a.0 ∙ sym b.0) (NoPayloadAt-cases g))
    (NoPayloadAt-cases f)

pub NoPayloadAt-known : {bytes : List ℕ} {at w : ℕ} {reason : WireReason} → HasNoPayloadAt bytes at w reason → IsWireType w
NoPayloadAt-known (no_varint e f) = inl e
NoPayloadAt-known (no_length e f) = inr (inr (inl e))
NoPayloadAt-known (short_i64 e r h) = inr (inl e)
NoPayloadAt-known (short_i32 e r h) = inr (inr (inr e))
NoPayloadAt-known (short_len n start e r v h) = inr (inr (inl e))

pub PayloadAt-known : (bytes : List ℕ) (at w : ℕ) (p : Payload) (next : ℕ) → IsPayloadAt bytes at w p next → IsWireType w
PayloadAt-known bytes at w (Varint v) next a = inl a.0
PayloadAt-known bytes at w (I64 v) next a = inr (inl a.0)
PayloadAt-known bytes at w (I32 v) next a = inr (inr (inr a.0))
PayloadAt-known bytes at w (Len s e) next a = inr (inr (inl a.0))

-- if there is a payload, there is no fault
pub PayloadAt-no_fault : (bytes : List ℕ) (at w : ℕ) (p : Payload) (next : ℕ) (reason : WireReason) → IsPayloadAt bytes at w p next → HasNoPayloadAt bytes at w reason → ⊥
PayloadAt-no_fault bytes at w (Varint v) next reason a (no_varint e f) = VarintAt-no_fault reason a.1 f
PayloadAt-no_fault bytes at w (Varint v) next reason a (no_length e f) = omega (arith, a.0, e)
PayloadAt-no_fault bytes at w (Varint v) next reason a (short_i64 e r h) = omega (arith, a.0, e)
PayloadAt-no_fault bytes at w (Varint v) next reason a (short_i32 e r h) = omega (arith, a.0, e)
PayloadAt-no_fault bytes at w (Varint v) next reason a (short_len n start e r v' h) = omega (arith, a.0, e)
PayloadAt-no_fault bytes at w (I64 v) next reason a (no_varint e f) = omega (arith, a.0, e)
PayloadAt-no_fault bytes at w (I64 v) next reason a (no_length e f) = omega (arith, a.0, e)
PayloadAt-no_fault bytes at w (I64 v) next reason a (short_i64 e r h) = omega (arith, a.1, a.2, h)
PayloadAt-no_fault bytes at w (I64 v) next reason a (short_i32 e r h) = omega (arith, a.0, e)
PayloadAt-no_fault bytes at w (I64 v) next reason a (short_len n start e r v' h) = omega (arith, a.0, e)
PayloadAt-no_fault bytes at w (I32 v) next reason a (no_varint e f) = omega (arith, a.0, e)
PayloadAt-no_fault bytes at w (I32 v) next reason a (no_length e f) = omega (arith, a.0, e)
PayloadAt-no_fault bytes at w (I32 v) next reason a (short_i64 e r h) = omega (arith, a.0, e)
PayloadAt-no_fault bytes at w (I32 v) next reason a (short_i32 e r h) = omega (arith, a.1, a.2, h)
PayloadAt-no_fault bytes at w (I32 v) next reason a (short_len n start e r v' h) = omega (arith, a.0, e)
PayloadAt-no_fault bytes at w (Len s e') next reason a (no_varint e f) = omega (arith, a.0, e)
PayloadAt-no_fault bytes at w (Len s e') next reason a (no_length e f) = VarintAt-no_fault reason a.2 f
PayloadAt-no_fault bytes at w (Len s e') next reason a (short_i64 e r h) = omega (arith, a.0, e)
PayloadAt-no_fault bytes at w (Len s e') next reason a (short_i32 e r h) = omega (arith, a.0, e)
PayloadAt-no_fault bytes at w (Len s e') next reason a (short_len n start e r v' h) = let same = VarintAt-same a.2 v' in omega (arith, a.3, a.4, same.0, same.1, h)

fault_same : (f g : WireFault) → f.reason ≡ g.reason → f.place ≡ g.place → f ≡ g
fault_same f g p q = λ i. record { reason = p i; place = q i }

record_same : (r s : Record) → r.number ≡ s.number → r.payload ≡ s.payload → r.next ≡ s.next → r ≡ s
record_same r s p q e = λ i. record { number = p i; payload = q i; next = e i }

-- there is at most one record at an offset
pub RecordAt-same : (bytes : List ℕ) (at : ℕ) (r s : Record) → IsRecordAt bytes at r → IsRecordAt bytes at s → r ≡ s
RecordAt-same bytes at r s a b =
    let same = VarintAt-same a.tagged.stands b.tagged.stands in
    let other : IsPayloadAt bytes a.start (a.tag % 8) s.payload s.next =
    subst (λ (k : ℕ). IsPayloadAt bytes k (a.tag % 8) s.payload s.next) (sym same.1)
    (subst (λ (t : ℕ). IsPayloadAt bytes b.start (t % 8) s.payload s.next) (sym same.0) b.payload) in
    let payloads = PayloadAt-same bytes a.start (a.tag % 8) r.payload s.payload r.next s.next a.payload other in
    record_same r s (a.number ∙ ap (λ t. t / 8) same.0 ∙ sym b.number) payloads.0 payloads.1

-- if there is a record, there is no fault
pub RecordAt-no_fault : (bytes : List ℕ) (at : ℕ) (r : Record) (f : WireFault) → IsRecordAt bytes at r → IsWireFaultAt bytes at f → ⊥
RecordAt-no_fault bytes at r f a (no_tag p v) = VarintAt-no_fault f.reason a.tagged.stands v
RecordAt-no_fault bytes at r f a (tag_range t s p e v h) = let same = VarintAt-same a.tagged.stands v in omega (arith, a.tagged.small, same.0, h)
RecordAt-no_fault bytes at r f a (number_zero t s p e v h z) = let same = VarintAt-same a.tagged.stands v in a.tagged.numbered (ap (λ t. t / 8) same.0 ∙ z)
RecordAt-no_fault bytes at r f a (wire_type t s p e v unknown) =
    let same = VarintAt-same a.tagged.stands v.stands in
    unknown (subst (λ (t : ℕ). IsWireType (t % 8)) same.0 (PayloadAt-known bytes a.start (a.tag % 8) r.payload r.next a.payload))
RecordAt-no_fault bytes at r f a (no_payload t s p v h) =
    let same = VarintAt-same a.tagged.stands v.stands in
    let other : IsPayloadAt bytes s (t % 8) r.payload r.next =
    subst (λ (k : ℕ). IsPayloadAt bytes k (t % 8) r.payload r.next) same.1
    (subst (λ (t : ℕ). IsPayloadAt bytes a.start (t % 8) r.payload r.next) same.0 a.payload) in
    PayloadAt-no_fault bytes s (t % 8) r.payload r.next f.reason other h

-- there is at most one fault at an offset
pub FaultAt-same : (bytes : List ℕ) (at : ℕ) (f g : WireFault) → IsWireFaultAt bytes at f → IsWireFaultAt bytes at g → f ≡ g
FaultAt-same bytes at f g (no_tag p v) (no_tag p' v') = fault_same f g (NoVarintAt-same bytes at f.reason g.reason v v') (p ∙ sym p')
FaultAt-same bytes at f g (no_tag p v) (tag_range t' s' p' e' v' h') = absurd (VarintAt-no_fault f.reason v' v)
FaultAt-same bytes at f g (no_tag p v) (number_zero t' s' p' e' v' h' z') = absurd (VarintAt-no_fault f.reason v' v)
FaultAt-same bytes at f g (no_tag p v) (wire_type t' s' p' e' v' unknown') = absurd (VarintAt-no_fault f.reason v'.stands v)
FaultAt-same bytes at f g (no_tag p v) (no_payload t' s' p' v' h') = absurd (VarintAt-no_fault f.reason v'.stands v)
FaultAt-same bytes at f g (tag_range t s p e v h) (no_tag p' v') = absurd (VarintAt-no_fault g.reason v v')
FaultAt-same bytes at f g (tag_range t s p e v h) (tag_range t' s' p' e' v' h') = fault_same f g (e ∙ sym e') (p ∙ sym p')
FaultAt-same bytes at f g (tag_range t s p e v h) (number_zero t' s' p' e' v' h' z') = let same = VarintAt-same v v' in absurd (omega (arith, same.0, h, h'))
FaultAt-same bytes at f g (tag_range t s p e v h) (wire_type t' s' p' e' v' unknown') = let same = VarintAt-same v v'.stands in absurd (omega (arith, same.0, h, v'.small))
FaultAt-same bytes at f g (tag_range t s p e v h) (no_payload t' s' p' v' h') = let same = VarintAt-same v v'.stands in absurd (omega (arith, same.0, h, v'.small))
FaultAt-same bytes at f g (number_zero t s p e v h z) (no_tag p' v') = absurd (VarintAt-no_fault g.reason v v')
FaultAt-same bytes at f g (number_zero t s p e v h z) (tag_range t' s' p' e' v' h') = let same = VarintAt-same v v' in absurd (omega (arith, same.0, h, h'))
FaultAt-same bytes at f g (number_zero t s p e v h z) (number_zero t' s' p' e' v' h' z') = fault_same f g (e ∙ sym e') (p ∙ sym p')
FaultAt-same bytes at f g (number_zero t s p e v h z) (wire_type t' s' p' e' v' unknown') = let same = VarintAt-same v v'.stands in absurd (v'.numbered (ap (λ t. t / 8) (sym same.0) ∙ z))
FaultAt-same bytes at f g (number_zero t s p e v h z) (no_payload t' s' p' v' h') = let same = VarintAt-same v v'.stands in absurd (v'.numbered (ap (λ t. t / 8) (sym same.0) ∙ z))
FaultAt-same bytes at f g (wire_type t s p e v unknown) (no_tag p' v') = absurd (VarintAt-no_fault g.reason v.stands v')
FaultAt-same bytes at f g (wire_type t s p e v unknown) (tag_range t' s' p' e' v' h') = let same = VarintAt-same v.stands v' in absurd (omega (arith, same.0, v.small, h'))
FaultAt-same bytes at f g (wire_type t s p e v unknown) (number_zero t' s' p' e' v' h' z') = let same = VarintAt-same v.stands v' in absurd (v.numbered (ap (λ t. t / 8) same.0 ∙ z'))
FaultAt-same bytes at f g (wire_type t s p e v unknown) (wire_type t' s' p' e' v' unknown') = fault_same f g (e ∙ sym e') (p ∙ sym p')
FaultAt-same bytes at f g (wire_type t s p e v unknown) (no_payload t' s' p' v' h') = let same =
    VarintAt-same v.stands v'.stands in
    absurd (unknown (subst (λ (t : ℕ). IsWireType (t % 8)) (sym same.0) (NoPayloadAt-known h')))
FaultAt-same bytes at f g (no_payload t s p v h) (no_tag p' v') = absurd (VarintAt-no_fault g.reason v.stands v')
FaultAt-same bytes at f g (no_payload t s p v h) (tag_range t' s' p' e' v' h') = let same = VarintAt-same v.stands v' in absurd (omega (arith, same.0, v.small, h'))
FaultAt-same bytes at f g (no_payload t s p v h) (number_zero t' s' p' e' v' h' z') = let same = VarintAt-same v.stands v' in absurd (v.numbered (ap (λ t. t / 8) same.0 ∙ z'))
FaultAt-same bytes at f g (no_payload t s p v h) (wire_type t' s' p' e' v' unknown') = let same =
    VarintAt-same v.stands v'.stands in
    absurd (unknown' (subst (λ (t : ℕ). IsWireType (t % 8)) same.0 (NoPayloadAt-known h)))
FaultAt-same bytes at f g (no_payload t s p v h) (no_payload t' s' p' v' h') =
    let same = VarintAt-same v.stands v'.stands in
    let other : HasNoPayloadAt bytes s (t % 8) g.reason =
    subst (λ (k : ℕ). HasNoPayloadAt bytes k (t % 8) g.reason) (sym same.1)
    (subst (λ (u : ℕ). HasNoPayloadAt bytes s' (u % 8) g.reason) (sym same.0) h') in
    fault_same f g (NoPayloadAt-same bytes s (t % 8) f.reason g.reason h other) (p ∙ same.1 ∙ sym p')

-- what was read is the only varint, or the only fault
pub varint-each : (bytes : List ℕ) (at : ℕ) (r : Result (ℕ × ℕ) WireFault) → IfOk r (λ x. IsVarintAt bytes at x.0 x.1)
    → IfErr r (λ f. (f.place ≡ at) × HasNoVarintAt bytes at f.reason) → (v next : ℕ) → IsVarintAt bytes at v next
    → r ≡ Ok (v, next)
varint-each bytes at (Ok x) found fault v next here = let same = VarintAt-same found here in ap Ok (λ i. (same.0 i, same.1 i))
varint-each bytes at (Err f) found fault v next here = absurd (VarintAt-no_fault f.reason here fault.1)

pub varint-each_fault : (bytes : List ℕ) (at : ℕ) (r : Result (ℕ × ℕ) WireFault)
    → IfOk r (λ x. IsVarintAt bytes at x.0 x.1) → IfErr r (λ f. (f.place ≡ at) × HasNoVarintAt bytes at f.reason)
    → (reason : WireReason) → HasNoVarintAt bytes at reason → r ≡ Err (record { reason = reason; place = at })
varint-each_fault bytes at (Ok x) found fault reason here = absurd (VarintAt-no_fault reason found here)
varint-each_fault bytes at (Err f) found fault reason here = ap Err (fault_same f (record { reason = reason; place = at }) (NoVarintAt-same bytes at f.reason reason fault.1 here) fault.0)

-- what was read is the only record, or the only fault
pub record-each : (bytes : List ℕ) (at : ℕ) (r : Result Record WireFault) → IfOk r (λ x. IsRecordAt bytes at x)
    → IfErr r (λ f. IsWireFaultAt bytes at f) → (s : Record) → IsRecordAt bytes at s → r ≡ Ok s
record-each bytes at (Ok x) found fault s here = ap Ok (RecordAt-same bytes at x s found here)
record-each bytes at (Err f) found fault s here = absurd (RecordAt-no_fault bytes at s f here fault)

pub record-each_fault : (bytes : List ℕ) (at : ℕ) (r : Result Record WireFault) → IfOk r (λ x. IsRecordAt bytes at x)
    → IfErr r (λ f. IsWireFaultAt bytes at f) → (g : WireFault) → IsWireFaultAt bytes at g → r ≡ Err g
record-each_fault bytes at (Ok x) found fault g here = absurd (RecordAt-no_fault bytes at x g found here)
record-each_fault bytes at (Err f) found fault g here = ap Err (FaultAt-same bytes at f g fault here)

-- a payload ends after its start, and within the bytes
pub PayloadAt-ahead : (bytes : List ℕ) (at w : ℕ) (p : Payload) (next : ℕ) → IsPayloadAt bytes at w p next → at < next
PayloadAt-ahead bytes at w (Varint v) next a = VarintAt-moves a.1
PayloadAt-ahead bytes at w (I64 v) next a = omega (arith, a.1)
PayloadAt-ahead bytes at w (I32 v) next a = omega (arith, a.1)
PayloadAt-ahead bytes at w (Len s e) next a = omega (arith, VarintAt-moves a.2, a.3, a.5)

pub PayloadAt-within : (bytes : List ℕ) (at w : ℕ) (p : Payload) (next : ℕ) → IsPayloadAt bytes at w p next → next ≤ length bytes
PayloadAt-within bytes at w (Varint v) next a = a.1.within
PayloadAt-within bytes at w (I64 v) next a = a.2
PayloadAt-within bytes at w (I32 v) next a = a.2
PayloadAt-within bytes at w (Len s e) next a = omega (arith, a.4, a.5)

pub PayloadAt-span : (bytes : List ℕ) (at w : ℕ) (p : Payload) (next : ℕ) → IsPayloadAt bytes at w p next → IsWithin (length bytes) p
PayloadAt-span bytes at w (Varint v) next a = tt
PayloadAt-span bytes at w (I64 v) next a = tt
PayloadAt-span bytes at w (I32 v) next a = tt
PayloadAt-span bytes at w (Len s e) next a = (omega (arith, a.3), a.4)
