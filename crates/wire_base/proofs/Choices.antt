-- At an offset there is a varint or a fault; likewise a payload or a fault, and a record or a fault.
use Rattle.std.proofs.Common.{◌≡◌, ◌≢◌, ℕ, suc, zero, ◌+◌, ◌-◌, ◌/◌, ◌%◌, ◌^◌, ◌<◌, ◌≤◌, ◌⊎◌, List, [], length, take}
use Rattle.std.proofs.Common.{drop, All, get_or, refl, ap, subst, arith, inl, inr, ⊎_elim}
use Rattle.std.specs.List.{slice_range}
use Rattle.std.specs.Int.{w32, w64, from_le_bytes}
use Rattle.std.proofs.lemmas.Bool.{cases_lt}
use Rattle.std.proofs.lemmas.List.{length-drop, take_all}
use Rattle.std.proofs.lemmas.List.Elements.{All-nil}
use Rattle.wire_base.specs.Records.{group_sum, IsVarintAt, HasNoVarintAt, IsPayloadAt, HasNoPayloadAt, no_varint, no_length}
use Rattle.wire_base.specs.Records.{short_i64, short_i32, short_len, IsWireType, IsTagAt, IsRecordAt, IsWireFaultAt, no_tag}
use Rattle.wire_base.specs.Records.{tag_range, number_zero, wire_type, no_payload}
use Rattle.wire_base.specs.declared.records.Payload.{Payload}
use Rattle.wire_base.specs.declared.records.Payload.TheVariants.{Varint, I64, I32, Len}
use Rattle.wire_base.specs.declared.records.Record.{Record}
use Rattle.wire_base.specs.declared.fault.WireReason.{WireReason}
use Rattle.wire_base.specs.declared.fault.WireReason.TheVariants.{Varint as NoVarint, TagRange, NumberZero, WireType, Short}
use Rattle.wire_base.specs.declared.fault.WireFault.{WireFault}
use Rattle.wire_base.proofs.Varints.{top-more, VarintAt-last}

abbrev pub VarintOr : List ℕ → ℕ → Type 0
VarintOr bytes at = ((v : ℕ) × (next : ℕ) × IsVarintAt bytes at v next) ⊎ ((reason : WireReason) × HasNoVarintAt bytes at reason)

-- after this many bytes with the top bit set, the next ones decide
scanned : (left : ℕ) (bytes : List ℕ) (at i : ℕ) → at ≤ i → i + left ≡ at + 10 → i ≤ length bytes → All (λ b. 128 ≤ b) (slice_range bytes at i) → VarintOr bytes at
scanned zero bytes at i from near within top =
    let ten : i ≡ at + 10 = omega (arith, near) in
    inr (NoVarint, record { ten = omega (arith, ten, within); top = subst (λ (k : ℕ). All (λ b. 128 ≤ b) (slice_range bytes at k)) ten top })
scanned (suc left) bytes at i from near within top =
    ⊎_elim
    (λ more.
    let b = get_or bytes i 0 in
    ⊎_elim
    (λ low. inl (group_sum (slice_range bytes at (i + 1)) % 2 ^ 64, i + 1, VarintAt-last bytes at i b _ from (omega (arith, near)) more refl low top refl))
    (λ high. scanned left bytes at (i + 1) (omega (arith, from)) (omega (arith, near)) (omega (arith, more)) (top-more bytes at i b from more refl high top))
    (cases_lt b 128))
    (λ past.
    let all : slice_range bytes at i ≡ drop at bytes = take_all (i - at) (drop at bytes) (omega (arith, past, length-drop at bytes)) in
    inr (Short, record { fewer = omega (arith, near, past, within); top = subst (All (λ b. 128 ≤ b)) all top }))
    (cases_lt i (length bytes))

pub varint-or : (bytes : List ℕ) (at : ℕ) → at ≤ length bytes → VarintOr bytes at
varint-or bytes at within =
    let none : slice_range bytes at at ≡ [] = ap (λ n. take n (drop at bytes)) (let e : at - at ≡ 0 = omega arith in e) in
    scanned 10 bytes at at (omega arith) (omega arith) within (rw none (All-nil (λ b. 128 ≤ b)))

abbrev pub PayloadOr : List ℕ → ℕ → ℕ → Type 0
PayloadOr bytes at w = ((p : Payload) × (next : ℕ) × IsPayloadAt bytes at w p next) ⊎ ((reason : WireReason) × HasNoPayloadAt bytes at w reason)

varint_payload : (bytes : List ℕ) (at w : ℕ) → w ≡ 0 → at ≤ length bytes → PayloadOr bytes at w
varint_payload bytes at w is within =
    ⊎_elim (λ h. inl (Varint h.0, h.1, (is, h.2))) (λ h. inr (h.0, no_varint is h.1)) (varint-or bytes at within)

i64_payload : (bytes : List ℕ) (at w : ℕ) → w ≡ 1 → PayloadOr bytes at w
i64_payload bytes at w is =
    ⊎_elim
    (λ short. inr (Short, short_i64 is refl short))
    (λ whole. inl (I64 (from_le_bytes w64 (slice_range bytes at (at + 8))), at + 8, (is, refl, whole, refl)))
    (cases_lt (length bytes) (at + 8))

i32_payload : (bytes : List ℕ) (at w : ℕ) → w ≡ 5 → PayloadOr bytes at w
i32_payload bytes at w is =
    ⊎_elim
    (λ short. inr (Short, short_i32 is refl short))
    (λ whole. inl (I32 (from_le_bytes w32 (slice_range bytes at (at + 4))), at + 4, (is, refl, whole, refl)))
    (cases_lt (length bytes) (at + 4))

len_payload : (bytes : List ℕ) (at w : ℕ) → w ≡ 2 → at ≤ length bytes → PayloadOr bytes at w
len_payload bytes at w is within =
    ⊎_elim
    (λ h.
    ⊎_elim
    (λ short. inr (Short, short_len h.0 h.1 is refl h.2 short))
    (λ whole. inl (Len h.1 (h.1 + h.0), h.1 + h.0, (is, h.0, h.2, refl, whole, refl)))
    (cases_lt (length bytes) (h.1 + h.0)))
    (λ h. inr (h.0, no_length is h.1))
    (varint-or bytes at within)

pub payload-or : (bytes : List ℕ) (at w : ℕ) → IsWireType w → at ≤ length bytes → PayloadOr bytes at w
payload-or bytes at w known within =
    ⊎_elim
    (λ is. varint_payload bytes at w is within)
    (⊎_elim (λ is. i64_payload bytes at w is) (⊎_elim (λ is. len_payload bytes at w is within) (λ is. i32_payload bytes at w is)))
    known

-- a wire type is known or not
abbrev TypeOr : ℕ → Type 0
TypeOr w = IsWireType w ⊎ (IsWireType w → ⊥)

type-or : (w : ℕ) → w < 8 → TypeOr w
type-or w below =
    ⊎_elim
    (λ low.
    ⊎_elim (λ l. inl (inl (let e : w ≡ 0 = omega (arith, l) in e)))
    (λ h. ⊎_elim (λ l. inl (inr (inl (let e : w ≡ 1 = omega (arith, l, h) in e)))) (λ m. inl (inr (inr (inl (let e : w ≡ 2 = omega (arith, low, m) in e))))) (cases_lt w 2))
    (cases_lt w 1))
    (λ high.
    ⊎_elim (λ l. inr (other (λ e. omega (arith, e, l, high))))
    (λ h. ⊎_elim (λ l. inl (inr (inr (inr (let e : w ≡ 5 = omega (arith, l, h) in e))))) (λ m. inr (other (λ e. omega (arith, e, m)))) (cases_lt w 6))
    (cases_lt w 5))
    (cases_lt w 3)
  where
    other : ((w < 3) ⊎ (w ≡ 5) → ⊥) → IsWireType w → ⊥
    other none known =
        ⊎_elim (λ e. none (inl (omega (arith, e)))) (⊎_elim (λ e. none (inl (omega (arith, e)))) (⊎_elim (λ e. none (inl (omega (arith, e)))) (λ e. none (inr e)))) known

abbrev pub RecordOr : List ℕ → ℕ → Type 0
RecordOr bytes at = ((r : Record) × IsRecordAt bytes at r) ⊎ ((f : WireFault) × IsWireFaultAt bytes at f)

-- after a tag with a field number and a known wire type
tagged : (bytes : List ℕ) (at tag start : ℕ) → IsTagAt bytes at tag start → IsWireType (tag % 8) → RecordOr bytes at
tagged bytes at tag start h known =
    let within = h.stands.within in
    ⊎_elim
    (λ p. inl (record { number = tag / 8; payload = p.0; next = p.1 }, record { tag = tag; start = start; tagged = h; number = refl; payload = p.2 }))
    (λ f. inr (record { reason = f.0; place = start }, no_payload tag start refl h f.1))
    (payload-or bytes start (tag % 8) known within)

pub record-or : (bytes : List ℕ) (at : ℕ) → at ≤ length bytes → RecordOr bytes at
record-or bytes at within =
    ⊎_elim
    (λ v.
    let tag = v.0 in
    let start = v.1 in
    ⊎_elim
    (λ small.
    ⊎_elim
    (λ zero_is. inr (record { reason = NumberZero; place = at }, number_zero tag start refl refl v.2 small (omega (arith, zero_is))))
    (λ numbered.
    let some : tag / 8 ≢ 0 = λ e. omega (arith, e, numbered) in
    let h : IsTagAt bytes at tag start = record { stands = v.2; small = small; numbered = some } in
    ⊎_elim
    (λ known. tagged bytes at tag start h known)
    (λ unknown. inr (record { reason = WireType; place = at }, wire_type tag start refl refl h unknown))
    (type-or (tag % 8) (omega arith)))
    (cases_lt tag 8))
    (λ large. inr (record { reason = TagRange; place = at }, tag_range tag start refl refl v.2 large))
    (cases_lt tag (2 ^ 32)))
    (λ f. inr (record { reason = f.0; place = at }, no_tag refl f.1))
    (varint-or bytes at within)
