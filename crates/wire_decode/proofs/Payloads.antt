-- Where payloads and records end.
use Rattle.std.proofs.Common.{◌≡◌, ℕ, ◌-◌, ◌%◌, ◌<◌, ◌≤◌, List, [], length, take, drop, ap, arith, ⊎_elim}
use Rattle.std.specs.List.{slice_range}
use Rattle.std.proofs.lemmas.Bool.{cases_lt}
use Rattle.wire_base.specs.Records.{HasVarintForm, IsVarintAt, IsPayloadAt, IsRecordAt, IsWithin}
use Rattle.wire_base.specs.declared.records.Payload.{Payload}
use Rattle.wire_base.specs.declared.records.Payload.TheVariants.{Varint, I64, I32, Len}
use Rattle.wire_base.specs.declared.records.Record.{Record}

-- a varint has a byte
pub VarintAt-moves : {bytes : List ℕ} {at v next : ℕ} → IsVarintAt bytes at v next → at < next
VarintAt-moves {bytes} {at} {v} {next} here =
    ⊎_elim (λ less. less) (λ past.
    let none : slice_range bytes at next ≡ [] = ap (λ n. take n (drop at bytes)) (let e : next - at ≡ 0 = omega arith in e) in
    absurd (let form : HasVarintForm [] = rw none at here.spelled.form in form)) (cases_lt at next)

-- a payload ends after its start, and within the bytes
pub PayloadAt-ahead : (bytes : List ℕ) (at w : ℕ) (p : Payload) (next : ℕ) → IsPayloadAt bytes at w p next → at < next
PayloadAt-ahead bytes at w (Varint v) next a = VarintAt-moves a.1
PayloadAt-ahead bytes at w (I64 v) next a = omega (arith, a.1)
PayloadAt-ahead bytes at w (I32 v) next a = omega (arith, a.1)
PayloadAt-ahead bytes at w (Len s e) next a = omega (arith, VarintAt-moves a.2, a.3, a.5)

pub PayloadAt-within : (bytes : List ℕ) (at w : ℕ) (p : Payload) (next : ℕ) → IsPayloadAt bytes at w p next → next ≤ length bytes
PayloadAt-within bytes at w (Varint v) next a = a.1.within
PayloadAt-within bytes at w (I64 v) next a = a.2
PayloadAt-within bytes at w (I32 v) next a = a.2
PayloadAt-within bytes at w (Len s e) next a = omega (arith, a.4, a.5)

pub PayloadAt-span : (bytes : List ℕ) (at w : ℕ) (p : Payload) (next : ℕ) → IsPayloadAt bytes at w p next → IsWithin (length bytes) p
PayloadAt-span bytes at w (Varint v) next a = tt
PayloadAt-span bytes at w (I64 v) next a = tt
PayloadAt-span bytes at w (I32 v) next a = tt
PayloadAt-span bytes at w (Len s e) next a = (omega (arith, a.3), a.4)

-- and so does a record
pub RecordAt-ahead : (bytes : List ℕ) (at : ℕ) (r : Record) → IsRecordAt bytes at r → at < r.next
RecordAt-ahead bytes at r h =
    let a = PayloadAt-ahead bytes h.start (h.tag % 8) r.payload r.next h.payload in
    let m = VarintAt-moves h.tagged.stands in
    omega (arith, a, m)

pub RecordAt-within : (bytes : List ℕ) (at : ℕ) (r : Record) → IsRecordAt bytes at r → r.next ≤ length bytes
RecordAt-within bytes at r h = PayloadAt-within bytes h.start (h.tag % 8) r.payload r.next h.payload
