-- A byte string is one list of records, or has one first fault.
use Rattle.std.proofs.Common.{◌≡◌, ℕ, zero, suc, ◌+◌, ◌%◌, ◌<◌, ◌≤◌, ◌⊎◌, List, [], ◌∷◌, length, refl, ap, sym, subst}
use Rattle.std.proofs.Common.{◌∙◌, arith, inl, inr, ⊎_elim}
use Rattle.std.proofs.lemmas.Bool.{cases_lt}
use Rattle.wire_base.specs.Records.{IsRecordAt, AreRecordsFrom, IsWireFaultAfter, AreRecords, HasFirstFault}
use Rattle.wire_base.specs.declared.records.Record.{Record}
use Rattle.wire_base.specs.declared.fault.WireFault.{WireFault}
use Rattle.wire_base.proofs.OneReading.{VarintAt-moves, PayloadAt-ahead, PayloadAt-within, RecordAt-same, RecordAt-no_fault, FaultAt-same}
use Rattle.wire_base.proofs.Choices.{record-or}

-- a record ends after its start, and within the bytes
record-ahead : (bytes : List ℕ) (at : ℕ) (r : Record) → IsRecordAt bytes at r → at < r.next
record-ahead bytes at r h =
    let a = PayloadAt-ahead bytes h.start (h.tag % 8) r.payload r.next h.payload in
    let m = VarintAt-moves h.tagged.stands in
    omega (arith, a, m)

record-within : (bytes : List ℕ) (at : ℕ) (r : Record) → IsRecordAt bytes at r → r.next ≤ length bytes
record-within bytes at r h = PayloadAt-within bytes h.start (h.tag % 8) r.payload r.next h.payload

no_record-end : (bytes : List ℕ) (at : ℕ) (r : Record) → at ≡ length bytes → IsRecordAt bytes at r → ⊥
no_record-end bytes at r ends h = omega (arith, ends, record-ahead bytes at r h, record-within bytes at r h)

abbrev ListOr : List ℕ → ℕ → Type 0
ListOr bytes at = ((rs : List Record) × AreRecordsFrom bytes at rs) ⊎ ((f : WireFault) × (before : List Record) × IsWireFaultAfter bytes at before f)

list-or : (left : ℕ) (bytes : List ℕ) (at : ℕ) → at ≤ length bytes → length bytes ≤ at + left → ListOr bytes at
list-or zero bytes at within few = inl ([], let e : at ≡ length bytes = omega (arith, within, few) in e)
list-or (suc left) bytes at within few =
    ⊎_elim
    (λ more.
    ⊎_elim
    (λ h.
    let ahead = record-ahead bytes at h.0 h.1 in
    ⊎_elim
    (λ rest. inl (h.0 ∷ rest.0, (h.1, rest.1)))
    (λ fault. inr (fault.0, h.0 ∷ fault.1, (h.1, fault.2)))
    (list-or left bytes h.0.next (record-within bytes at h.0 h.1) (omega (arith, ahead, few))))
    (λ f. inr (f.0, [], (more, f.1)))
    (record-or bytes at within))
    (λ past. inl ([], let e : at ≡ length bytes = omega (arith, within, past) in e))
    (cases_lt at (length bytes))

pub records-or : (bytes : List ℕ) → ((rs : List Record) × AreRecords bytes rs) ⊎ ((f : WireFault) × HasFirstFault bytes f)
records-or bytes =
    ⊎_elim (λ h. inl h) (λ h. inr (h.0, record { before = h.1; first = h.2 })) (list-or (length bytes) bytes 0 (omega arith) (omega arith))

pub list-faultless : (bytes : List ℕ) (at : ℕ) (rs before : List Record) (f : WireFault) → AreRecordsFrom bytes at rs → IsWireFaultAfter bytes at before f → ⊥
list-faultless bytes at [] [] f h g = omega (arith, h, g.0)
list-faultless bytes at [] (s ∷ ss) f h g = no_record-end bytes at s h g.0
list-faultless bytes at (r ∷ rs) [] f h g = RecordAt-no_fault bytes at r f h.0 g.1
list-faultless bytes at (r ∷ rs) (s ∷ ss) f h g =
    let P : Record → Type 0 = λ x. IsWireFaultAfter bytes x.next ss f in
    list-faultless bytes r.next rs ss f h.1 (subst P (RecordAt-same bytes at s r g.0 h.0) g.1)

pub list-same : (bytes : List ℕ) (at : ℕ) (rs ss : List Record) → AreRecordsFrom bytes at rs → AreRecordsFrom bytes at ss → rs ≡ ss
list-same bytes at [] [] h g = refl
list-same bytes at [] (s ∷ ss) h g = absurd (no_record-end bytes at s h g.0)
list-same bytes at (r ∷ rs) [] h g = absurd (no_record-end bytes at r g h.0)
list-same bytes at (r ∷ rs) (s ∷ ss) h g =
    let same = RecordAt-same bytes at s r g.0 h.0 in
    let P : Record → Type 0 = λ x. AreRecordsFrom bytes x.next ss in
    ap (λ x. r ∷ x) (list-same bytes r.next rs ss h.1 (subst P same g.1)) ∙ ap (λ x. x ∷ ss) (sym same)

pub first-same : (bytes : List ℕ) (at : ℕ) (rs ss : List Record) (f g : WireFault) → IsWireFaultAfter bytes at rs f → IsWireFaultAfter bytes at ss g → f ≡ g
first-same bytes at [] [] f g h k = FaultAt-same bytes at f g h.1 k.1
first-same bytes at [] (s ∷ ss) f g h k = absurd (RecordAt-no_fault bytes at s f k.0 h.1)
first-same bytes at (r ∷ rs) [] f g h k = absurd (RecordAt-no_fault bytes at r g h.0 k.1)
first-same bytes at (r ∷ rs) (s ∷ ss) f g h k =
    let P : Record → Type 0 = λ x. IsWireFaultAfter bytes x.next ss g in
    first-same bytes r.next rs ss f g h.1 (subst P (RecordAt-same bytes at s r k.0 h.0) k.1)
