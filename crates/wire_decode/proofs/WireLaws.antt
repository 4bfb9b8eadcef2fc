-- The laws of varints and records, as parameters of the proofs here.
use Rattle.std.proofs.Common.{◌≡◌, ℕ, ◌+◌, ◌^◌, ◌<◌, ◌≤◌, ◌⊎◌, List, ◌++◌, length}
use Rattle.wire_base.specs.Encoding.{varint}
use Rattle.wire_base.specs.Records.{IsVarintAt, IsWireType, IsPayloadAt, HasNoPayloadAt, IsRecordAt, IsWireFaultAt}
use Rattle.wire_base.specs.declared.records.Payload.{Payload}
use Rattle.wire_base.specs.declared.records.Record.{Record}
use Rattle.wire_base.specs.declared.fault.WireReason.{WireReason}
use Rattle.wire_base.specs.declared.fault.WireFault.{WireFault}

-- a varint that was written is read back
abbrev pub ReadsBack : Type 0
ReadsBack = (before after : List ℕ) (v : ℕ) → v < 2 ^ 64 → IsVarintAt (before ++ (varint v ++ after)) (length before) v (length before + length (varint v))

-- there is at most one payload of a wire type at an offset
abbrev pub OnePayload : Type 0
OnePayload = (bytes : List ℕ) (at w : ℕ) (p q : Payload) (next other : ℕ) → IsPayloadAt bytes at w p next → IsPayloadAt bytes at w q other → (p ≡ q) × (next ≡ other)

-- at an offset there is a payload or a reason, and a record or a fault, and never both
pub record Law : Type 0 where
  pub some_payload : (bytes : List ℕ) (at w : ℕ) → IsWireType w → at ≤ length bytes
      → ((p : Payload) × (next : ℕ) × IsPayloadAt bytes at w p next)
      ⊎ ((reason : WireReason) × HasNoPayloadAt bytes at w reason)
  pub no_payload : (bytes : List ℕ) (at w : ℕ) (p : Payload) (next : ℕ) (reason : WireReason) → IsPayloadAt bytes at w p next → HasNoPayloadAt bytes at w reason → ⊥
  pub one_payload : OnePayload
  pub some_record : (bytes : List ℕ) (at : ℕ) → at ≤ length bytes → ((r : Record) × IsRecordAt bytes at r) ⊎ ((f : WireFault) × IsWireFaultAt bytes at f)
  pub one_record : (bytes : List ℕ) (at : ℕ) (r s : Record) → IsRecordAt bytes at r → IsRecordAt bytes at s → r ≡ s
  pub not_both : (bytes : List ℕ) (at : ℕ) (r : Record) (f : WireFault) → IsRecordAt bytes at r → IsWireFaultAt bytes at f → ⊥
  pub one_fault : (bytes : List ℕ) (at : ℕ) (f g : WireFault) → IsWireFaultAt bytes at f → IsWireFaultAt bytes at g → f ≡ g
