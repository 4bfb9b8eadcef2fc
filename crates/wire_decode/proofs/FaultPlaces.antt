-- The offset of a fault is within the bytes.
use Rattle.std.proofs.Common.{ℕ, ◌≤◌, List, length, take, subst, arith}
use Rattle.std.proofs.lemmas.List.{length-take}
use Rattle.mrpc_table.specs.declared.table.Kind.{Kind}
use Rattle.mrpc_table.specs.declared.table.Label.{Label}
use Rattle.mrpc_table.specs.declared.table.Field.{Field}
use Rattle.mrpc_table.specs.declared.table.Table.{Table}
use Rattle.wire_base.specs.Records.{IsWireFaultAt, no_tag, tag_range, number_zero, wire_type, no_payload, IsWithin}
use Rattle.wire_base.specs.declared.records.Payload.{Payload}
use Rattle.wire_base.specs.declared.fault.WireFault.{WireFault}
use Rattle.wire_decode.proofs.Payloads.{PayloadAt-span}
use Rattle.wire_decode.specs.declared.fault.DecodeReason.{DecodeReason}
use Rattle.wire_decode.specs.FaultWalk.{IsFaultReached, no_record, behind_other, behind_known, in_payload, IsPayloadFault, no_elements, no_text, too_deep, in_message, in_entry, no_room}

-- the fault of a record is where bytes are read, or directly after a tag
wire_place : (bytes : List ℕ) (at : ℕ) (f : WireFault) → at ≤ length bytes → IsWireFaultAt bytes at f → f.place ≤ length bytes
wire_place bytes at f h (no_tag p _) = omega (arith, h, p)
wire_place bytes at f h (tag_range tag start p _ _ _) = omega (arith, h, p)
wire_place bytes at f h (number_zero tag start p _ _ _ _) = omega (arith, h, p)
wire_place bytes at f h (wire_type tag start p _ _ _) = omega (arith, h, p)
wire_place bytes at f h (no_payload tag start p t _) = let w = t.stands.within in omega (arith, w, p)

-- an offset within a prefix of the bytes is within the bytes
within-take : (bytes : List ℕ) (end place : ℕ) → place ≤ length (take end bytes) → place ≤ length bytes
within-take bytes end place h = omega (arith, h, length-take end bytes)

-- a range within the bytes starts within the prefix that ends with it
mutual
  faults_place : {T : Table} {room : ℕ} {fs : List Field} {bytes : List ℕ} {at : ℕ} {reason : DecodeReason} {place : ℕ}
      → IsFaultReached T room fs bytes at reason place → place ≤ length bytes
  faults_place (no_record f below fault r p) = let w = wire_place _ _ f (omega (arith, below)) fault in omega (arith, w, p)
  faults_place (behind_other r stands unknown rest) = faults_place rest
  faults_place (behind_known r f c stands known holds rest) = faults_place rest
  faults_place (in_payload r f stands known fails) = fails_place (PayloadAt-span _ _ _ _ _ stands.payload) fails

  fails_place : {T : Table} {room : ℕ} {label : Label} {k : Kind} {bytes : List ℕ} {p : Payload} {reason : DecodeReason} {place : ℕ}
      → IsWithin (length bytes) p → IsPayloadFault T room label k bytes p reason place → place ≤ length bytes
  fails_place w (no_elements end _ p _ _) = let v = subst (IsWithin _) p w in omega (arith, v.0, v.1)
  fails_place w (no_text end _ _ p _ _) = let v = subst (IsWithin _) p w in omega (arith, v.0, v.1)
  fails_place w (too_deep i end _ _ p _ _) = let v = subst (IsWithin _) p w in omega (arith, v.0, v.1)
  fails_place w (in_message inside i start end _ _ _ _ inner) = within-take _ end _ (faults_place inner)
  fails_place w (in_entry key start end _ _ inner) = within-take _ end _ (faults_place inner)
  fails_place w (no_room key end t _ p _ _ _) = let v = subst (IsWithin _) p w in omega (arith, v.0, v.1)

pub fault-within : {T : Table} {room : ℕ} {fs : List Field} {bytes : List ℕ} {at : ℕ} {reason : DecodeReason} {place : ℕ}
    → IsFaultReached T room fs bytes at reason place → place ≤ length bytes
fault-within = faults_place
