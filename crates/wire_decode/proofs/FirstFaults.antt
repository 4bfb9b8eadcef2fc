-- The first fault, as a walk over the records reaches it, and by its definition.
use Rattle.std.proofs.Common.{◌≡◌, ℕ, ◌%◌, List, [], ◌∷◌, length, take, Some, refl, sym, subst}
use Rattle.std.specs.List.{slice_range}
use Rattle.mrpc_table.specs.Node.{Node, Content}
use Rattle.mrpc_table.specs.Normal.{fields_of, field_at}
use Rattle.mrpc_table.specs.declared.table.Kind.{Kind}
use Rattle.mrpc_table.specs.declared.table.Label.{Label}
use Rattle.mrpc_table.specs.declared.table.Field.{Field}
use Rattle.mrpc_table.specs.declared.table.Table.{Table}
use Rattle.wire_base.specs.Records.{IsRecordAt, IsWithin}
use Rattle.wire_base.specs.declared.records.Record.{Record}
use Rattle.wire_base.specs.declared.records.Payload.{Payload}
use Rattle.wire_base.specs.declared.records.Payload.TheVariants.{Len}
use Rattle.wire_decode.specs.RawMessages.{IsRawMessage, IsContentUnder}
use Rattle.wire_decode.specs.Known.{entry_fields}
use Rattle.wire_decode.specs.Meaning.{RecordValue, MeansIn, HasValue}
use Rattle.wire_decode.proofs.WireLaws.{Law}
use Rattle.wire_decode.proofs.Payloads.{PayloadAt-span}
use Rattle.wire_decode.proofs.Taken.{meaning}
use Rattle.wire_decode.proofs.Alike.{Inner, Entries, slice-elements, whole-elements, slice-reads, whole-reads, value-of, content-of}
use Rattle.wire_decode.proofs.Agreeing.{agree}
use Rattle.wire_decode.specs.FaultWalk.{IsFaultReached, no_record, behind_other, behind_known, in_payload, IsPayloadFault, no_elements, no_text, too_deep, in_message, in_entry, no_room}
use Rattle.wire_decode.specs.Faults.{IsValidRecord, is_skipped, is_known_and_valid, AreValidRecords, HasPayload, IsFirstFaultFrom}
use Rattle.wire_decode.specs.Faults.{first_fault, IsFault, no_record_there, not_whole_elements, not_utf8}
use Rattle.wire_decode.specs.Faults.{message_too_deep, inside_message, inside_entry, default_too_deep}
use Rattle.wire_decode.specs.declared.fault.DecodeReason.{DecodeReason}

-- one more valid record before the others
in-front : {T : Table} {room : ℕ} {fs : List Field} {bytes : List ℕ} {from : ℕ} {reason : DecodeReason} {place : ℕ} (r : Record)
    → IsRecordAt bytes from r → IsValidRecord T room fs bytes r → IsFirstFaultFrom T room fs bytes r.next reason place → IsFirstFaultFrom T room fs bytes from reason place
in-front r here sound (first_fault before at records fault) = first_fault (r ∷ before) at (here, sound, records) fault

has-payload : (fs : List Field) (bytes : List ℕ) (at : ℕ) (r : Record) (f : Field) (s e : ℕ) → IsRecordAt bytes at r → field_at fs r.number ≡ Some f
    → r.payload ≡ Len s e → HasPayload fs bytes at f s e
has-payload fs bytes at r f s e here at_f is = record {
  number = r.number;
  next = r.next;
  stands = subst (λ (p : Payload). IsRecordAt bytes at (record { number = r.number; payload = p; next = r.next })) is here;
  known = at_f;
}

-- the agreement for nested messages
inner-of : Law → (T : Table) (room : ℕ) → Inner T room
inner-of law T room = λ inside i e. agree law T inside (fields_of T i)

entries-of : Law → (T : Table) (room : ℕ) (label : Label) (k : Kind) → Entries T room label k
entries-of law T room label k = λ key e. agree law T room (entry_fields key k)

-- a payload is within the bytes
span : (bytes : List ℕ) (at : ℕ) (r : Record) (s e : ℕ) → IsRecordAt bytes at r → r.payload ≡ Len s e → IsWithin (length bytes) (Len s e)
span bytes at r s e here is = subst (IsWithin (length bytes)) is (PayloadAt-span bytes here.start (here.tag % 8) r.payload r.next here.payload)

sound : Law → (T : Table) (room : ℕ) (fs : List Field) (f : Field) (bytes : List ℕ) {at : ℕ} (r : Record)
    (c : Content) → IsRecordAt bytes at r → IsContentUnder T room f.label f.kind bytes r.payload c
    → (v : RecordValue) × HasValue T room f.label f.kind bytes r.payload v
sound law T room fs f bytes r c here holds =
    let v = value-of T room f.label f.kind bytes r.payload c (inner-of law T room)
    (entries-of law T room f.label f.kind)
    (PayloadAt-span bytes here.start (here.tag % 8) r.payload r.next here.payload) holds in
    (v.0, v.1)

deep : Law → (T : Table) (room : ℕ) (fs : List Field) (bytes : List ℕ) (s e : ℕ) (t : Node)
    → IsWithin (length bytes) (Len s e) → IsRawMessage T room fs (take e bytes) s t
    → MeansIn T room fs (slice_range bytes s e) (meaning T room fs t)
deep law T room fs bytes s e t w h = (agree law T room fs).to (slice_range bytes s e) t (slice-reads T room fs bytes s e t w h)

mutual
  pub first-of : Law → {T : Table} {room : ℕ} {fs : List Field} {bytes : List ℕ} {at : ℕ} {reason : DecodeReason} {place : ℕ}
      → IsFaultReached T room fs bytes at reason place → IsFirstFaultFrom T room fs bytes at reason place
  first-of law {at = at} (no_record f more fault is there) = first_fault [] at refl (no_record_there f more fault is there)
  first-of law (behind_other r here other g) = in-front r here (is_skipped other) (first-of law g)
  first-of law {T} {room} {fs} {bytes} (behind_known r f c here at_f holds g) =
      in-front r here (is_known_and_valid f (sound law T room fs f bytes r c here holds).0 at_f
      (sound law T room fs f bytes r c here holds).1) (first-of law g)
  first-of law {at = at} (in_payload r f here at_f fails) = first_fault [] at refl (fault-of law r f here at_f fails)

  fault-of : Law → {T : Table} {room : ℕ} {fs : List Field} {bytes : List ℕ} {at : ℕ} {reason : DecodeReason} {place : ℕ} (r : Record) (f : Field)
      → IsRecordAt bytes at r → field_at fs r.number ≡ Some f → IsPayloadFault T room f.label f.kind bytes r.payload reason place → IsFault T room fs bytes at reason place
  fault-of law {T} {room} {fs} {bytes} {at} {reason} {place} r f here at_f (no_elements e packed is why none) =
      not_whole_elements f e (has-payload fs bytes at r f place e here at_f is) packed
      (λ ns h. none ns (whole-elements f.kind bytes place e ns (span bytes at r place e here is) h)) why
  fault-of law {T} {room} {fs} {bytes} {at} {reason} {place} r f here at_f (no_text e single kind is why none) =
      not_utf8 f e (has-payload fs bytes at r f place e here at_f is) single kind none why
  fault-of law {T} {room} {fs} {bytes} {at} {reason} {place} r f here at_f (too_deep i e single kind is room_is why) =
      message_too_deep f i e (has-payload fs bytes at r f place e here at_f is) single kind room_is why
  fault-of law {T} {room} {fs} {bytes} {at} {reason} {place} r f here at_f
      (in_message inside i s e single kind is room_is g) =
      inside_message f i inside s e (has-payload fs bytes at r f s e here at_f is) single kind room_is
      (first-of law g)
  fault-of law {T} {room} {fs} {bytes} {at} {reason} {place} r f here at_f (in_entry key s e map is g) =
      inside_entry f key s e (has-payload fs bytes at r f s e here at_f is) map (first-of law g)
  fault-of law {T} {room} {fs} {bytes} {at} {reason} {place} r f here at_f (no_room key e t map is reads none why) =
      default_too_deep f key e (meaning T room (entry_fields key f.kind) t)
      (has-payload fs bytes at r f place e here at_f is) map
      (deep law T room (entry_fields key f.kind) bytes place e t (span bytes at r place e here is) reads) none why

walk-one : Law → (T : Table) (room : ℕ) (fs : List Field) (bytes : List ℕ) (from : ℕ) (r : Record) (reason : DecodeReason) (place : ℕ)
    → IsRecordAt bytes from r → IsValidRecord T room fs bytes r → IsFaultReached T room fs bytes r.next reason place → IsFaultReached T room fs bytes from reason place
walk-one law T room fs bytes from r reason place here (is_skipped other) g = behind_other r here other g
walk-one law T room fs bytes from r reason place here (is_known_and_valid f v at_f has) g =
    let c = content-of T room f.label f.kind bytes r.payload v (inner-of law T room)
    (entries-of law T room f.label f.kind)
    (PayloadAt-span bytes here.start (here.tag % 8) r.payload r.next here.payload) has in
    behind_known r f c.0 here at_f c.1 g

walk-behind : Law → (T : Table) (room : ℕ) (fs : List Field) (bytes : List ℕ) (from : ℕ) (before : List Record) (at : ℕ) (reason : DecodeReason) (place : ℕ)
    → AreValidRecords T room fs bytes from before at → IsFaultReached T room fs bytes at reason place → IsFaultReached T room fs bytes from reason place
walk-behind law T room fs bytes from [] at reason place sound g = subst (λ (n : ℕ). IsFaultReached T room fs bytes n reason place) (sym sound) g
walk-behind law T room fs bytes from (r ∷ rs) at reason place sound g =
    walk-one law T room fs bytes from r reason place sound.0 sound.1 (walk-behind law T room fs bytes r.next rs at reason place sound.2 g)

mutual
  pub walk-of : Law → {T : Table} {room : ℕ} {fs : List Field} {bytes : List ℕ} {from : ℕ} {reason : DecodeReason} {place : ℕ}
      → IsFirstFaultFrom T room fs bytes from reason place → IsFaultReached T room fs bytes from reason place
  walk-of law {T} {room} {fs} {bytes} {from} {reason} {place} (first_fault before at sound fault) = walk-behind law T room fs bytes from before at reason place sound (walk-fault law fault)

  walk-fault : Law → {T : Table} {room : ℕ} {fs : List Field} {bytes : List ℕ} {at : ℕ} {reason : DecodeReason} {place : ℕ}
      → IsFault T room fs bytes at reason place → IsFaultReached T room fs bytes at reason place
  walk-fault law (no_record_there f more fault is there) = no_record f more fault is there
  walk-fault law {T} {room} {fs} {bytes} {at} {reason} {place} (not_whole_elements f e h packed none why) =
      let w = span bytes at (record { number = h.number; payload = Len place e; next = h.next }) place e h.stands refl in
      in_payload (record { number = h.number; payload = Len place e; next = h.next }) f h.stands h.known
      (no_elements e packed refl why (λ ns g. none ns (slice-elements f.kind bytes place e ns w g)))
  walk-fault law {place = place} (not_utf8 f e h single kind none why) =
      in_payload (record { number = h.number; payload = Len place e; next = h.next }) f h.stands h.known
      (no_text e single kind refl why none)
  walk-fault law {place = place} (message_too_deep f i e h single kind room_is why) =
      in_payload (record { number = h.number; payload = Len place e; next = h.next }) f h.stands h.known
      (too_deep i e single kind refl room_is why)
  walk-fault law (inside_message f i inside s e h single kind room_is g) =
      in_payload (record { number = h.number; payload = Len s e; next = h.next }) f h.stands h.known
      (in_message inside i s e single kind refl room_is (walk-of law g))
  walk-fault law (inside_entry f key s e h map g) = in_payload (record { number = h.number; payload = Len s e; next = h.next }) f h.stands h.known (in_entry key s e map refl (walk-of law g))
  walk-fault law {T} {room} {fs} {bytes} {at} {reason} {place} (default_too_deep f key e t h map means none why) =
      let w = span bytes at (record { number = h.number; payload = Len place e; next = h.next }) place e h.stands refl in
      let b = (agree law T room (entry_fields key f.kind)).back (slice_range bytes place e) t means in
      in_payload (record { number = h.number; payload = Len place e; next = h.next }) f h.stands h.known
      (no_room key e b.0 map refl (whole-reads T room (entry_fields key f.kind) bytes place e b.0 w b.1) none why)
