-- The records of a message, one more at a time.
use Rattle.std.proofs.Common.{◌≡◌, ℕ, ◌+◌, ◌-◌, ◌%◌, ◌<◌, ◌≤◌, List, length, Some, false, refl, ap, sym, subst, arith}
use Rattle.mrpc_table.specs.Node.{Node, no_fields, field, Content, push_field}
use Rattle.mrpc_table.specs.Normal.{field_at}
use Rattle.mrpc_table.specs.declared.table.Field.{Field}
use Rattle.mrpc_table.specs.declared.table.Table.{Table}
use Rattle.wire_base.specs.Records.{IsRecordAt, IsPayloadAt, IsWithin}
use Rattle.wire_base.specs.declared.records.Record.{Record}
use Rattle.wire_base.specs.declared.records.Payload.{Payload}
use Rattle.wire_base.specs.declared.records.Payload.TheVariants.{Varint, I64, I32, Len}
use Rattle.wire_decode.proofs.Payloads.{VarintAt-moves}
use Rattle.wire_decode.specs.RawMessages.{IsRawMessage, read_end, read_other, read_known, IsContentUnder}
use Rattle.wire_decode.specs.Known.{is_known_record}
use Rattle.wire_decode.specs.FaultWalk.{IsFaultReached, behind_other, behind_known}
use Rattle.wire_decode.specs.Merged.{join_fields}
use Rattle.wire_decode.specs.declared.fault.DecodeReason.{DecodeReason}

-- records that were read, with those that remain
pub record Read (T : Table) (room : ℕ) (fs : List Field) (bytes : List ℕ) (start at : ℕ) (done : Node) : Type 0 where
  pub good : (t : Node) → IsRawMessage T room fs bytes at t → IsRawMessage T room fs bytes start (join_fields done t)
  pub bad : (reason : DecodeReason) (place : ℕ) → IsFaultReached T room fs bytes at reason place → IsFaultReached T room fs bytes start reason place

pub read-start : (T : Table) (room : ℕ) (fs : List Field) (bytes : List ℕ) (start : ℕ) → Read T room fs bytes start start no_fields
read-start T room fs bytes start = record { good = λ t h. h; bad = λ r p h. h }

pub read-more_other : (T : Table) (room : ℕ) (fs : List Field) (bytes : List ℕ) (start at : ℕ) (done : Node)
    (r : Record) → IsRecordAt bytes at r → is_known_record fs r ≡ false → Read T room fs bytes start at done
    → Read T room fs bytes start r.next done
read-more_other T room fs bytes start at done r here other h = record {
  good = λ t g. h.good t (read_other r here other g);
  bad = λ reason place g. h.bad reason place (behind_other r here other g);
}

pub join-pushed : (done : Node) (n : ℕ) (c : Content) (t : Node) → join_fields (push_field done n c) t ≡ join_fields done (field n c t)
join-pushed no_fields n c t = refl
join-pushed (field m d u) n c t = ap (field m d) (join-pushed u n c t)

pub join-none : (t : Node) → join_fields t no_fields ≡ t
join-none no_fields = refl
join-none (field n c t) = ap (field n c) (join-none t)

pub read-more_known : (T : Table) (room : ℕ) (fs : List Field) (bytes : List ℕ) (start at : ℕ) (done : Node)
    (r : Record) (f : Field) (c : Content) → IsRecordAt bytes at r → field_at fs r.number ≡ Some f
    → IsContentUnder T room f.label f.kind bytes r.payload c → Read T room fs bytes start at done
    → Read T room fs bytes start r.next (push_field done r.number c)
read-more_known T room fs bytes start at done r f c here known holds h = record {
  good = λ t g. let P : Node → Type 0 = λ u. IsRawMessage T room fs bytes start u in
      subst P (sym (join-pushed done r.number c t))
      (h.good (field r.number c t) (read_known r f c t here known holds refl g));
  bad = λ reason place g. h.bad reason place (behind_known r f c here known holds g);
}

pub read-done : (T : Table) (room : ℕ) (fs : List Field) (bytes : List ℕ) (start at : ℕ) (done : Node)
    → at ≡ length bytes → Read T room fs bytes start at done → IsRawMessage T room fs bytes start done
read-done T room fs bytes start at done ends h = let P : Node → Type 0 = λ u. IsRawMessage T room fs bytes start u in subst P (join-none done) (h.good no_fields (read_end ends refl))

-- the size of a payload with a length: a bound on the depth of the readers
abbrev pub payload_size : Payload → ℕ
payload_size (Len start end) = end - start
payload_size (Varint v) = 0
payload_size (I64 v) = 0
payload_size (I32 v) = 0

payload-smaller : (bytes : List ℕ) (at start w : ℕ) (p : Payload) (next : ℕ) → at < start → at < length bytes
    → IsPayloadAt bytes start w p next → IsWithin (length bytes) p → payload_size p + 1 ≤ length bytes - at
payload-smaller bytes at start w (Varint v) next ahead more h within = omega arith
payload-smaller bytes at start w (I64 v) next ahead more h within = omega arith
payload-smaller bytes at start w (I32 v) next ahead more h within = omega arith
payload-smaller bytes at start w (Len s e) next ahead more h within = let l = VarintAt-moves h.2 in omega (arith, l, within.0, within.1)

-- a payload is smaller than the remaining bytes
pub record-smaller : (bytes : List ℕ) (at : ℕ) (r : Record) → IsRecordAt bytes at r → at < length bytes
    → IsWithin (length bytes) r.payload → payload_size r.payload + 1 ≤ length bytes - at
record-smaller bytes at r here more within = payload-smaller bytes at here.start (here.tag % 8) r.payload r.next (VarintAt-moves here.tagged.stands) more here.payload within
