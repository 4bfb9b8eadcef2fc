-- Bytes at an offset among others, and what is read there.
use Rattle.std.proofs.Common.{◌≡◌, ℕ, ◌+◌, ◌-◌, ◌*◌, ◌%◌, ◌^◌, ◌<◌, ◌≤◌, List, [], ◌++◌, length, take, drop, refl, ap}
use Rattle.std.proofs.Common.{sym, subst, ◌∙◌, arith, append_assoc, append-nil}
use Rattle.std.specs.List.{slice_range}
use Rattle.std.proofs.lemmas.List.{length-take-le, length-append, drop_at, take_at}
use Rattle.wire_base.specs.Encoding.{varint, tag, delimited}
use Rattle.wire_base.specs.Records.{IsVarintAt, IsPayloadAt, IsRecordAt}
use Rattle.wire_base.specs.declared.records.Payload.{Payload}
use Rattle.wire_base.specs.declared.records.Payload.TheVariants.{Len}
use Rattle.wire_decode.proofs.WireLaws.{ReadsBack}

pub record Stands (bytes : List ℕ) (at : ℕ) (piece : List ℕ) : Type 0 where
  pub before : List ℕ
  pub after : List ℕ
  pub is : bytes ≡ before ++ (piece ++ after)
  pub place : at ≡ length before

pub stands-whole : (bytes : List ℕ) → Stands bytes 0 bytes
stands-whole bytes = record { before = []; after = []; is = sym (append-nil bytes); place = refl }

pub stands-left : {bytes : List ℕ} {at : ℕ} (a b : List ℕ) → Stands bytes at (a ++ b) → Stands bytes at a
stands-left a b h = record {
  before = h.before;
  after = b ++ h.after;
  is = h.is ∙ ap (λ xs. h.before ++ xs) (append_assoc a b h.after);
  place = h.place;
}

pub stands-right : {bytes : List ℕ} {at : ℕ} (a b : List ℕ) → Stands bytes at (a ++ b) → Stands bytes (at + length a) b
stands-right a b h = record {
  before = h.before ++ a;
  after = h.after;
  is = h.is ∙ ap (λ xs. h.before ++ xs) (append_assoc a b h.after) ∙ sym (append_assoc h.before a (b ++ h.after));
  place = let p = h.place in omega (arith, p, length-append h.before a);
}

pub stands-within : (bytes : List ℕ) (at : ℕ) (piece : List ℕ) → Stands bytes at piece → at + length piece ≤ length bytes
stands-within bytes at piece h =
    let p = h.place in
    omega (arith, p, ap length h.is, length-append h.before (piece ++ h.after), length-append piece h.after)

pub stands-slice : (bytes : List ℕ) (at : ℕ) (piece : List ℕ) (end : ℕ) → end ≡ at + length piece → Stands bytes at piece → slice_range bytes at end ≡ piece
stands-slice bytes at piece end e h =
    let n = length piece in
    ap (λ k. take k (drop at bytes)) (let s : end - at ≡ n = omega (arith, e) in s)
    ∙ ap (λ xs. take n (drop at xs)) h.is
    ∙ ap (take n) (drop_at h.before (piece ++ h.after) at (sym h.place))
    ∙ take_at piece h.after n refl

-- bytes that are cut after the piece
pub stands-cut : (bytes : List ℕ) (at : ℕ) (piece : List ℕ) (end : ℕ) → end ≡ at + length piece → Stands bytes at piece → Stands (take end bytes) at piece
stands-cut bytes at piece end e h =
    let front = h.before ++ piece in
    let p = h.place in
    let long : length front ≡ end = omega (arith, e, p, length-append h.before piece) in
    record {
      before = h.before;
      after = [];
      is = ap (take end) (h.is ∙ sym (append_assoc h.before piece h.after)) ∙ take_at front h.after end long ∙ ap (λ xs. h.before ++ xs) (sym (append-nil piece));
      place = h.place;
    }

pub cut-length : (bytes : List ℕ) (at : ℕ) (piece : List ℕ) (end : ℕ) → end ≡ at + length piece → Stands bytes at piece → length (take end bytes) ≡ end
cut-length bytes at piece end e h = length-take-le end bytes (let w = stands-within bytes at piece h in omega (arith, e, w))

pub stands-varint : ReadsBack → (bytes : List ℕ) (at v : ℕ) → v < 2 ^ 64 → Stands bytes at (varint v) → IsVarintAt bytes at v (at + length (varint v))
stands-varint back_read bytes at v small h =
    let here : IsVarintAt bytes (length h.before) v (length h.before + length (varint v)) =
    subst (λ (xs : List ℕ). IsVarintAt xs (length h.before) v (length h.before + length (varint v))) (sym h.is)
    (back_read h.before h.after v small) in
    subst (λ (k : ℕ). IsVarintAt bytes k v (k + length (varint v))) (sym h.place) here

-- a tag, followed by a payload
pub stands-record : ReadsBack → (bytes : List ℕ) (at n w : ℕ) (p : Payload) (next : ℕ) → 0 < n → n < 2 ^ 29 → w < 8
    → Stands bytes at (tag n w) → IsPayloadAt bytes (at + length (tag n w)) w p next
    → IsRecordAt bytes at (record { number = n; payload = p; next = next })
stands-record back_read bytes at n w p next positive small type h payload = record {
  tag = 8 * n + w;
  start = at + length (tag n w);
  tagged = record {
    stands = stands-varint back_read bytes at (8 * n + w) (omega (arith, small, type)) h;
    small = omega (arith, small, type);
    numbered = λ e. omega (arith, e, positive, type);
  };
  number = omega (arith, type);
  payload = subst (λ (x : ℕ). IsPayloadAt bytes (at + length (tag n w)) x p next) (let e : w ≡ (8 * n + w) % 8 = omega (arith, type) in e) payload;
}

-- where bytes after their length start and end
abbrev pub start_of : ℕ → List ℕ → ℕ
start_of at bytes = at + length (varint (length bytes))

abbrev pub end_of : ℕ → List ℕ → ℕ
end_of at bytes = start_of at bytes + length bytes

pub stands-inner : {bytes : List ℕ} {at : ℕ} (piece : List ℕ) → Stands bytes at (delimited piece) → Stands bytes (start_of at piece) piece
stands-inner piece h = stands-right (varint (length piece)) piece h

pub end-length : (at : ℕ) (piece : List ℕ) → end_of at piece ≡ at + length (delimited piece)
end-length at piece = omega (arith, length-append (varint (length piece)) piece)

pub stands-delimited : ReadsBack → (bytes : List ℕ) (at : ℕ) (piece : List ℕ) → length bytes < 2 ^ 64
    → Stands bytes at (delimited piece)
    → IsPayloadAt bytes at 2 (Len (start_of at piece) (end_of at piece)) (at + length (delimited piece))
stands-delimited back_read bytes at piece few h =
    let within : end_of at piece ≤ length bytes = stands-within bytes (start_of at piece) piece (stands-inner piece h) in
    (refl, length piece, stands-varint back_read bytes at (length piece) (omega (arith, few, within)) (stands-left (varint (length piece)) piece h), refl, within, sym (end-length at piece))
