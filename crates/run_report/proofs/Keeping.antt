-- What is kept of a stream after the handled frames.
use Rattle.std.proofs.Common.{◌≡◌, ℕ, ◌+◌, ◌-◌, Bool, List, [], ◌∷◌, ◌++◌, ◌≤◌, length, Option, Some, None, refl, sym}
use Rattle.std.proofs.Common.{ap, ◌∙◌, subst, append_assoc, length-append, arith}
use Rattle.std.proofs.lemmas.Grind.{flat_map-append}
use Rattle.frame_transport.specs.Bytes.{header_bytes}
use Rattle.frame_transport.specs.Feed.{FeedState, total_fed}
use Rattle.frame_transport.specs.Frames.{HasHeaderFault, IsFaultAt, IsSplitOf, IsSplitUnique, bytes_of_frame, concat_frames}
use Rattle.frame_transport.specs.declared.fault.FeedFault.{FeedFault}
use Rattle.frame_transport.specs.declared.format.Frame.{Frame}
use Rattle.receive_core.specs.ReceiverTraces.{ReceiverTrace, taken_frames}
use Rattle.receive_core.specs.Order.{without_fault, after_fault}
use Rattle.message_delivery.specs.Arriving.{IsArrivalTrace}
use Rattle.message_delivery.specs.declared.arrivals.Arrivals.{Arrivals}
use Rattle.run_report.specs.ConnectionReport.{cut_text}

-- if a stream has no fault, all bytes after the handled frames are kept
pub record AreKept (life : ReceiverTrace) (a : Arrivals) (lived : IsArrivalTrace life a) : Type 0 where
  pub none_behind : a.inbound.fed.behind ≡ 0
  pub same_rest : lived.lives.all.rest ≡ lived.lives.kept.rest

pub all-kept : IsSplitUnique → (life : ReceiverTrace) (a : Arrivals) (lived : IsArrivalTrace life a) → a.fault ≡ None → AreKept life a lived
all-kept once life a lived is = elim lived.lives.taken [
  | without_fault each stand whole place ↦
      let frames : List Frame = taken_frames life in
      let waiting : List Frame = lived.lives.waiting in
      let bytes : a.inbound.fed.bytes ≡ concat_frames waiting ++ lived.lives.kept.rest = lived.lives.kept.splits.whole in
      let both : concat_frames (frames ++ waiting) ≡ concat_frames frames ++ concat_frames waiting = flat_map-append bytes_of_frame frames waiting in
      let all : life.stream ≡ concat_frames (frames ++ waiting) ++ lived.lives.kept.rest =
      whole ∙ ap (λ b. concat_frames frames ++ b) bytes ∙ sym (append_assoc (concat_frames frames) (concat_frames waiting) lived.lives.kept.rest)
      ∙ ap (λ b. b ++ lived.lives.kept.rest) (sym both) in
      let splits : IsSplitOf 0 life.stream (frames ++ waiting) lived.lives.kept.rest = record {
        whole = all;
        each = lived.lives.all.splits.each;
        places = lived.lives.all.splits.places;
        partial = lived.lives.kept.splits.partial;
      } in
      let counted : a.inbound.fed.place + length a.inbound.fed.bytes + a.inbound.fed.behind ≡ length life.stream = lived.lives.counted in
      let length_is : length life.stream ≡ length (concat_frames frames) + length a.inbound.fed.bytes =
      ap length whole ∙ length-append (concat_frames frames) a.inbound.fed.bytes in
      record {
        none_behind = omega (arith, counted, length_is, place);
        same_rest = (once 0 life.stream (frames ++ waiting) (frames ++ waiting) lived.lives.all.rest lived.lives.kept.rest lived.lives.all.splits splits).1;
      }
  | after_fault later rest tail fault splits at all_splits all_at ↦
      let frames : List Frame = taken_frames life in
      let waiting : List Frame = lived.lives.waiting in
      let none : life.fault ≡ None = sym lived.first ∙ is in
      let free : HasHeaderFault (0 + length (concat_frames (frames ++ waiting))) lived.lives.all.rest None =
      subst (HasHeaderFault (0 + length (concat_frames (frames ++ waiting))) lived.lives.all.rest) none lived.lives.all.first in
      let same : (frames ++ later ≡ frames ++ waiting) × (tail ≡ lived.lives.all.rest) =
      once 0 life.stream (frames ++ later) (frames ++ waiting) tail lived.lives.all.rest all_splits lived.lives.all.splits in
      let from_start : length (concat_frames (frames ++ waiting)) ≡ 0 + length (concat_frames (frames ++ waiting)) = omega arith in
      absurd (free fault (subst (λ n. IsFaultAt n lived.lives.all.rest fault) from_start
      (subst (λ fs. IsFaultAt (length (concat_frames fs)) lived.lives.all.rest fault) same.0
      (subst (λ r. IsFaultAt (length (concat_frames (frames ++ later))) r fault) same.1 all_at))))
]

-- where it is cut is the same by the kept bytes as by the whole stream
cut-by : (conn : ℕ) (failed : Bool) (fault : Option FeedFault) (p q : ℕ) (rest more : List ℕ) → (fault ≡ None → (p ≡ q) × (rest ≡ more))
    → cut_text conn failed fault p rest ≡ cut_text conn failed fault q more
cut-by conn failed (Some fault) p q rest more same = refl
cut-by conn failed None p q rest more same =
    ap (λ place. cut_text conn failed None place rest) (same refl).0 ∙ ap (λ r. cut_text conn failed None q r) (same refl).1

pub cut-same : IsSplitUnique → (life : ReceiverTrace) (a : Arrivals) (lived : IsArrivalTrace life a) (conn : ℕ) (failed : Bool)
    → cut_text conn failed a.fault (total_fed a.inbound.fed - length lived.lives.kept.rest) lived.lives.kept.rest
    ≡ cut_text conn failed life.fault (length life.stream - length lived.lives.all.rest) lived.lives.all.rest
cut-same once life a lived conn failed =
    let counted : total_fed a.inbound.fed ≡ length life.stream = lived.lives.counted in
    cut-by conn failed a.fault (total_fed a.inbound.fed - length lived.lives.kept.rest) (length life.stream - length lived.lives.all.rest)
    lived.lives.kept.rest lived.lives.all.rest
    (λ is. let same : lived.lives.kept.rest ≡ lived.lives.all.rest = sym (all-kept once life a lived is).same_rest in
    (ap (λ r. total_fed a.inbound.fed - length r) same ∙ ap (λ n. n - length lived.lives.all.rest) counted, same))
    ∙ ap (λ fault. cut_text conn failed fault (length life.stream - length lived.lives.all.rest) lived.lives.all.rest) lived.first

-- ---- frames have bytes

header-long : (len kind version method conn number : ℕ) → length (header_bytes len kind version method conn number) ≡ 16
unfolding header_bytes
header-long len kind version method conn number = refl

few-frames : (frames : List Frame) → length frames ≤ length (concat_frames frames)
few-frames [] = omega arith
few-frames (f ∷ frames) =
    let header : List ℕ = header_bytes (length f.payload) f.kind f.version f.method f.conn f.number in
    let long : length header ≡ 16 = header-long (length f.payload) f.kind f.version f.method f.conn f.number in
    let whole : length (bytes_of_frame f) ≡ length header + length f.payload = length-append header f.payload in
    let both : length (concat_frames (f ∷ frames)) ≡ length (bytes_of_frame f) + length (concat_frames frames) = length-append (bytes_of_frame f) (concat_frames frames) in
    omega (arith, few-frames frames, long, whole, both)

-- so there are at most as many frames as bytes were fed
pub few-fed : (fed : FeedState) (frames : List Frame) (rest : List ℕ) → IsSplitOf fed.place fed.bytes frames rest → length frames ≤ total_fed fed
few-fed fed frames rest splits =
    let long : length fed.bytes ≡ length (concat_frames frames) + length rest = ap length splits.whole ∙ length-append (concat_frames frames) rest in
    omega (arith, few-frames frames, long)
