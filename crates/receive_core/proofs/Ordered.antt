-- Frames are taken in the order of the stream.
use Rattle.std.proofs.Common.{◌≡◌, ℕ, ◌+◌, List, [], ◌∷◌, ◌++◌, length, Some, None, refl, sym, ap, subst, ◌∙◌, arith, append_assoc, length-append}
use Rattle.std.specs.Prelude.{All}
use Rattle.std.proofs.lemmas.List.{append-nil}
use Rattle.std.proofs.lemmas.List.Elements.{All-nil, All-head, All-tail, All-push}
use Rattle.std.proofs.lemmas.List.Concat.{flat_map-append}
use Rattle.frame_transport.specs.Feed.{FeedState, IsNextFrame, HasStoppedAt}
use Rattle.frame_transport.specs.Frames.{IsFrame, IsPartial, IsFaultAt, IsSplitOf, HasFaultSoFar, IsFaultStable, IsSplitUnique, IsFaultUnique, AreConsecutiveFrom, bytes_of_frame, concat_frames}
use Rattle.frame_transport.specs.declared.format.Frame.{Frame}
use Rattle.frame_transport.specs.declared.fault.FeedFault.{FeedFault}
use Rattle.receive_core.specs.Order.{HasTaken, without_fault, after_fault, IsTakenInitially, IsTakenAfterPiece, IsTakenAfterFault, IsTakenAfterFrame, IsTakenPrefix}
use Rattle.receive_core.proofs.Firsts.{OneFrame}

-- facts about frames in sequence
abbrev pub JoinPlaces : Type 0
JoinPlaces = (place : ℕ) (frames others : List Frame) → AreConsecutiveFrom place frames → AreConsecutiveFrom (place + length (concat_frames frames)) others
    → AreConsecutiveFrom place (frames ++ others)

abbrev pub JoinSizes : Type 0
JoinSizes = (frames others : List Frame) → length (concat_frames (frames ++ others)) ≡ length (concat_frames frames) + length (concat_frames others)

abbrev pub JoinSplits : Type 0
JoinSplits = (place : ℕ) (frames others : List Frame) (stream rest : List ℕ) → All IsFrame frames → AreConsecutiveFrom place frames
    → IsSplitOf (place + length (concat_frames frames)) stream others rest → IsSplitOf place (concat_frames frames ++ stream) (frames ++ others) rest

from_zero : (n : ℕ) → n ≡ 0 + n
from_zero n = omega arith

pub begins_so : IsTakenInitially
begins_so = without_fault (All-nil IsFrame) tt refl refl

-- a fault is unchanged when more follows it
at_fault : IsFaultStable → (place : ℕ) (stream more : List ℕ) (frames : List Frame) (rest : List ℕ) (fault : FeedFault)
    → IsSplitOf place stream frames rest → IsFaultAt (place + length (concat_frames frames)) rest fault → HasFaultSoFar place (stream ++ more) (Some fault)
at_fault stays place stream more frames rest fault s at =
    let later = stays place stream more frames rest fault s at in
    record { frames = frames; rest = rest ++ more; splits = later.0; first = later.1 }

pub goes_on_so : IsFaultStable → IsFaultUnique → IsTakenAfterPiece
goes_on_so stays once stream frames old piece new (without_fault each places whole place) on clean =
    without_fault each places
    (ap (λ (bs : List ℕ). bs ++ piece) whole ∙ append_assoc (concat_frames frames) old.bytes piece ∙ ap (λ (bs : List ℕ). concat_frames frames ++ bs) (sym on.bytes))
    (on.place ∙ place)
goes_on_so stays once stream frames old piece new (after_fault later rest tail fault s at all end) on clean =
    let wrong : Some fault ≡ None = once old.place (old.bytes ++ piece) (Some fault) None (at_fault stays old.place old.bytes piece later rest fault s at) clean in
    absurd cc

-- what is kept of the stream from its first fault on
stops_first : IsFaultStable → JoinSizes → JoinSplits → (stream : List ℕ) (frames : List Frame) (old : FeedState) (piece : List ℕ) (fault : FeedFault) (new : FeedState)
    → All IsFrame frames → AreConsecutiveFrom 0 frames → stream ≡ concat_frames frames ++ old.bytes → old.place ≡ length (concat_frames frames) → HasStoppedAt old piece fault new
    → HasTaken (stream ++ piece) frames new
stops_first stays sizes splits stream frames old piece fault new each places whole place stop =
    let kept = stop.kept in
    let later = stays old.place new.bytes stop.dropped kept.frames kept.rest fault kept.splits kept.first in
    let behind : IsSplitOf (0 + length (concat_frames frames)) (old.bytes ++ piece) kept.frames (kept.rest ++ stop.dropped) =
    subst (λ (bs : List ℕ). IsSplitOf (0 + length (concat_frames frames)) bs kept.frames (kept.rest ++ stop.dropped)) (sym stop.stream)
    (subst (λ (p : ℕ). IsSplitOf p (new.bytes ++ stop.dropped) kept.frames (kept.rest ++ stop.dropped)) (place ∙ from_zero (length (concat_frames frames))) later.0) in
    let all : IsSplitOf 0 (concat_frames frames ++ (old.bytes ++ piece)) (frames ++ kept.frames) (kept.rest ++ stop.dropped) =
    splits 0 frames kept.frames (old.bytes ++ piece) (kept.rest ++ stop.dropped) each places behind in
    let same : concat_frames frames ++ (old.bytes ++ piece) ≡ stream ++ piece = sym (ap (λ (bs : List ℕ). bs ++ piece) whole ∙ append_assoc (concat_frames frames) old.bytes piece) in
    let size : old.place + length (concat_frames kept.frames) ≡ length (concat_frames (frames ++ kept.frames)) =
    ap (λ (n : ℕ). n + length (concat_frames kept.frames)) place ∙ sym (sizes frames kept.frames) in
    after_fault kept.frames kept.rest (kept.rest ++ stop.dropped) fault
    (subst (λ (p : ℕ). IsSplitOf p new.bytes kept.frames kept.rest) (sym stop.place) kept.splits)
    (subst (λ (p : ℕ). IsFaultAt (p + length (concat_frames kept.frames)) kept.rest fault) (sym stop.place) kept.first)
    (subst (λ (bs : List ℕ). IsSplitOf 0 bs (frames ++ kept.frames) (kept.rest ++ stop.dropped)) same all)
    (subst (λ (p : ℕ). IsFaultAt p (kept.rest ++ stop.dropped) fault) size later.1)

-- and after it
stops_again : IsFaultStable → IsSplitUnique → IsFaultUnique → (stream : List ℕ) (frames : List Frame) (old : FeedState) (piece : List ℕ) (fault : FeedFault) (new : FeedState)
    → (later : List Frame) (rest tail : List ℕ) (was : FeedFault) → IsSplitOf old.place old.bytes later rest → IsFaultAt (old.place + length (concat_frames later)) rest was
    → IsSplitOf 0 stream (frames ++ later) tail → IsFaultAt (length (concat_frames (frames ++ later))) tail was → HasStoppedAt old piece fault new
    → HasTaken (stream ++ piece) frames new
stops_again stays once ends stream frames old piece fault new later rest tail was s at all end stop =
    let kept = stop.kept in
    let now = stays old.place new.bytes stop.dropped kept.frames kept.rest fault kept.splits kept.first in
    let before = stays old.place old.bytes piece later rest was s at in
    let here : IsSplitOf old.place (old.bytes ++ piece) kept.frames (kept.rest ++ stop.dropped) =
    subst (λ (bs : List ℕ). IsSplitOf old.place bs kept.frames (kept.rest ++ stop.dropped)) (sym stop.stream) now.0 in
    let frames_same : kept.frames ≡ later = (once old.place (old.bytes ++ piece) kept.frames later (kept.rest ++ stop.dropped) (rest ++ piece) here before.0).0 in
    let fault_same : was ≡ fault =
    (let both : Some was ≡ Some fault = ends old.place (old.bytes ++ piece) (Some was) (Some fault)
    (at_fault stays old.place old.bytes piece later rest was s at)
    (subst (λ (bs : List ℕ). HasFaultSoFar old.place bs (Some fault)) (sym stop.stream) (at_fault stays old.place new.bytes stop.dropped kept.frames kept.rest fault kept.splits kept.first)) in
    cc) in
    let size = from_zero (length (concat_frames (frames ++ later))) in
    let on = stays 0 stream piece (frames ++ later) tail was all (subst (λ (p : ℕ). IsFaultAt p tail was) size end) in
    after_fault later kept.rest (tail ++ piece) fault
    (subst (λ (fs : List Frame). IsSplitOf new.place new.bytes fs kept.rest) frames_same (subst (λ (p : ℕ). IsSplitOf p new.bytes kept.frames kept.rest) (sym stop.place) kept.splits))
    (subst (λ (fs : List Frame). IsFaultAt (new.place + length (concat_frames fs)) kept.rest fault) frames_same
    (subst (λ (p : ℕ). IsFaultAt (p + length (concat_frames kept.frames)) kept.rest fault) (sym stop.place) kept.first))
    on.0
    (subst (IsFaultAt (length (concat_frames (frames ++ later))) (tail ++ piece)) fault_same (subst (λ (p : ℕ). IsFaultAt p (tail ++ piece) was) (sym size) on.1))

pub stops_so : IsFaultStable → IsSplitUnique → IsFaultUnique → JoinSizes → JoinSplits → IsTakenAfterFault
stops_so stays once ends sizes splits stream frames old piece fault new (without_fault each places whole place) stop =
    stops_first stays sizes splits stream frames old piece fault new each places whole place stop
stops_so stays once ends sizes splits stream frames old piece fault new (after_fault later rest tail was s at all end) stop =
    stops_again stays once ends stream frames old piece fault new later rest tail was s at all end stop

joined_push : (frames : List Frame) (f : Frame) → concat_frames (frames ++ f ∷ []) ≡ concat_frames frames ++ bytes_of_frame f
joined_push frames f = flat_map-append bytes_of_frame frames (f ∷ []) ∙ ap (λ (bs : List ℕ). concat_frames frames ++ bs) (append-nil (bytes_of_frame f))

taken_of_stopped : OneFrame → (stream : List ℕ) (frames : List Frame) (old : FeedState) (f : Frame) (new : FeedState) (later : List Frame) (rest tail : List ℕ) (fault : FeedFault)
    → IsSplitOf old.place old.bytes later rest → IsFaultAt (old.place + length (concat_frames later)) rest fault
    → IsSplitOf 0 stream (frames ++ later) tail → IsFaultAt (length (concat_frames (frames ++ later))) tail fault → IsNextFrame old f new
    → HasTaken stream (frames ++ f ∷ []) new
taken_of_stopped once stream frames old f new [] rest tail fault s at all end g = absurd (s.partial f new.bytes g.frame (sym s.whole ∙ g.first))
taken_of_stopped once stream frames old f new (h ∷ later) rest tail fault s at all end g =
    let same = once f h new.bytes (concat_frames later ++ rest) g.frame (All-head IsFrame h later s.each)
    (sym g.first ∙ s.whole ∙ append_assoc (bytes_of_frame h) (concat_frames later) rest) (g.place ∙ sym s.places.0) in
    let place : old.place + length (bytes_of_frame h) ≡ new.place = ap (λ (k : Frame). old.place + length (bytes_of_frame k)) (sym same.0) ∙ sym g.left in
    let list : frames ++ h ∷ later ≡ (frames ++ f ∷ []) ++ later = ap (λ (k : Frame). frames ++ k ∷ later) (sym same.0) ∙ sym (append_assoc frames (f ∷ []) later) in
    let far : old.place + length (concat_frames (h ∷ later)) ≡ new.place + length (concat_frames later) = omega (arith, place, length-append (bytes_of_frame h) (concat_frames later)) in
    after_fault later rest tail fault
    (record { whole = same.1; each = All-tail IsFrame h later s.each; places = subst (λ (p : ℕ). AreConsecutiveFrom p later) place s.places.1; partial = s.partial })
    (subst (λ (p : ℕ). IsFaultAt p rest fault) far at)
    (subst (λ (fs : List Frame). IsSplitOf 0 stream fs tail) list all)
    (subst (λ (fs : List Frame). IsFaultAt (length (concat_frames fs)) tail fault) list end)

pub takes_so : OneFrame → JoinPlaces → IsTakenAfterFrame
takes_so once join stream frames old f new (without_fault each places whole place) g =
    let more : concat_frames (frames ++ f ∷ []) ≡ concat_frames frames ++ bytes_of_frame f = joined_push frames f in
    without_fault (All-push IsFrame frames f each g.frame) (join 0 frames (f ∷ []) places (g.place ∙ place ∙ from_zero (length (concat_frames frames)), tt))
    (whole ∙ ap (λ (bs : List ℕ). concat_frames frames ++ bs) g.first ∙ sym (append_assoc (concat_frames frames) (bytes_of_frame f) new.bytes) ∙ ap (λ (bs : List ℕ). bs ++ new.bytes) (sym more))
    (omega (arith, g.left, place, ap length more, length-append (concat_frames frames) (bytes_of_frame f)))
takes_so once join stream frames old f new (after_fault later rest tail fault s at all end) g =
    taken_of_stopped once stream frames old f new later rest tail fault s at all end g

-- frames at the start of a stream are a prefix of all its frames
front : OneFrame → (place : ℕ) (frames whole : List Frame) (bytes rest : List ℕ) → All IsFrame frames → AreConsecutiveFrom place frames
    → All IsFrame whole → AreConsecutiveFrom place whole → IsPartial rest → concat_frames frames ++ bytes ≡ concat_frames whole ++ rest
    → (more : List Frame) × (whole ≡ frames ++ more)
front once place [] whole bytes rest each places all stand partial same = (whole, refl)
front once place (f ∷ frames) [] bytes rest each places all stand partial same =
    absurd (partial f (concat_frames frames ++ bytes) (All-head IsFrame f frames each) (sym same ∙ append_assoc (bytes_of_frame f) (concat_frames frames) bytes))
front once place (f ∷ frames) (g ∷ whole) bytes rest each places all stand partial same =
    let one = once f g (concat_frames frames ++ bytes) (concat_frames whole ++ rest) (All-head IsFrame f frames each) (All-head IsFrame g whole all)
    (sym (append_assoc (bytes_of_frame f) (concat_frames frames) bytes) ∙ same ∙ append_assoc (bytes_of_frame g) (concat_frames whole) rest) (places.0 ∙ sym stand.0) in
    let next = front once (place + length (bytes_of_frame f)) frames whole bytes rest (All-tail IsFrame f frames each) places.1
    (All-tail IsFrame g whole all) (subst (λ (k : Frame). AreConsecutiveFrom (place + length (bytes_of_frame k)) whole) (sym one.0) stand.1) partial one.1 in
    (next.0, (λ i. sym one.0 i ∷ next.1 i))

pub are_first : OneFrame → IsSplitUnique → IsTakenPrefix
are_first once one stream frames fed whole rest (without_fault each places is place) s =
    front once 0 frames whole fed.bytes rest each places s.each s.places s.partial (sym is ∙ s.whole)
are_first once one stream frames fed whole rest (after_fault later kept tail fault split at all end) s =
    (later, (one 0 stream whole (frames ++ later) rest tail s all).0)
