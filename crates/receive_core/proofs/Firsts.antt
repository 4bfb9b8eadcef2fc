-- The first frame of the fed bytes.
use Rattle.std.proofs.Common.{◌≡◌, ℕ, ◌+◌, ◌≤◌, List, [], ◌∷◌, ◌++◌, length, Option, Some, None, Result, Ok, Err, Bor}
use Rattle.std.proofs.Common.{IfSome, inl, inr, sym, ap, subst, ◌∙◌, arith, append_assoc, length-append}
use Rattle.std.specs.Prelude.{◌⊎◌, OnOk, IfErr, IsErrOf, slice_get}
use Rattle.std.proofs.lemmas.List.Elements.{All-head, All-tail}
use Rattle.mrpc_table.specs.declared.table.Table.{Table}
use Rattle.frame_transport.specs.Feed.{FeedState, total_fed, IsNextFrame, IsFedBy, HasStoppedAt}
use Rattle.frame_transport.specs.Frames.{IsFrame, IsFaultAt, IsSplitOf, IsFaultStable, bytes_of_frame, concat_frames, AreConsecutiveFrom}
use Rattle.frame_transport.specs.declared.format.Frame.{Frame}
use Rattle.frame_transport.specs.declared.fault.FeedFault.{FeedFault}
use Rattle.frame_transport.specs.declared.fault.FeedFault.TheVariants.{Memory}
use Rattle.receive_core.specs.Decoding.{IsDecodedCall}
use Rattle.receive_core.specs.Turns.{IsFirstFrame, IsSplit}
use Rattle.receive_core.specs.declared.decoded.DecodedCall.{DecodedCall}

-- the frame before the others
pub first_is : (fed : FeedState) (frames : List Frame) (rest : List ℕ) (f : Frame) → IsSplitOf fed.place fed.bytes frames rest → slice_get frames 0 ≡ Some f → IsFirstFrame fed f
first_is fed [] rest f s e = (let wrong : None ≡ Some f = e in absurd cc)
first_is fed (g ∷ frames) rest f s e =
    let same : g ≡ f = (let both : Some g ≡ Some f = e in cc) in
    subst (IsFirstFrame fed) same (record {
      rest = concat_frames frames ++ rest;
      frame = All-head IsFrame g frames s.each;
      bytes = s.whole ∙ append_assoc (bytes_of_frame g) (concat_frames frames) rest;
      place = s.places.0;
    })

-- facts about the bytes of frames
abbrev pub OneFrame : Type 0
OneFrame = (f g : Frame) (more others : List ℕ) → IsFrame f → IsFrame g → bytes_of_frame f ++ more ≡ bytes_of_frame g ++ others → f.place ≡ g.place
    → (f ≡ g) × (more ≡ others)

-- the remainder after a frame also splits
pub left_splits : OneFrame → (old : FeedState) (f : Frame) (new : FeedState) → IsSplit old → IsNextFrame old f new → IsSplit new
left_splits once old f new is g = behind is.0 is.1 is.2
  where
    behind : (frames : List Frame) (rest : List ℕ) → IsSplitOf old.place old.bytes frames rest → IsSplit new
    behind [] rest s = absurd (s.partial f new.bytes g.frame (sym s.whole ∙ g.first))
    behind (h ∷ frames) rest s =
        let same = once f h new.bytes (concat_frames frames ++ rest) g.frame (All-head IsFrame h frames s.each)
        (sym g.first ∙ s.whole ∙ append_assoc (bytes_of_frame h) (concat_frames frames) rest) (g.place ∙ sym s.places.0) in
        let place : old.place + length (bytes_of_frame h) ≡ new.place = ap (λ (k : Frame). old.place + length (bytes_of_frame k)) (sym same.0) ∙ sym g.left in (
          frames,
          rest,
          record {
            whole = same.1;
            each = All-tail IsFrame h frames s.each;
            places = subst (λ (p : ℕ). AreConsecutiveFrom p frames) place s.places.1;
            partial = s.partial;
          },
        )

pub first_found : (fed : FeedState) (r : Option (Bor Frame)) → IsSplit fed
    → IfSome r (λ f. (frames : List Frame) (rest : List ℕ) → IsSplitOf fed.place fed.bytes frames rest → slice_get frames 0 ≡ Some f.now)
    → IfSome r (λ f. IsFirstFrame fed f.now)
first_found fed None is found = tt
first_found fed (Some f) is found = first_is fed is.0 is.1 f.now is.2 (found is.0 is.1 is.2)

-- ---- the first frame stays first, whatever is fed after it

goes_first : (old : FeedState) (piece : List ℕ) (new : FeedState) (f : Frame) → IsFedBy old piece new → IsFirstFrame old f → IsFirstFrame new f
goes_first old piece new f on first = record {
  rest = first.rest ++ piece;
  frame = first.frame;
  bytes = on.bytes ∙ ap (λ (bs : List ℕ). bs ++ piece) first.bytes ∙ append_assoc (bytes_of_frame f) first.rest piece;
  place = first.place ∙ sym on.place;
}

stops_first : IsFaultStable → OneFrame → (old : FeedState) (piece : List ℕ) (fault : FeedFault) (new : FeedState) (f : Frame) → HasStoppedAt old piece fault new → IsFirstFrame old f → IsFirstFrame new f
stops_first stays once old piece fault new f stop first = among stop.kept.frames stop.kept.rest stop.kept.splits stop.kept.first
  where
    fed : bytes_of_frame f ++ (first.rest ++ piece) ≡ new.bytes ++ stop.dropped
    fed = sym (append_assoc (bytes_of_frame f) first.rest piece) ∙ ap (λ (bs : List ℕ). bs ++ piece) (sym first.bytes) ∙ stop.stream

    among : (frames : List Frame) (rest : List ℕ) → IsSplitOf old.place new.bytes frames rest → IsFaultAt (old.place + length (concat_frames frames)) rest fault → IsFirstFrame new f
    among [] rest s at =
        let later = (stays old.place new.bytes stop.dropped [] rest fault s at).0 in
        absurd (later.partial f (first.rest ++ piece) first.frame (sym later.whole ∙ sym fed))
    among (g ∷ frames) rest s at =
        let later = (stays old.place new.bytes stop.dropped (g ∷ frames) rest fault s at).0 in
        let same = once f g (first.rest ++ piece) (concat_frames frames ++ (rest ++ stop.dropped)) first.frame (All-head IsFrame g frames later.each)
        (fed ∙ later.whole ∙ append_assoc (bytes_of_frame g) (concat_frames frames) (rest ++ stop.dropped)) (first.place ∙ sym later.places.0) in
        subst (IsFirstFrame new) (sym same.0) (record {
          rest = concat_frames frames ++ rest;
          frame = All-head IsFrame g frames s.each;
          bytes = s.whole ∙ append_assoc (bytes_of_frame g) (concat_frames frames) rest;
          place = s.places.0 ∙ sym stop.place;
        })

pub fed_first : IsFaultStable → OneFrame → (old : FeedState) (piece : List ℕ) (new : FeedState) (r : Result (Unit {0}) FeedFault) → OnOk r (IsFedBy old piece new)
    → IfErr r (λ fault. (fault ≡ Memory) ⊎ HasStoppedAt old piece fault new) → (IsErrOf r Memory → new ≡ old)
    → (f : Frame) → IsFirstFrame old f → IsFirstFrame new f
fed_first stays once old piece new (Ok u) ok stops memory f first = goes_first old piece new f ok first
fed_first stays once old piece new (Err fault) ok (inl none) memory f first =
    subst (λ (fed : FeedState). IsFirstFrame fed f) (sym (memory (ap Err none))) first
fed_first stays once old piece new (Err fault) ok (inr stop) memory f first = stops_first stays once old piece fault new f stop first

-- a decoded call is still that of the first frame
pub stays_ready : (T : Table) (conn : ℕ) (old new : FeedState) (opened : Option DecodedCall) → ((f : Frame) → IsFirstFrame old f → IsFirstFrame new f)
    → IfSome opened (λ o. (f : Frame) × IsFirstFrame old f × IsDecodedCall T conn f o)
    → IfSome opened (λ o. (f : Frame) × IsFirstFrame new f × IsDecodedCall T conn f o)
stays_ready T conn old new None stays ready = tt
stays_ready T conn old new (Some o) stays ready = (ready.0, stays ready.0 ready.1, ready.2)

-- ---- how many bytes were fed

pub taken_total : (old : FeedState) (f : Frame) (new : FeedState) → IsNextFrame old f new → total_fed new ≡ total_fed old
taken_total old f new g = omega (arith, g.left, g.behind, ap length g.first, length-append (bytes_of_frame f) new.bytes)

pub fed_total : (old : FeedState) (piece : List ℕ) (new : FeedState) (r : Result (Unit {0}) FeedFault) → OnOk r (IsFedBy old piece new)
    → IfErr r (λ fault. (fault ≡ Memory) ⊎ HasStoppedAt old piece fault new) → (IsErrOf r Memory → new ≡ old) → total_fed new ≤ total_fed old + length piece
fed_total old piece new (Ok u) ok stops memory = omega (arith, ok.place, ok.behind, ap length ok.bytes, length-append old.bytes piece)
fed_total old piece new (Err fault) ok (inl none) memory = (let same : total_fed new ≡ total_fed old = ap total_fed (memory (ap Err none)) in omega (arith, same))
fed_total old piece new (Err fault) ok (inr stop) memory =
    omega (arith, stop.place, stop.behind, ap length stop.stream, length-append old.bytes piece, length-append new.bytes stop.dropped)
