-- A stream that shares a prefix with a frame, up to the frame's end or beyond it.
use Rattle.std.proofs.Common.{◌≡◌, ℕ, List, [], ◌∷◌, ◌++◌, Option, Some, sym, ap, ◌∙◌, append_assoc}
use Rattle.std.proofs.lemmas.List.Elements.{All-head}
use Rattle.frame_transport.specs.Frames.{IsFaultStable, IsFrame, bytes_of_frame, concat_frames}
use Rattle.frame_transport.specs.declared.fault.FeedFault.{FeedFault}
use Rattle.frame_transport.specs.declared.format.Frame.{Frame}
use Rattle.receive_core.specs.ReceiverTraces.{HasFrames}

-- the bytes of a frame before others determine it
abbrev pub OneFrame : Type 0
OneFrame = (f g : Frame) (more others : List ℕ) → IsFrame f → IsFrame g → bytes_of_frame f ++ more ≡ bytes_of_frame g ++ others
    → f.place ≡ g.place → (f ≡ g) × (more ≡ others)

module _ (f : Frame) (frame : IsFrame f) (front : f.place ≡ 0) (more : List ℕ) where
  -- if the whole frame has arrived, a frame is read
  pub not-none : (stream : List ℕ) (fault : Option FeedFault) → stream ≡ bytes_of_frame f ++ more → HasFrames 0 stream [] fault → ⊥
  not-none stream fault whole reads = reads.splits.partial f more frame (sym reads.splits.whole ∙ whole)

  module _ (stream left : List ℕ) (begins : stream ++ left ≡ bytes_of_frame f ++ more) where
    -- a fault before the end of the frame would be one of the whole stream
    pub no-fault : IsFaultStable → (fault : FeedFault) → HasFrames 0 stream [] (Some fault) → ⊥
    no-fault stays fault reads =
        let on = stays 0 stream left [] reads.rest fault reads.splits reads.first in
        let whole : reads.rest ++ left ≡ bytes_of_frame f ++ more =
        ap (λ (l : List ℕ). l ++ left) (sym reads.splits.whole) ∙ begins in
        on.0.partial f more frame whole

    -- the first frame can't be another
    pub same-frame : OneFrame → (g : Frame) (fs : List Frame) (fault : Option FeedFault) → HasFrames 0 stream (g ∷ fs) fault → g ≡ f
    same-frame one g fs fault reads =
        let behind : List ℕ = concat_frames fs ++ reads.rest in
        let whole : stream ≡ bytes_of_frame g ++ behind = reads.splits.whole ∙ append_assoc (bytes_of_frame g) (concat_frames fs) reads.rest in
        let same : bytes_of_frame g ++ (behind ++ left) ≡ bytes_of_frame f ++ more =
        sym (append_assoc (bytes_of_frame g) behind left) ∙ ap (λ (l : List ℕ). l ++ left) (sym whole) ∙ begins in
        (one g f (behind ++ left) more (All-head IsFrame g fs reads.splits.each) frame same (reads.splits.places.0 ∙ sym front)).0
