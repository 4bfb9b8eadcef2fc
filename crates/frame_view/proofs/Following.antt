-- Consecutive frames of a stream.
use Rattle.std.proofs.Common.{◌≡◌, ℕ, ◌+◌, ◌≤◌, List, [], ◌∷◌, ◌++◌, length, drop, refl, sym, ap, subst, ◌∙◌, arith, append_assoc, append-nil, drop-drop}
use Rattle.std.proofs.lemmas.List.{drop_all}
use Rattle.std.proofs.lemmas.List.Elements.{All-append, All-nil, All-cons}
use Rattle.std.proofs.lemmas.List.Concat.{flat_map-append}
use Rattle.frame_transport.specs.Frames.{IsFrame, bytes_of_frame, concat_frames, AreConsecutiveFrom, IsPartial, IsSplitOf}
use Rattle.frame_transport.specs.FramesInPlace.{IsFrameAt}
use Rattle.frame_transport.specs.declared.format.Frame.{Frame}
use Rattle.frame_view.specs.FrameRanges.{AreFramesBetween}

-- laws of frames
pub record FollowLaw : Type 0 where
  pub size_of_one : (f : Frame) → length (bytes_of_frame f) ≡ 16 + length f.payload
  pub places : (place : ℕ) (frames others : List Frame) → AreConsecutiveFrom place frames
      → AreConsecutiveFrom (place + length (concat_frames frames)) others → AreConsecutiveFrom place (frames ++ others)
  pub size_of_all : (frames others : List Frame) → length (concat_frames (frames ++ others)) ≡ length (concat_frames frames) + length (concat_frames others)
  pub nothing : IsPartial []

joined-append : (fs gs : List Frame) (more : List ℕ) → concat_frames (fs ++ gs) ++ more ≡ concat_frames fs ++ (concat_frames gs ++ more)
joined-append fs gs more = ap (λ (bs : List ℕ). bs ++ more) (flat_map-append bytes_of_frame fs gs) ∙ append_assoc (concat_frames fs) (concat_frames gs) more

joined_alone : (f : Frame) → concat_frames (f ∷ []) ≡ bytes_of_frame f
joined_alone f = append-nil (bytes_of_frame f)

pub none : (stream : List ℕ) (from : ℕ) → AreFramesBetween stream from from []
none stream from = record { each = All-nil IsFrame; places = tt; whole = refl; end = omega arith }

pub one : FollowLaw → (stream : List ℕ) (from to : ℕ) (f : Frame) → IsFrameAt from (drop from stream) f → to ≡ from + (16 + length f.payload) → AreFramesBetween stream from to (f ∷ [])
one law stream from to f h behind =
    let rest : drop (16 + length f.payload) (drop from stream) ≡ drop to stream =
    drop-drop (16 + length f.payload) from stream ∙ ap (λ (n : ℕ). drop n stream) (sym behind) in
    record {
      each = All-cons IsFrame f [] h.frame (All-nil IsFrame);
      places = (h.stands, tt);
      whole = h.whole ∙ (λ i. sym (joined_alone f) i ++ rest i);
      end = omega (arith, behind, ap length (joined_alone f), law.size_of_one f);
    }

pub more : FollowLaw → (stream : List ℕ) (from mid to : ℕ) (fs gs : List Frame) → AreFramesBetween stream from mid fs → AreFramesBetween stream mid to gs → AreFramesBetween stream from to (fs ++ gs)
more law stream from mid to fs gs x y = record {
  each = All-append IsFrame fs gs x.each y.each;
  places = law.places from fs gs x.places (subst (λ (p : ℕ). AreConsecutiveFrom p gs) x.end y.places);
  whole = x.whole ∙ ap (λ (bs : List ℕ). concat_frames fs ++ bs) y.whole ∙ sym (joined-append fs gs (drop to stream));
  end = omega (arith, x.end, y.end, law.size_of_all fs gs);
}

pub all : FollowLaw → (stream : List ℕ) (to : ℕ) (fs : List Frame) → AreFramesBetween stream 0 to fs → length stream ≤ to → IsSplitOf 0 stream fs []
all law stream to fs x end = record {
  whole = x.whole ∙ ap (λ (bs : List ℕ). concat_frames fs ++ bs) (drop_all to stream end);
  each = x.each;
  places = x.places;
  partial = law.nothing;
}
