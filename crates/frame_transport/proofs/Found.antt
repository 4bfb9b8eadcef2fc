-- The frames found so far at the start of a stream in two parts.
use Rattle.std.proofs.Common.{◌≡◌, ℕ, ◌+◌, ◌-◌, ◌≤◌, List, [], ◌∷◌, ◌++◌, length, drop, Option, refl, sym, ap, subst}
use Rattle.std.proofs.Common.{◌∙◌, arith, length-append, append_assoc}
use Rattle.std.specs.Prelude.{All}
use Rattle.std.specs.List.{between}
use Rattle.std.proofs.lemmas.Slice.{between_to_end}
use Rattle.std.proofs.lemmas.List.{append-nil, length-drop}
use Rattle.std.proofs.lemmas.List.Elements.{All-append, All-nil, All-cons}
use Rattle.std.proofs.lemmas.List.Concat.{flat_map-append}
use Rattle.frame_transport.specs.Frames.{IsFrame, bytes_of_frame, concat_frames, AreConsecutiveFrom, IsPartial}
use Rattle.frame_transport.specs.Frames.{HasNoFrame}
use Rattle.frame_transport.specs.Parts.{IsFrameOfParts, remainder_after, IsSplitOfParts}
use Rattle.frame_transport.specs.declared.format.Frame.{Frame}
use Rattle.frame_transport.specs.declared.fault.FeedFault.{FeedFault}
use Rattle.frame_transport.proofs.FaultFacts.{has_at}
use Rattle.frame_transport.proofs.Splitting.{StandFrom-append, length-bytes_of, partial_of_nothing}

-- the two parts are these frames followed by `ahead` and `left`, and no whole frame is in `ahead` alone
pub record IsFound (place : ℕ) (begun piece : List ℕ) (frames : List Frame) (end : ℕ) (ahead left : List ℕ) : Type 0 where
  pub whole : begun ++ piece ≡ concat_frames frames ++ (ahead ++ left)
  pub each : All IsFrame frames
  pub places : AreConsecutiveFrom place frames
  pub ends : end ≡ place + length (concat_frames frames)
  pub partial : IsPartial ahead
  pub rest : remainder_after frames begun left ≡ ahead ++ left
  pub fewer : length left ≤ length piece

begun_behind-more : (frames : List Frame) (f : Frame) (begun left : List ℕ) → remainder_after (frames ++ f ∷ []) begun left ≡ left
begun_behind-more [] f begun left = refl
begun_behind-more (g ∷ gs) f begun left = refl

joined-snoc : (fs : List Frame) (f : Frame) → concat_frames (fs ++ f ∷ []) ≡ concat_frames fs ++ bytes_of_frame f
joined-snoc fs f = flat_map-append bytes_of_frame fs (f ∷ []) ∙ ap (λ (bs : List ℕ). concat_frames fs ++ bs) (append-nil (bytes_of_frame f))

-- one more frame
pub found_more : (place : ℕ) (begun piece : List ℕ) (frames : List Frame) (end : ℕ) (ahead left : List ℕ) (f : Frame) (nothing more : List ℕ)
    → IsFound place begun piece frames end ahead left → IsFrameOfParts end ahead left f → nothing ≡ [] → more ≡ drop (16 + length f.payload - length ahead) left
    → IsFound place begun piece (frames ++ f ∷ []) (end + (16 + length f.payload)) nothing more
found_more place begun piece frames end ahead left f nothing more found h none rest =
    let tail : ahead ++ left ≡ bytes_of_frame f ++ (nothing ++ more) = h.bytes ∙ (λ i. bytes_of_frame f ++ (sym none i ++ sym rest i)) in
    let snoc : concat_frames (frames ++ f ∷ []) ≡ concat_frames frames ++ bytes_of_frame f = joined-snoc frames f in
    let count : length more ≤ length left = omega (arith, ap length rest, length-drop (16 + length f.payload - length ahead) left) in
    record {
      whole = found.whole ∙ ap (λ (bs : List ℕ). concat_frames frames ++ bs) tail
          ∙ sym (append_assoc (concat_frames frames) (bytes_of_frame f) (nothing ++ more))
          ∙ ap (λ (bs : List ℕ). bs ++ (nothing ++ more)) (sym snoc);
      each = All-append IsFrame frames (f ∷ []) found.each (All-cons IsFrame f [] h.frame (All-nil IsFrame));
      places = StandFrom-append place frames (f ∷ []) found.places (h.stands ∙ found.ends, tt);
      ends = omega (arith, ap length snoc, length-append (concat_frames frames) (bytes_of_frame f), length-bytes_of f, found.ends);
      partial = subst IsPartial (sym none) partial_of_nothing;
      rest = begun_behind-more frames f begun more ∙ ap (λ (bs : List ℕ). bs ++ more) (sym none);
      fewer = omega (arith, found.fewer);
    }

-- one more frame, in the terms of the loop
pub found_next : (place : ℕ) (begun piece : List ℕ) (frames : List Frame) (end : ℕ) (ahead left : List ℕ) (f : Frame) (size : ℕ) (now : List Frame)
    → IsFound place begun piece frames end ahead left → IsFrameOfParts end ahead left f → size ≡ length f.payload → now ≡ frames ++ f ∷ []
    → IsFound place begun piece now (end + (16 + size)) [] (between (16 + size - length ahead) (length left) left)
found_next place begun piece frames end ahead left f size now found h sizeis nowis =
    let rest : between (16 + size - length ahead) (length left) left ≡ drop (16 + length f.payload - length ahead) left =
    between_to_end left (16 + size - length ahead) (length left) (omega arith) ∙ ap (λ (n : ℕ). drop (16 + n - length ahead) left) sizeis in
    let next = found_more place begun piece frames end ahead left f [] (between (16 + size - length ahead) (length left) left) found h refl rest in
    subst (λ (n : ℕ). IsFound place begun piece now (end + (16 + n)) [] (between (16 + size - length ahead) (length left) left)) (sym sizeis)
    (subst (λ (fs : List Frame). IsFound place begun piece fs (end + (16 + length f.payload)) [] (between (16 + size - length ahead) (length left) left)) (sym nowis) next)

-- no byte is lost
pub found_total : (place : ℕ) (begun piece : List ℕ) (frames : List Frame) (end : ℕ) (ahead left : List ℕ)
    → IsFound place begun piece frames end ahead left → end + (length ahead + length left) ≡ place + (length begun + length piece)
found_total place begun piece frames end ahead left found =
    let whole : length begun + length piece ≡ length (concat_frames frames) + (length ahead + length left) =
    sym (length-append begun piece) ∙ ap length found.whole ∙ length-append (concat_frames frames) (ahead ++ left)
    ∙ ap (λ (n : ℕ). length (concat_frames frames) + n) (length-append ahead left) in
    omega (arith, found.ends)

-- the end
pub found_all : (place : ℕ) (begun piece : List ℕ) (frames : List Frame) (end : ℕ) (ahead left : List ℕ) (fault : Option FeedFault)
    → IsFound place begun piece frames end ahead left → HasNoFrame end (ahead ++ left) fault → IsSplitOfParts place begun piece frames end left fault
found_all place begun piece frames end ahead left fault found h = record {
  splits = record {
    whole = found.whole ∙ ap (λ (bs : List ℕ). concat_frames frames ++ bs) (sym found.rest);
    each = found.each;
    places = found.places;
    partial = subst IsPartial (sym found.rest) h.partial;
  };
  behind = found.ends;
  first = has_at end end (ahead ++ left) (remainder_after frames begun left) fault refl (sym found.rest) h.first;
  fewer = found.fewer;
}
