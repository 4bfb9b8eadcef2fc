-- How a feed's data changes with the frames that were found.
use Rattle.std.proofs.Common.{◌≡◌, ℕ, ◌+◌, ◌-◌, min, is_some, if◌then◌else◌, List, [], ◌∷◌, ◌++◌, length, take, drop}
use Rattle.std.proofs.Common.{Option, Some, None, refl, sym, ap, subst, ◌∙◌, arith, append_assoc}
use Rattle.std.proofs.lemmas.List.{take_all, take_min, drop_all, length-drop, take-append-drop}
use Rattle.std.proofs.Math.Nat.{min_comm}
use Rattle.std.proofs.Math.Seq.{take-append-add}
use Rattle.frame_transport.specs.Frames.{HasHeaderFault, IsSplitOf}
use Rattle.frame_transport.specs.Kept.{IsAdvance}
use Rattle.frame_transport.specs.Parts.{remainder_after, IsSplitOfParts}
use Rattle.frame_transport.specs.declared.format.Frame.{Frame}
use Rattle.frame_transport.specs.declared.fault.FeedFault.{FeedFault}
use Rattle.frame_transport.proofs.FaultFacts.{has-take, has_at}

-- the kept bytes, and those that aren't
cut : (frames : List Frame) (begun left : List ℕ) (kept : ℕ) → remainder_after frames begun left ≡ remainder_after frames begun (take kept left) ++ drop kept left
cut [] begun left kept =
    ap (λ (bs : List ℕ). begun ++ bs) (sym (take-append-drop kept left)) ∙ sym (append_assoc begun (take kept left) (drop kept left))
cut (f ∷ fs) begun left kept = sym (take-append-drop kept left)

-- 16 of the remaining bytes are enough for a fault
enough : (fault : Option FeedFault) (frames : List Frame) (begun left : List ℕ) (place : ℕ)
    → HasHeaderFault place (remainder_after frames begun left) fault → HasHeaderFault place (remainder_after frames begun (take 16 left)) fault
enough fault [] begun left place h =
    has_at place place (take (length begun + 16) (begun ++ left)) (begun ++ take 16 left) fault refl (take-append-add begun left 16)
    (has-take place (length begun + 16) (begun ++ left) fault (omega arith) h)
enough fault (f ∷ fs) begun left place h = has-take place 16 left fault (omega arith) h

kept_fault : (fault : Option FeedFault) (frames : List Frame) (begun left : List ℕ) (place kept : ℕ) → kept ≡ (if is_some fault then min (length left) 16 else length left)
    → HasHeaderFault place (remainder_after frames begun left) fault → HasHeaderFault place (remainder_after frames begun (take kept left)) fault
kept_fault None frames begun left place kept e h =
    has_at place place (remainder_after frames begun left) (remainder_after frames begun (take kept left)) None refl
    (ap (remainder_after frames begun) (sym (take_all kept left (omega arith)))) h
kept_fault (Some fault) frames begun left place kept e h =
    has_at place place (remainder_after frames begun (take 16 left)) (remainder_after frames begun (take kept left)) (Some fault) refl
    (ap (remainder_after frames begun) (sym (ap (λ (n : ℕ). take n left) (e ∙ min_comm (length left) 16) ∙ take_min 16 left)))
    (enough (Some fault) frames begun left place h)

kept_clean : (fault : Option FeedFault) (left : List ℕ) (kept : ℕ) → kept ≡ (if is_some fault then min (length left) 16 else length left) → fault ≡ None → drop kept left ≡ []
kept_clean None left kept e none = drop_all kept left (omega arith)
kept_clean (Some fault) left kept e none = cc

pub advanced : (end : ℕ) (begun piece : List ℕ) (old new : List Frame) (now_begun : List ℕ) (frames : List Frame)
    (place : ℕ) (left : List ℕ) (fault : Option FeedFault) (kept : ℕ)
    → IsSplitOfParts end begun piece frames place left fault → kept ≡ (if is_some fault then min (length left) 16 else length left)
    → new ≡ old ++ frames → now_begun ≡ remainder_after frames begun (take kept left)
    → IsAdvance (record { waiting = old; end = end; begun = begun }) piece (record { waiting = new; end = place; begun = now_begun })
    (length left - kept) fault
advanced end begun piece old new now_begun frames place left fault kept s k added begunis =
    let rest : remainder_after frames begun left ≡ now_begun ++ drop kept left = cut frames begun left kept ∙ ap (λ (bs : List ℕ). bs ++ drop kept left) (sym begunis) in
    record {
      ended = frames;
      waiting = added;
      unkept = drop kept left;
      splits = subst (λ (bs : List ℕ). IsSplitOf end (begun ++ piece) frames bs) rest s.splits;
      end = s.behind;
      first = has_at place place (remainder_after frames begun (take kept left)) now_begun fault refl (sym begunis) (kept_fault fault frames begun left place kept k s.first);
      count = length-drop kept left;
      clean = kept_clean fault left kept k;
    }
