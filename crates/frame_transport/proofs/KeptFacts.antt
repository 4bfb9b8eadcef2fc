-- What a feed keeps as a part of the stream, and how it changes.
use Rattle.std.proofs.Common.{◌≡◌, ℕ, ◌+◌, ◌<◌, ◌≤◌, ◌^◌, List, [], ◌∷◌, ◌++◌, length, Option, Some, None, IsSome}
use Rattle.std.proofs.Common.{IfSome, IfNone, slice_get, slice_index_or, Bor, inl, inr, true, false, refl, sym, ap}
use Rattle.std.proofs.Common.{subst, ◌∙◌, arith, length-append, append_assoc}
use Rattle.std.specs.Prelude.{All}
use Rattle.std.proofs.lemmas.Bool.{cases_lt}
use Rattle.std.proofs.lemmas.Option.{slice_get_read, slice_get_past}
use Rattle.std.proofs.lemmas.List.{append-nil}
use Rattle.std.proofs.lemmas.List.Elements.{All-append, All-nil, All-head, All-tail}
use Rattle.std.proofs.lemmas.List.Concat.{flat_map-append}
use Rattle.frame_transport.specs.Frames.{IsFrame, bytes_of_frame, concat_frames, AreConsecutiveFrom, IsPartial, HasHeaderFault, IsSplitOf, HasFaultSoFar}
use Rattle.frame_transport.specs.Feed.{FeedState, IsNextFrame, HasStoppedAt}
use Rattle.frame_transport.specs.Kept.{FeedParts, IsFeedState}
use Rattle.frame_transport.specs.Kept.{IsAdvance}
use Rattle.frame_transport.specs.declared.advance.Advance.{Advance}
use Rattle.frame_transport.specs.declared.format.Frame.{Frame}
use Rattle.frame_transport.specs.declared.fault.FeedFault.{FeedFault}
use Rattle.frame_transport.proofs.FaultFacts.{fault-append, has_at}
use Rattle.frame_transport.proofs.Splitting.{StandFrom-append, length-joined, splits_behind, length-bytes_of, partial_of_nothing, splits_once, ends_once}

-- what contracts see of the kept data
abbrev pub seen : ℕ → List Frame → List ℕ → ℕ → FeedState
seen taken waiting begun behind = record { place = taken; bytes = concat_frames waiting ++ begun; behind = behind }

abbrev pub keeping : List Frame → ℕ → List ℕ → FeedParts
keeping waiting end begun = record { waiting = waiting; end = end; begun = begun }

pub kept_nothing : IsFeedState 0 [] 0 [] 0
kept_nothing = record { each = All-nil IsFrame; places = tt; ends = refl; partial = partial_of_nothing; room = omega arith }

pub kept_ends : (taken : ℕ) (waiting : List Frame) (end : ℕ) (begun : List ℕ) (behind : ℕ) (fault : Option FeedFault)
    → IsFeedState taken waiting end begun behind → HasHeaderFault end begun fault → HasFaultSoFar taken (concat_frames waiting ++ begun) fault
kept_ends taken waiting end begun behind fault k h = record {
  frames = waiting;
  rest = begun;
  splits = record { whole = refl; each = k.each; places = k.places; partial = k.partial };
  first = has_at end (taken + length (concat_frames waiting)) begun begun fault k.ends refl h;
}

-- the kept frames and the bytes after them are those of the stream
pub kept_split : (taken : ℕ) (waiting : List Frame) (end : ℕ) (begun : List ℕ) (behind : ℕ) (frames : List Frame) (rest : List ℕ)
    → IsFeedState taken waiting end begun behind → IsSplitOf taken (concat_frames waiting ++ begun) frames rest → (waiting ≡ frames) × (begun ≡ rest)
kept_split taken waiting end begun behind frames rest k s =
    splits_once taken (concat_frames waiting ++ begun) waiting frames begun rest (record { whole = refl; each = k.each; places = k.places; partial = k.partial }) s

partial_front : (xs ys : List ℕ) → IsPartial (xs ++ ys) → IsPartial xs
partial_front xs ys h f more is e = h f (more ++ ys) is (ap (λ (bs : List ℕ). bs ++ ys) e ∙ append_assoc (bytes_of_frame f) more ys)

-- the bytes that are kept now, and those that aren't, are the earlier ones followed by the piece
advanced_bytes : (end : ℕ) (begun piece : List ℕ) (old new : List Frame) (now_begun : List ℕ) (a : Advance)
    (adv : IsAdvance (keeping old end begun) piece (keeping new a.end now_begun) a.dropped a.fault)
    → (concat_frames old ++ begun) ++ piece ≡ (concat_frames new ++ now_begun) ++ adv.unkept
advanced_bytes end begun piece old new now_begun a adv =
    append_assoc (concat_frames old) begun piece ∙ ap (λ (bs : List ℕ). concat_frames old ++ bs) adv.splits.whole
    ∙ sym (append_assoc (concat_frames old) (concat_frames adv.ended) (now_begun ++ adv.unkept))
    ∙ ap (λ (bs : List ℕ). bs ++ (now_begun ++ adv.unkept)) (sym (flat_map-append bytes_of_frame old adv.ended) ∙ ap concat_frames (sym adv.waiting))
    ∙ sym (append_assoc (concat_frames new) now_begun adv.unkept)

pub kept_advanced : (taken : ℕ) (waiting : List Frame) (end : ℕ) (begun : List ℕ) (behind : ℕ) (piece : List ℕ) (new : List Frame) (now_begun : List ℕ) (a : Advance)
    → IsFeedState taken waiting end begun behind → taken + length (concat_frames waiting ++ begun) + behind + length piece < 2 ^ 63
    → IsAdvance (keeping waiting end begun) piece (keeping new a.end now_begun) a.dropped a.fault → IsFeedState taken new a.end now_begun (behind + a.dropped)
kept_advanced taken waiting end begun behind piece new now_begun a k room adv =
    let places : AreConsecutiveFrom end adv.ended = adv.splits.places in
    let ends : a.end ≡ end + length (concat_frames adv.ended) = adv.end in
    let all : length (concat_frames new) ≡ length (concat_frames waiting) + length (concat_frames adv.ended) = ap (λ (fs : List Frame). length (concat_frames fs)) adv.waiting ∙ length-joined waiting adv.ended in
    let whole : length begun + length piece ≡ length (concat_frames adv.ended) + (length now_begun + length adv.unkept) =
    sym (length-append begun piece) ∙ ap length adv.splits.whole ∙ length-append (concat_frames adv.ended)
    (now_begun ++ adv.unkept) ∙ ap (λ (n : ℕ). length (concat_frames adv.ended) + n)
    (length-append now_begun adv.unkept) in
    let before : length (concat_frames waiting ++ begun) ≡ length (concat_frames waiting) + length begun = length-append (concat_frames waiting) begun in
    record {
      each = subst (All IsFrame) (sym adv.waiting) (All-append IsFrame waiting adv.ended k.each adv.splits.each);
      places = subst (AreConsecutiveFrom taken) (sym adv.waiting) (StandFrom-append taken waiting adv.ended k.places (subst (λ (p : ℕ). AreConsecutiveFrom p adv.ended) k.ends places));
      ends = omega (arith, k.ends, ends);
      partial = partial_front now_begun adv.unkept adv.splits.partial;
      room = omega (arith, k.ends, ends, adv.count);
    }

-- a fault that was found stays if more bytes follow; no fault so far stays if none follow
fault_of_all : (fault : Option FeedFault) (place : ℕ) (xs ys : List ℕ) → HasHeaderFault place xs fault → (fault ≡ None → ys ≡ []) → HasHeaderFault place (xs ++ ys) fault
fault_of_all None place xs ys h clean = has_at place place xs (xs ++ ys) None refl (sym (ap (λ (bs : List ℕ). xs ++ bs) (clean refl) ∙ append-nil xs)) h
fault_of_all (Some fault) place xs ys h clean = fault-append place xs ys fault h

pub ends_advanced : (taken : ℕ) (waiting : List Frame) (end : ℕ) (begun : List ℕ) (behind : ℕ) (piece : List ℕ) (new : List Frame) (now_begun : List ℕ) (a : Advance)
    → IsFeedState taken waiting end begun behind
    → IsAdvance (keeping waiting end begun) piece (keeping new a.end now_begun) a.dropped a.fault → HasFaultSoFar taken ((concat_frames waiting ++ begun) ++ piece) a.fault
ends_advanced taken waiting end begun behind piece new now_begun a k adv =
    let behind_all = splits_behind taken waiting adv.ended (begun ++ piece) (now_begun ++ adv.unkept) k.each k.places
    (subst (λ (p : ℕ). IsSplitOf p (begun ++ piece) adv.ended (now_begun ++ adv.unkept)) k.ends adv.splits) in
    let ends : a.end ≡ end + length (concat_frames adv.ended) = adv.end in
    let place : taken + length (concat_frames (waiting ++ adv.ended)) ≡ a.end = omega (arith, k.ends, ends, length-joined waiting adv.ended) in
    record {
      frames = waiting ++ adv.ended;
      rest = now_begun ++ adv.unkept;
      splits = subst (λ (bs : List ℕ). IsSplitOf taken bs (waiting ++ adv.ended) (now_begun ++ adv.unkept)) (sym (append_assoc (concat_frames waiting) begun piece)) behind_all;
      first = has_at a.end (taken + length (concat_frames (waiting ++ adv.ended))) (now_begun ++ adv.unkept) (now_begun ++ adv.unkept) a.fault (sym place) refl
          (fault_of_all a.fault a.end now_begun adv.unkept adv.first adv.clean);
    }

pub stops : (taken : ℕ) (waiting : List Frame) (end : ℕ) (begun : List ℕ) (behind : ℕ) (piece : List ℕ) (new : List Frame) (now_begun : List ℕ) (a : Advance) (fault : FeedFault)
    → IsFeedState taken new a.end now_begun (behind + a.dropped)
    → IsAdvance (keeping waiting end begun) piece (keeping new a.end now_begun) a.dropped a.fault → a.fault ≡ Some fault
    → HasStoppedAt (seen taken waiting begun behind) piece fault (seen taken new now_begun (behind + a.dropped))
stops taken waiting end begun behind piece new now_begun a fault k adv some = record {
  place = refl;
  kept = kept_ends taken new a.end now_begun (behind + a.dropped) (Some fault) k (subst (HasHeaderFault a.end now_begun) some adv.first);
  dropped = adv.unkept;
  stream = advanced_bytes end begun piece waiting new now_begun a adv;
  behind = omega (arith, adv.count);
}

-- there is no other fault than the one that was found
pub same_fault : (taken : ℕ) (waiting : List Frame) (end : ℕ) (begun : List ℕ) (behind : ℕ) (found : Option FeedFault) (fault : FeedFault)
    → IsFeedState taken waiting end begun behind → HasHeaderFault end begun found → HasFaultSoFar taken (concat_frames waiting ++ begun) (Some fault) → found ≡ Some fault
same_fault taken waiting end begun behind found fault k h e = ends_once taken (concat_frames waiting ++ begun) found (Some fault) (kept_ends taken waiting end begun behind found k h) e

-- the first frame is taken
pub kept_next : (taken : ℕ) (f : Frame) (waiting : List Frame) (end : ℕ) (begun : List ℕ) (behind size : ℕ)
    → IsFeedState taken (f ∷ waiting) end begun behind → size ≡ length f.payload → IsFeedState (taken + (16 + size)) waiting end begun behind
kept_next taken f waiting end begun behind size k e =
    let len = length-bytes_of f in
    let place : taken + length (bytes_of_frame f) ≡ taken + (16 + size) = omega arith in
    record {
      each = All-tail IsFrame f waiting k.each;
      places = subst (λ (p : ℕ). AreConsecutiveFrom p waiting) place k.places.1;
      ends = omega (arith, k.ends, length-append (bytes_of_frame f) (concat_frames waiting));
      partial = k.partial;
      room = k.room;
    }

pub gives : (taken : ℕ) (f : Frame) (waiting : List Frame) (end : ℕ) (begun : List ℕ) (behind size : ℕ)
    → IsFeedState taken (f ∷ waiting) end begun behind → size ≡ length f.payload
    → IsNextFrame (seen taken (f ∷ waiting) begun behind) f (seen (taken + (16 + size)) waiting begun behind)
gives taken f waiting end begun behind size k e =
    let len = length-bytes_of f in
    record {
      frame = All-head IsFrame f waiting k.each;
      first = append_assoc (bytes_of_frame f) (concat_frames waiting) begun;
      place = k.places.0;
      left = omega arith;
      behind = refl;
    }

-- if no fault was found, the stream has none
pub no_fault_before : (taken : ℕ) (waiting : List Frame) (end : ℕ) (begun : List ℕ) (behind : ℕ) (fault : FeedFault)
    → IsFeedState taken waiting end begun behind → HasHeaderFault end begun None → HasFaultSoFar taken (concat_frames waiting ++ begun) (Some fault) → ⊥
no_fault_before taken waiting end begun behind fault k h e =
    let both : None ≡ Some fault = same_fault taken waiting end begun behind None fault k h e in
    cc

-- a frame that is looked up among the kept ones is the stream's frame of this index
pub peeked_some : (Are : List Frame → List ℕ → Type 0) (waiting : List Frame) (count i : ℕ) (r : Option (Bor Frame)) → count ≡ length waiting
    → ((frames : List Frame) (rest : List ℕ) → Are frames rest → waiting ≡ frames)
    → (IsSome r → i < count) → IfSome r (λ f. f.now ≡ slice_index_or waiting i f.now)
    → IfSome r (λ f. (frames : List Frame) (rest : List ℕ) → Are frames rest → slice_get frames i ≡ Some f.now)
peeked_some Are waiting count i None all same within item = tt
peeked_some Are waiting count i (Some f) all same within item = λ frames rest are.
    subst (λ (fs : List Frame). slice_get fs i ≡ Some f.now) (same frames rest are) (slice_get_read waiting count i f.now all (within refl) item)

-- and if none was found, the stream has none of this index
pub peeked_none : (Are : List Frame → List ℕ → Type 0) (waiting : List Frame) (count i : ℕ) (r : Option (Bor Frame)) → count ≡ length waiting
    → ((frames : List Frame) (rest : List ℕ) → Are frames rest → waiting ≡ frames) → (i < count → IsSome r)
    → IfNone r ((frames : List Frame) (rest : List ℕ) → Are frames rest → slice_get frames i ≡ None)
peeked_none Are waiting count i (Some f) all same within = tt
peeked_none Are waiting count i None all same within = λ frames rest are.
    subst (λ (fs : List Frame). slice_get fs i ≡ None) (same frames rest are)
    (slice_get_past waiting i (subst (λ n. n ≤ i) all (elim (cases_lt i count) [ inl less ↦ (let wrong : false ≡ true = within less in absurd cc) | inr more ↦ more ])))
