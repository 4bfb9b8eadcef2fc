-- Pieces in the queue to a writer and in the queue back.
use Rattle.std.proofs.Common.{◌≡◌, ℕ, Bool, true, false, true≢false, List, [], ◌∷◌, ◌++◌, Some, length}
use Rattle.std.proofs.Common.{take, drop, refl, ap, sym, ◌∙◌, append_assoc, subst, inl, inr, ⊎_elim}
use Rattle.std.proofs.lemmas.List.{append-nil, take-append-drop}
use Rattle.std.proofs.Math.Seq.{take-length, take-append_seam}
use mathlib.Core.List.{IsPrefix}
use Rattle.spsc_queue.specs.declared.piece.Piece.{Piece}
use Rattle.spsc_queue.specs.declared.piece.Piece.TheVariants.{Bytes, Sentinel}
use Rattle.spsc_queue.specs.Pieces.{bytes_of_pieces, sentinels_of, frames_of_pieces}
use Rattle.link_queue.specs.declared.orders.Order.{Order}
use Rattle.link_queue.specs.declared.orders.Order.TheVariants.{Finish, Close}
use Rattle.link_queue.specs.declared.orders.News.{News}
use Rattle.link_queue.specs.declared.orders.News.TheVariants.{End, Failed, Memory}
use Rattle.link_queue.specs.Known.{IsPrefix as HasPrefix}
use Rattle.link_queue.specs.Sentinels.{IsSentinelIn, is_open, is_closed, has_finished, has_no_bytes, ends_once, held_bytes, may_hold}

module _ {M : Type 0} where
  pub frames_snoc_bytes : (pieces : List (Piece M)) (frame : List ℕ) → frames_of_pieces (pieces ++ Bytes frame ∷ []) ≡ frames_of_pieces pieces ++ frame ∷ []
  frames_snoc_bytes [] frame = refl
  frames_snoc_bytes (Bytes f ∷ ps) frame = ap (λ r. f ∷ r) (frames_snoc_bytes ps frame)
  frames_snoc_bytes (Sentinel m ∷ ps) frame = frames_snoc_bytes ps frame

  pub frames_snoc_mark : (pieces : List (Piece M)) (mark : M) → frames_of_pieces (pieces ++ Sentinel mark ∷ []) ≡ frames_of_pieces pieces
  frames_snoc_mark [] mark = refl
  frames_snoc_mark (Bytes f ∷ ps) mark = ap (λ r. f ∷ r) (frames_snoc_mark ps mark)
  frames_snoc_mark (Sentinel m ∷ ps) mark = frames_snoc_mark ps mark

  pub bytes_snoc_mark : (pieces : List (Piece M)) (mark : M) → bytes_of_pieces (pieces ++ Sentinel mark ∷ []) ≡ bytes_of_pieces pieces
  bytes_snoc_mark [] mark = refl
  bytes_snoc_mark (Bytes f ∷ ps) mark = ap (λ r. f ++ r) (bytes_snoc_mark ps mark)
  bytes_snoc_mark (Sentinel m ∷ ps) mark = bytes_snoc_mark ps mark

  pub bytes_snoc_bytes : (pieces : List (Piece M)) (bytes : List ℕ) → bytes_of_pieces (pieces ++ Bytes bytes ∷ []) ≡ bytes_of_pieces pieces ++ bytes
  bytes_snoc_bytes [] bytes = append-nil bytes
  bytes_snoc_bytes (Bytes b ∷ ps) bytes = ap (λ r. b ++ r) (bytes_snoc_bytes ps bytes) ∙ sym (append_assoc b (bytes_of_pieces ps) bytes)
  bytes_snoc_bytes (Sentinel m ∷ ps) bytes = bytes_snoc_bytes ps bytes

  pub marks_snoc_bytes : (pieces : List (Piece M)) (bytes : List ℕ) → sentinels_of (pieces ++ Bytes bytes ∷ []) ≡ sentinels_of pieces
  marks_snoc_bytes [] bytes = refl
  marks_snoc_bytes (Bytes b ∷ ps) bytes = marks_snoc_bytes ps bytes
  marks_snoc_bytes (Sentinel m ∷ ps) bytes = ap (λ r. m ∷ r) (marks_snoc_bytes ps bytes)

  pub marks_snoc_mark : (pieces : List (Piece M)) (mark : M) → sentinels_of (pieces ++ Sentinel mark ∷ []) ≡ sentinels_of pieces ++ mark ∷ []
  marks_snoc_mark [] mark = refl
  marks_snoc_mark (Bytes b ∷ ps) mark = marks_snoc_mark ps mark
  marks_snoc_mark (Sentinel m ∷ ps) mark = ap (λ r. m ∷ r) (marks_snoc_mark ps mark)

  marks_of_append : (xs ys : List (Piece M)) → sentinels_of (xs ++ ys) ≡ sentinels_of xs ++ sentinels_of ys
  marks_of_append [] ys = refl
  marks_of_append (Bytes b ∷ xs) ys = marks_of_append xs ys
  marks_of_append (Sentinel m ∷ xs) ys = ap (λ r. m ∷ r) (marks_of_append xs ys)

  pub among_last : (m : M) (xs : List M) → IsSentinelIn m (xs ++ m ∷ [])
  among_last m [] = inl refl
  among_last m (x ∷ xs) = inr (among_last m xs)

  among_more : (m : M) (xs ys : List M) → IsSentinelIn m xs → IsSentinelIn m (xs ++ ys)
  among_more m [] ys h = absurd h
  among_more m (x ∷ xs) ys h = ⊎_elim (λ (e : x ≡ m). inl e) (λ (r : IsSentinelIn m xs). inr (among_more m xs ys r)) h

  among_front : (m x : M) (xs : List M) → (x ≡ m → ⊥) → IsSentinelIn m (xs ++ x ∷ []) → IsSentinelIn m xs
  among_front m x [] apart h = ⊎_elim (λ (e : x ≡ m). apart e) (λ (r : ⊥). r) h
  among_front m x (y ∷ ys) apart h = ⊎_elim (λ (e : y ≡ m). inl e) (λ (r : IsSentinelIn m (ys ++ x ∷ [])). inr (among_front m x ys apart r)) h

  -- a sentinel of a prefix is a sentinel of the whole list
  pub among_whole : (m : M) (xs ys : List (Piece M)) → IsPrefix xs ys → IsSentinelIn m (sentinels_of xs) → IsSentinelIn m (sentinels_of ys)
  among_whole m xs ys p h = subst (IsSentinelIn m) (sym (marks_of_append xs p.0) ∙ ap sentinels_of p.1) (among_more m (sentinels_of xs) (sentinels_of p.0) h)

  -- a sentinel that was found is among the sentinels, and those before it are unchanged
  pub found_among : (m found : M) (before after : List M) → after ≡ before ++ found ∷ [] → found ≡ m → IsSentinelIn m after
  found_among m found before after more same = subst (IsSentinelIn m) (ap (λ x. before ++ x ∷ []) (sym same) ∙ sym more) (among_last m before)

  pub found_too : (m found : M) (before after : List M) → after ≡ before ++ found ∷ [] → IsSentinelIn m before → IsSentinelIn m after
  found_too m found before after more a = subst (IsSentinelIn m) (sym more) (among_more m before (found ∷ []) a)

  -- the queue was empty, and every byte was delivered
  bytes_of_prefix : (front whole : List (Piece M)) → IsPrefix front whole → IsPrefix (bytes_of_pieces front) (bytes_of_pieces whole)
  bytes_of_prefix [] whole p = (bytes_of_pieces whole, refl)
  bytes_of_prefix (x ∷ xs) [] p = absurd (cc (p.1))
  bytes_of_prefix (Bytes b ∷ xs) (Bytes c ∷ ys) p =
      let same : b ≡ c = cc (p.1) in
      let q = bytes_of_prefix xs ys (p.0, cc (p.1)) in
      (q.0, append_assoc b (bytes_of_pieces xs) q.0 ∙ ap (λ l. b ++ l) q.1 ∙ ap (λ l. l ++ bytes_of_pieces ys) same)
  bytes_of_prefix (Bytes b ∷ xs) (Sentinel m ∷ ys) p = absurd (cc (p.1))
  bytes_of_prefix (Sentinel m ∷ xs) (Bytes c ∷ ys) p = absurd (cc (p.1))
  bytes_of_prefix (Sentinel m ∷ xs) (Sentinel n ∷ ys) p = bytes_of_prefix xs ys (p.0, cc (p.1))

  pub finds_all : (told taken : List (Piece M)) (given : List ℕ) → IsPrefix told taken → given ≡ bytes_of_pieces taken → IsPrefix (bytes_of_pieces told) given
  finds_all told taken given q all =
      let p = bytes_of_prefix told taken q in (p.0, p.1 ∙ sym all)

-- ---- to the writer
pub open_snoc_bytes : (pieces : List (Piece Order)) (frame : List ℕ) → is_open pieces ≡ true → is_open (pieces ++ Bytes frame ∷ []) ≡ true
open_snoc_bytes [] frame h = refl
open_snoc_bytes (Bytes f ∷ ps) frame h = open_snoc_bytes ps frame h
open_snoc_bytes (Sentinel Finish ∷ ps) frame h = open_snoc_bytes ps frame h
open_snoc_bytes (Sentinel Close ∷ ps) frame h = absurd (cc (h))

pub open_snoc_finish : (pieces : List (Piece Order)) → is_open pieces ≡ true → is_open (pieces ++ Sentinel Finish ∷ []) ≡ true
open_snoc_finish [] h = refl
open_snoc_finish (Bytes f ∷ ps) h = open_snoc_finish ps h
open_snoc_finish (Sentinel Finish ∷ ps) h = open_snoc_finish ps h
open_snoc_finish (Sentinel Close ∷ ps) h = absurd (cc (h))

pub closed_snoc_close : (pieces : List (Piece Order)) → is_open pieces ≡ true → is_closed (pieces ++ Sentinel Close ∷ []) ≡ true
closed_snoc_close [] h = refl
closed_snoc_close (Bytes f ∷ ps) h = closed_snoc_close ps h
closed_snoc_close (Sentinel Finish ∷ ps) h = closed_snoc_close ps h
closed_snoc_close (Sentinel Close ∷ ps) h = absurd (cc (h))

pub finished_snoc_bytes : (pieces : List (Piece Order)) (frame : List ℕ) → has_finished (pieces ++ Bytes frame ∷ []) ≡ has_finished pieces
finished_snoc_bytes [] frame = refl
finished_snoc_bytes (Bytes f ∷ ps) frame = finished_snoc_bytes ps frame
finished_snoc_bytes (Sentinel Finish ∷ ps) frame = refl
finished_snoc_bytes (Sentinel Close ∷ ps) frame = finished_snoc_bytes ps frame

pub finished_snoc_finish : (pieces : List (Piece Order)) → has_finished (pieces ++ Sentinel Finish ∷ []) ≡ true
finished_snoc_finish [] = refl
finished_snoc_finish (Bytes f ∷ ps) = finished_snoc_finish ps
finished_snoc_finish (Sentinel Finish ∷ ps) = refl
finished_snoc_finish (Sentinel Close ∷ ps) = finished_snoc_finish ps

-- if one of two closed lists is a prefix of the other, they are equal
pub closed_whole : (xs ys : List (Piece Order)) → is_closed xs ≡ true → is_closed ys ≡ true → IsPrefix xs ys → xs ≡ ys
closed_whole [] ys h k p = absurd (cc (h))
closed_whole (x ∷ xs) [] h k p = absurd (cc (k))
closed_whole (Bytes b ∷ xs) (Bytes c ∷ ys) h k p = let r = closed_whole xs ys h k (p.0, cc (p.1)) in cc (r, p.1)
closed_whole (Bytes b ∷ xs) (Sentinel m ∷ ys) h k p = absurd (cc (p.1))
closed_whole (Sentinel m ∷ xs) (Bytes c ∷ ys) h k p = absurd (cc (p.1))
closed_whole (Sentinel Finish ∷ xs) (Sentinel Finish ∷ ys) h k p = let r = closed_whole xs ys h k (p.0, cc (p.1)) in cc (r, p.1)
closed_whole (Sentinel Finish ∷ xs) (Sentinel Close ∷ ys) h k p = absurd (cc (p.1))
closed_whole (Sentinel Close ∷ xs) (Sentinel Finish ∷ ys) h k p = absurd (cc (p.1))
closed_whole (Sentinel Close ∷ []) (Sentinel Close ∷ []) h k p = refl
closed_whole (Sentinel Close ∷ []) (Sentinel Close ∷ y ∷ ys) h k p = absurd (cc (k))
closed_whole (Sentinel Close ∷ x ∷ xs) (Sentinel Close ∷ ys) h k p = absurd (cc (h))

-- ---- the queue back
marks_only_snoc : (pieces : List (Piece News)) (m : News) → has_no_bytes pieces ≡ true → has_no_bytes (pieces ++ Sentinel m ∷ []) ≡ true
marks_only_snoc [] m h = refl
marks_only_snoc (Bytes b ∷ ps) m h = absurd (cc (h))
marks_only_snoc (Sentinel x ∷ ps) m h = marks_only_snoc ps m h

pub ends_snoc_mark : (pieces : List (Piece News)) (m : News) → ends_once pieces ≡ true → ends_once (pieces ++ Sentinel m ∷ []) ≡ true
ends_snoc_mark [] End h = refl
ends_snoc_mark [] Failed h = refl
ends_snoc_mark [] Memory h = refl
ends_snoc_mark (Bytes b ∷ ps) m h = ends_snoc_mark ps m h
ends_snoc_mark (Sentinel End ∷ ps) m h = marks_only_snoc ps m h
ends_snoc_mark (Sentinel Failed ∷ ps) m h = ends_snoc_mark ps m h
ends_snoc_mark (Sentinel Memory ∷ ps) m h = ends_snoc_mark ps m h

pub ends_snoc_bytes : (pieces : List (Piece News)) (bytes : List ℕ) → ends_once pieces ≡ true
    → (IsSentinelIn End (sentinels_of pieces) → ⊥) → ends_once (pieces ++ Bytes bytes ∷ []) ≡ true
ends_snoc_bytes [] bytes h apart = refl
ends_snoc_bytes (Bytes b ∷ ps) bytes h apart = ends_snoc_bytes ps bytes h apart
ends_snoc_bytes (Sentinel End ∷ ps) bytes h apart = absurd (apart (inl refl))
ends_snoc_bytes (Sentinel Failed ∷ ps) bytes h apart = ends_snoc_bytes ps bytes h (λ r. apart (inr r))
ends_snoc_bytes (Sentinel Memory ∷ ps) bytes h apart = ends_snoc_bytes ps bytes h (λ r. apart (inr r))

no_bytes_of : (pieces : List (Piece News)) → has_no_bytes pieces ≡ true → bytes_of_pieces pieces ≡ []
no_bytes_of [] h = refl
no_bytes_of (Bytes b ∷ ps) h = absurd (cc (h))
no_bytes_of (Sentinel m ∷ ps) h = no_bytes_of ps h

same_none : (xs ys : List (Piece News)) → has_no_bytes ys ≡ true → IsPrefix xs ys → bytes_of_pieces xs ≡ bytes_of_pieces ys
same_none [] ys h p = sym (no_bytes_of ys h)
same_none (x ∷ xs) [] h p = absurd (cc (p.1))
same_none (x ∷ xs) (Bytes b ∷ ys) h p = absurd (cc (h))
same_none (Bytes b ∷ xs) (Sentinel m ∷ ys) h p = absurd (cc (p.1))
same_none (Sentinel n ∷ xs) (Sentinel m ∷ ys) h p = same_none xs ys h (p.0, cc (p.1))

-- all bytes come before the end
pub end_whole : (xs ys : List (Piece News)) → ends_once ys ≡ true → IsPrefix xs ys → IsSentinelIn End (sentinels_of xs) → bytes_of_pieces xs ≡ bytes_of_pieces ys
end_whole [] ys h p a = absurd a
end_whole (x ∷ xs) [] h p a = absurd (cc (p.1))
end_whole (Bytes b ∷ xs) (Bytes c ∷ ys) h p a =
    let same : b ≡ c = cc (p.1) in
    ap (λ t. t ++ bytes_of_pieces xs) same ∙ ap (λ t. c ++ t) (end_whole xs ys h (p.0, cc (p.1)) a)
end_whole (Bytes b ∷ xs) (Sentinel m ∷ ys) h p a = absurd (cc (p.1))
end_whole (Sentinel m ∷ xs) (Bytes c ∷ ys) h p a = absurd (cc (p.1))
end_whole (Sentinel m ∷ xs) (Sentinel End ∷ ys) h p a = same_none xs ys h (p.0, cc (p.1))
end_whole (Sentinel m ∷ xs) (Sentinel Failed ∷ ys) h p a =
    end_whole xs ys h (p.0, cc (p.1)) (⊎_elim (λ (e : m ≡ End). absurd (cc (e, p.1))) (λ (r : IsSentinelIn End (sentinels_of xs)). r) a)
end_whole (Sentinel m ∷ xs) (Sentinel Memory ∷ ys) h p a =
    end_whole xs ys h (p.0, cc (p.1)) (⊎_elim (λ (e : m ≡ End). absurd (cc (e, p.1))) (λ (r : IsSentinelIn End (sentinels_of xs)). r) a)

-- ---- a writer pushes what it holds into the queue back
pub put_bytes : (pieces : List (Piece News)) (piece : Piece News) → bytes_of_pieces (pieces ++ piece ∷ []) ≡ bytes_of_pieces pieces ++ held_bytes (Some piece)
put_bytes pieces (Bytes b) = bytes_snoc_bytes pieces b
put_bytes pieces (Sentinel m) = bytes_snoc_mark pieces m ∙ sym (append-nil (bytes_of_pieces pieces))

pub put_ends : (ended : Bool) (pieces : List (Piece News)) (piece : Piece News) → may_hold ended (Some piece) ≡ true
    → (IsSentinelIn End (sentinels_of pieces) → ended ≡ true) → ends_once pieces ≡ true → ends_once (pieces ++ piece ∷ []) ≡ true
put_ends true pieces (Bytes b) may first h = absurd (cc (may))
put_ends false pieces (Bytes b) may first h = ends_snoc_bytes pieces b h (λ a. true≢false (sym (first a)))
put_ends ended pieces (Sentinel m) may first h = ends_snoc_mark pieces m h

pub put_ended : (ended : Bool) (pieces : List (Piece News)) (piece : Piece News) → may_hold ended (Some piece) ≡ true
    → (IsSentinelIn End (sentinels_of pieces) → ended ≡ true) → IsSentinelIn End (sentinels_of (pieces ++ piece ∷ [])) → ended ≡ true
put_ended ended pieces (Bytes b) may first a = first (subst (IsSentinelIn End) (marks_snoc_bytes pieces b) a)
put_ended true pieces (Sentinel m) may first a = refl
put_ended false pieces (Sentinel End) may first a = absurd (cc (may))
put_ended false pieces (Sentinel Failed) may first a = absurd (cc (may))
put_ended false pieces (Sentinel Memory) may first a = absurd (cc (may))

pub put_failed : (ended : Bool) (pieces : List (Piece News)) (piece : Piece News) → may_hold ended (Some piece) ≡ true
    → IsSentinelIn Failed (sentinels_of (pieces ++ piece ∷ [])) → IsSentinelIn Failed (sentinels_of pieces)
put_failed ended pieces (Bytes b) may a = subst (IsSentinelIn Failed) (marks_snoc_bytes pieces b) a
put_failed ended pieces (Sentinel End) may a = among_front Failed End (sentinels_of pieces) (λ e. cc (e)) (subst (IsSentinelIn Failed) (marks_snoc_mark pieces End) a)
put_failed ended pieces (Sentinel Failed) may a = absurd (cc (may))
put_failed ended pieces (Sentinel Memory) may a = absurd (cc (may))

-- a sentinel that reports on the inner link
pub told_ended : (pieces : List (Piece News)) (m : News) → (m ≡ End → ⊥) → IsSentinelIn End (sentinels_of (pieces ++ Sentinel m ∷ [])) → IsSentinelIn End (sentinels_of pieces)
told_ended pieces m apart a = among_front End m (sentinels_of pieces) apart (subst (IsSentinelIn End) (marks_snoc_mark pieces m) a)

pub told_failed : (pieces : List (Piece News)) (m : News) → (m ≡ Failed → ⊥) → IsSentinelIn Failed (sentinels_of (pieces ++ Sentinel m ∷ [])) → IsSentinelIn Failed (sentinels_of pieces)
told_failed pieces m apart a = among_front Failed m (sentinels_of pieces) apart (subst (IsSentinelIn Failed) (marks_snoc_mark pieces m) a)

-- ---- prefixes
module _ {A : Type 0} where
  pub begins_same : (xs front : List A) → front ≡ xs → HasPrefix xs front
  begins_same xs front e = ap (λ n. take n xs) (ap length e) ∙ take-length xs ∙ sym e

  pub begins_append : (front rest : List A) → HasPrefix (front ++ rest) front
  begins_append front rest = take-append_seam front rest

  pub begins_prefix : (xs front : List A) → HasPrefix xs front → IsPrefix front xs
  begins_prefix xs front e = (drop (length front) xs, ap (λ f. f ++ drop (length front) xs) (sym e) ∙ take-append-drop (length front) xs)

  pub begins_more : (xs front more : List A) → HasPrefix xs front → HasPrefix (xs ++ more) front
  begins_more xs front more e =
      let p = begins_prefix xs front e in
      subst (λ (l : List A). HasPrefix l front) (sym (append_assoc front p.0 more) ∙ ap (λ l. l ++ more) p.1) (begins_append front (p.0 ++ more))
