-- What an end pushes, and what the other end has popped of it.
use Rattle.std.proofs.Common.{◌≡◌, ℕ, Bool, true, false, List, [], ◌∷◌, ◌++◌, refl, ap, sym, ◌∙◌, append_assoc, subst, ⊎_elim}
use Rattle.std.specs.List.{concat}
use Rattle.std.proofs.lemmas.List.{append-nil}
use mathlib.Core.List.{IsPrefix}
use Rattle.spsc_queue.specs.declared.piece.Piece.{Piece}
use Rattle.spsc_queue.specs.declared.piece.Piece.TheVariants.{Bytes, Sentinel}
use Rattle.spsc_queue.specs.Pieces.{bytes_of_pieces, sentinels_of, frames_of_pieces}
use Rattle.spsc_queue.specs.Sides.{ArePrefixComparable}
use Rattle.mem_fabric.specs.Pair.{IsOutgoing, HasDeliveredAll}

module _ {M : Type 0} where
  pub frames_snoc_bytes : (pieces : List (Piece M)) (frame : List ℕ) → frames_of_pieces (pieces ++ Bytes frame ∷ []) ≡ frames_of_pieces pieces ++ frame ∷ []
  frames_snoc_bytes [] frame = refl
  frames_snoc_bytes (Bytes f ∷ ps) frame = ap (λ r. f ∷ r) (frames_snoc_bytes ps frame)
  frames_snoc_bytes (Sentinel m ∷ ps) frame = frames_snoc_bytes ps frame

  pub frames_snoc_mark : (pieces : List (Piece M)) (mark : M) → frames_of_pieces (pieces ++ Sentinel mark ∷ []) ≡ frames_of_pieces pieces
  frames_snoc_mark [] mark = refl
  frames_snoc_mark (Bytes f ∷ ps) mark = ap (λ r. f ∷ r) (frames_snoc_mark ps mark)
  frames_snoc_mark (Sentinel m ∷ ps) mark = frames_snoc_mark ps mark

  pub outgoing_frame : (pieces : List (Piece M)) (frame : List ℕ) → IsOutgoing false pieces → IsOutgoing false (pieces ++ Bytes frame ∷ [])
  outgoing_frame [] frame h = refl
  outgoing_frame (Bytes f ∷ ps) frame h = outgoing_frame ps frame h
  outgoing_frame (Sentinel m ∷ ps) frame h = absurd (cc (h.0))

  pub outgoing_mark : (pieces : List (Piece M)) (mark : M) → IsOutgoing false pieces → IsOutgoing true (pieces ++ Sentinel mark ∷ [])
  outgoing_mark [] mark h = (refl, refl)
  outgoing_mark (Bytes f ∷ ps) mark h = outgoing_mark ps mark h
  outgoing_mark (Sentinel m ∷ ps) mark h = absurd (cc (h.0))

  -- a prefix with an end sentinel is the whole list
  pub whole_with_mark : (finished : Bool) (xs pieces : List (Piece M)) → IsOutgoing finished pieces
      → IsPrefix xs pieces → (sentinels_of xs ≡ [] → ⊥) → (finished ≡ true) × (xs ≡ pieces)
  whole_with_mark finished [] pieces h p marked = absurd (marked refl)
  whole_with_mark finished (x ∷ xs) [] h p marked = absurd (cc (p.1))
  whole_with_mark finished (Bytes b ∷ xs) (Bytes c ∷ ps) h p marked =
      let r = whole_with_mark finished xs ps h (p.0, cc (p.1)) marked in (r.0, cc (r.1, p.1))
  whole_with_mark finished (Bytes b ∷ xs) (Sentinel c ∷ ps) h p marked = absurd (cc (p.1))
  whole_with_mark finished (Sentinel m ∷ xs) (Bytes c ∷ ps) h p marked = absurd (cc (p.1))
  whole_with_mark finished (Sentinel m ∷ []) (Sentinel c ∷ ps) h p marked = (h.0, cc (h.1, p.1))
  whole_with_mark finished (Sentinel m ∷ y ∷ ys) (Sentinel c ∷ ps) h p marked = absurd (cc (h.1, p.1))

  pub bytes_of_frames : (pieces : List (Piece M)) → bytes_of_pieces pieces ≡ concat (frames_of_pieces pieces)
  bytes_of_frames [] = refl
  bytes_of_frames (Bytes b ∷ ps) = ap (λ r. b ++ r) (bytes_of_frames ps)
  bytes_of_frames (Sentinel m ∷ ps) = bytes_of_frames ps

  pub bytes_of_prefix : (xs ys : List (Piece M)) → IsPrefix xs ys → IsPrefix (bytes_of_pieces xs) (bytes_of_pieces ys)
  bytes_of_prefix [] ys p = (bytes_of_pieces ys, refl)
  bytes_of_prefix (x ∷ xs) [] p = absurd (cc (p.1))
  bytes_of_prefix (Bytes b ∷ xs) (Bytes c ∷ ys) p =
      let r = bytes_of_prefix xs ys (p.0, cc (p.1)) in
      let same : b ≡ c = cc (p.1) in
      (r.0, append_assoc b (bytes_of_pieces xs) r.0 ∙ ap (λ t. b ++ t) r.1 ∙ ap (λ t. t ++ bytes_of_pieces ys) same)
  bytes_of_prefix (Bytes b ∷ xs) (Sentinel c ∷ ys) p = absurd (cc (p.1))
  bytes_of_prefix (Sentinel m ∷ xs) (Bytes c ∷ ys) p = absurd (cc (p.1))
  bytes_of_prefix (Sentinel m ∷ xs) (Sentinel c ∷ ys) p = bytes_of_prefix xs ys (p.0, cc (p.1))

  -- what is known to be pushed is comparable with what was popped up to the end sentinel, so all of it was popped
  pub told_taken : (finished : Bool) (told taken : List (Piece M)) → IsOutgoing finished told → ArePrefixComparable told taken → (sentinels_of taken ≡ [] → ⊥) → IsPrefix told taken
  told_taken finished told taken h agree marked =
      ⊎_elim (λ (p : IsPrefix told taken). p) (λ (p : IsPrefix taken told). ([], append-nil told ∙ sym (whole_with_mark finished taken told h p marked).1)) agree

  marked_by : (xs : List M) (x : M) → xs ++ x ∷ [] ≡ [] → ⊥
  marked_by [] x e = cc (e)
  marked_by (y ∷ ys) x e = cc (e)

  -- a sentinel was found, and every byte before it delivered
  pub ends_with_all : (finished : Bool) (told told' taken taken' : List (Piece M)) (given : List ℕ) (mark : M) → IsOutgoing finished told → told' ≡ told
      → sentinels_of taken' ≡ sentinels_of taken ++ mark ∷ [] → ArePrefixComparable told taken' → given ≡ bytes_of_pieces taken' → HasDeliveredAll taken' told' given
  ends_with_all finished told told' taken taken' given mark h same marks agree all =
      let marked : sentinels_of taken' ≡ [] → ⊥ = λ none. marked_by (sentinels_of taken) mark (sym marks ∙ none) in
      let p : IsPrefix (bytes_of_pieces told) (bytes_of_pieces taken') = bytes_of_prefix told taken' (told_taken finished told taken' h agree marked) in
      record {
        marked = marked;
        gave = all;
        knows = (p.0, ap (λ t. bytes_of_pieces t ++ p.0) same ∙ p.1 ∙ sym all);
      }

  -- the queue was empty, and every byte was delivered
  pub finds_all : (told taken : List (Piece M)) (given : List ℕ) → IsPrefix told taken → given ≡ bytes_of_pieces taken → IsPrefix (bytes_of_pieces told) given
  finds_all told taken given q all =
      let p = bytes_of_prefix told taken q in (p.0, p.1 ∙ sym all)

  -- the two ends of a queue are reconciled after the end sentinel was popped
  pub met_after_end : (finished : Bool) (put put' taken taken' told told' : List (Piece M)) (given given' : List ℕ) → IsOutgoing finished put
      → put' ≡ put → taken' ≡ taken → given' ≡ given → told' ≡ put' → IsPrefix taken' put' → HasDeliveredAll taken told given
      → (finished ≡ true) × (given' ≡ concat (frames_of_pieces put')) × HasDeliveredAll taken' told' given'
  met_after_end finished put put' taken taken' told told' given given' out put_is taken_is given_is told_is p h =
      let marked : sentinels_of taken' ≡ [] → ⊥ = λ none. h.marked (ap sentinels_of (sym taken_is) ∙ none) in
      let all = whole_with_mark finished taken' put' (subst (IsOutgoing finished) (sym put_is) out) p marked in
      let gave : given' ≡ bytes_of_pieces taken' = given_is ∙ h.gave ∙ ap bytes_of_pieces (sym taken_is) in (
        all.0,
        gave ∙ ap bytes_of_pieces all.1 ∙ bytes_of_frames put',
        record {
          marked = marked;
          gave = gave;
          knows = ([], append-nil (bytes_of_pieces told') ∙ ap bytes_of_pieces told_is ∙ ap bytes_of_pieces (sym all.1) ∙ sym gave);
        },
      )
