-- The bytes that a reader has delivered, and the remainder of its current piece.
use Rattle.std.proofs.Common.{◌≡◌, ◌≤◌, ℕ, ◌+◌, ◌-◌, length, length-drop, List, [], ◌∷◌, ◌++◌, take, drop, refl, ap, sym, ◌∙◌, append_assoc}
use Rattle.std.proofs.Math.Seq.{take-length}
use Rattle.std.proofs.Math.ListN.{drop_of_length-le}
use Rattle.std.proofs.lemmas.List.{append-nil, drop-drop, take-append-drop}
use mathlib.Core.List.{IsPrefix}
use Rattle.spsc_queue.specs.declared.piece.Piece.{Piece}
use Rattle.spsc_queue.specs.declared.piece.Piece.TheVariants.{Bytes, Sentinel}
use Rattle.spsc_queue.specs.Pieces.{bytes_of_pieces, sentinels_of}

-- the next n bytes move from the remainder to the delivered ones
pub gives_more : (given piece all : List ℕ) (at n : ℕ) → given ++ drop at piece ≡ all → (given ++ take n (drop at piece)) ++ drop (at + n) piece ≡ all
gives_more given piece all at n is =
    append_assoc given (take n (drop at piece)) (drop (at + n) piece)
    ∙ ap (λ r. given ++ (take n (drop at piece) ++ r)) (sym (drop-drop n at piece))
    ∙ ap (λ r. given ++ r) (take-append-drop n (drop at piece))
    ∙ is

-- the bytes from an offset on are those that dropping leaves
pub left_whole : (bytes piece : List ℕ) (at : ℕ) → bytes ≡ piece → take (length bytes - at) (drop at bytes) ≡ drop at piece
left_whole bytes piece at is = ap (λ n. take n (drop at bytes)) (sym (length-drop at bytes)) ∙ take-length (drop at bytes) ∙ ap (drop at) is

module _ {M : Type 0} where
  pub bytes_of_snoc_bytes : (pieces : List (Piece M)) (bytes : List ℕ) → bytes_of_pieces (pieces ++ Bytes bytes ∷ []) ≡ bytes_of_pieces pieces ++ bytes
  bytes_of_snoc_bytes [] bytes = append-nil bytes
  bytes_of_snoc_bytes (Bytes b ∷ ps) bytes = ap (λ r. b ++ r) (bytes_of_snoc_bytes ps bytes) ∙ sym (append_assoc b (bytes_of_pieces ps) bytes)
  bytes_of_snoc_bytes (Sentinel m ∷ ps) bytes = bytes_of_snoc_bytes ps bytes

  pub bytes_of_snoc_mark : (pieces : List (Piece M)) (mark : M) → bytes_of_pieces (pieces ++ Sentinel mark ∷ []) ≡ bytes_of_pieces pieces
  bytes_of_snoc_mark [] mark = refl
  bytes_of_snoc_mark (Bytes b ∷ ps) mark = ap (λ r. b ++ r) (bytes_of_snoc_mark ps mark)
  bytes_of_snoc_mark (Sentinel m ∷ ps) mark = bytes_of_snoc_mark ps mark

  pub marks_of_snoc_bytes : (pieces : List (Piece M)) (bytes : List ℕ) → sentinels_of (pieces ++ Bytes bytes ∷ []) ≡ sentinels_of pieces
  marks_of_snoc_bytes [] bytes = refl
  marks_of_snoc_bytes (Bytes b ∷ ps) bytes = marks_of_snoc_bytes ps bytes
  marks_of_snoc_bytes (Sentinel m ∷ ps) bytes = ap (λ r. m ∷ r) (marks_of_snoc_bytes ps bytes)

  pub marks_of_snoc_mark : (pieces : List (Piece M)) (mark : M) → sentinels_of (pieces ++ Sentinel mark ∷ []) ≡ sentinels_of pieces ++ mark ∷ []
  marks_of_snoc_mark [] mark = refl
  marks_of_snoc_mark (Bytes b ∷ ps) mark = marks_of_snoc_mark ps mark
  marks_of_snoc_mark (Sentinel m ∷ ps) mark = ap (λ r. m ∷ r) (marks_of_snoc_mark ps mark)

  -- once a piece was delivered completely, the bytes of the next are the remainder
  pub takes_bytes : (given piece : List ℕ) (at : ℕ) (old new : List (Piece M)) (bytes : List ℕ)
      → given ++ drop at piece ≡ bytes_of_pieces old → length piece ≤ at → new ≡ old ++ Bytes bytes ∷ []
      → given ++ bytes ≡ bytes_of_pieces new
  takes_bytes given piece at old new bytes is done more =
      let all : given ≡ bytes_of_pieces old = sym (append-nil given) ∙ ap (λ r. given ++ r) (sym (drop_of_length-le piece done)) ∙ is in
      ap (λ r. r ++ bytes) all ∙ sym (bytes_of_snoc_bytes old bytes) ∙ ap bytes_of_pieces (sym more)

  bytes_of_append : (xs ys : List (Piece M)) → bytes_of_pieces (xs ++ ys) ≡ bytes_of_pieces xs ++ bytes_of_pieces ys
  bytes_of_append [] ys = refl
  bytes_of_append (Bytes b ∷ xs) ys = ap (λ r. b ++ r) (bytes_of_append xs ys) ∙ sym (append_assoc b (bytes_of_pieces xs) (bytes_of_pieces ys))
  bytes_of_append (Sentinel m ∷ xs) ys = bytes_of_append xs ys

  -- what was delivered of a prefix of the pieces is a prefix of their bytes
  pub given_prefix : (given rest : List ℕ) (taken put : List (Piece M)) → given ++ rest ≡ bytes_of_pieces taken → IsPrefix taken put → IsPrefix given (bytes_of_pieces put)
  given_prefix given rest taken put is p =
      (rest ++ bytes_of_pieces p.0, sym (append_assoc given rest (bytes_of_pieces p.0)) ∙ ap (λ r. r ++ bytes_of_pieces p.0) is ∙ sym (bytes_of_append taken p.0) ∙ ap bytes_of_pieces p.1)
