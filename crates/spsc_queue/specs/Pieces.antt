-- The bytes and the sentinels of a queue of bytes.
use Rattle.std.specs.Prelude.{ℕ, List, [], ◌∷◌, ◌++◌, ⊤}
use Rattle.spsc_queue.specs.declared.piece.Piece.{Piece}
use Rattle.spsc_queue.specs.declared.piece.Piece.TheVariants.{Bytes, Sentinel}
use Rattle.spsc_queue.specs.declared.piece.ReadResult.{ReadResult}
use Rattle.spsc_queue.specs.declared.piece.ReadResult.TheVariants.{Bytes as FoundBytes, Sentinel as FoundMark, Nothing}
use Rattle.spsc_queue.specs.declared.piece_reader.NextPiece.{NextPiece}
use Rattle.spsc_queue.specs.declared.piece_reader.NextPiece.TheVariants.{Bytes as NextBytes, Sentinel as NextMark, Nothing as NoNext}

module _ {M : Type 0} where
  -- the bytes of some pieces, concatenated
  abbrev pub bytes_of_pieces : List (Piece M) → List ℕ
  bytes_of_pieces [] = []
  bytes_of_pieces (Bytes bytes ∷ pieces) = bytes ++ bytes_of_pieces pieces
  bytes_of_pieces (Sentinel mark ∷ pieces) = bytes_of_pieces pieces

  -- the pieces that are bytes; they are frames if each frame was pushed as one piece
  abbrev pub frames_of_pieces : List (Piece M) → List (List ℕ)
  frames_of_pieces [] = []
  frames_of_pieces (Bytes frame ∷ pieces) = frame ∷ frames_of_pieces pieces
  frames_of_pieces (Sentinel mark ∷ pieces) = frames_of_pieces pieces

  -- the sentinels among some pieces
  abbrev pub sentinels_of : List (Piece M) → List M
  sentinels_of [] = []
  sentinels_of (Bytes bytes ∷ pieces) = sentinels_of pieces
  sentinels_of (Sentinel mark ∷ pieces) = mark ∷ sentinels_of pieces

  -- P holds of the number of bytes, if a read delivered bytes
  abbrev pub OnBytes : ReadResult M → (ℕ → Type 0) → Type 0
  OnBytes (FoundBytes n) P = P n
  OnBytes (FoundMark mark) P = ⊤
  OnBytes Nothing P = ⊤

  -- P holds if a read delivered no bytes
  abbrev pub OnNoBytes : ReadResult M → Type 0 → Type 0
  OnNoBytes (FoundBytes n) P = ⊤
  OnNoBytes (FoundMark mark) P = P
  OnNoBytes Nothing P = P

  -- P holds of the sentinel, if a read found one
  abbrev pub OnSentinel : ReadResult M → (M → Type 0) → Type 0
  OnSentinel (FoundBytes n) P = ⊤
  OnSentinel (FoundMark mark) P = P mark
  OnSentinel Nothing P = ⊤

  -- P holds if a read found no sentinel
  abbrev pub OnNoSentinel : ReadResult M → Type 0 → Type 0
  OnNoSentinel (FoundBytes n) P = P
  OnNoSentinel (FoundMark mark) P = ⊤
  OnNoSentinel Nothing P = P

  -- P holds if a read found the queue empty
  abbrev pub OnNothing : ReadResult M → Type 0 → Type 0
  OnNothing (FoundBytes n) P = ⊤
  OnNothing (FoundMark mark) P = ⊤
  OnNothing Nothing P = P

  -- the code's own: P holds if a reader popped bytes
  abbrev pub OnNextBytes : NextPiece M → Type 0 → Type 0
  OnNextBytes NextBytes P = P
  OnNextBytes (NextMark mark) P = ⊤
  OnNextBytes NoNext P = ⊤

  -- the code's own: P holds if it popped no bytes
  abbrev pub OnNoNextBytes : NextPiece M → Type 0 → Type 0
  OnNoNextBytes NextBytes P = ⊤
  OnNoNextBytes (NextMark mark) P = P
  OnNoNextBytes NoNext P = P

  -- the code's own: P holds of the sentinel, if it popped one
  abbrev pub OnNextSentinel : NextPiece M → (M → Type 0) → Type 0
  OnNextSentinel NextBytes P = ⊤
  OnNextSentinel (NextMark mark) P = P mark
  OnNextSentinel NoNext P = ⊤

  -- the code's own: P holds if it found the queue empty
  abbrev pub OnNoNext : NextPiece M → Type 0 → Type 0
  OnNoNext NextBytes P = ⊤
  OnNoNext (NextMark mark) P = ⊤
  OnNoNext NoNext P = P
