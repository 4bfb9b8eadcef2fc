-- A reader of a queue of bytes, as clauses see it.
use Rattle.std.specs.Prelude.{ℕ, List}
use Rattle.atomic_table.specs.Seated.{TableId}
use Rattle.spsc_queue.specs.declared.piece.Piece.{Piece}
use Rattle.spsc_queue.specs.declared.piece_reader.PieceReader.{PieceReader}
use Rattle.spsc_queue.specs.Ends.{popped_of, known_pushed_of, consumer_queue}

module _ {M : Type 0} where
  -- the bytes that it delivered, in order
  abbrev pub delivered_by : PieceReader M → List ℕ
  delivered_by r = r.given.bytes

  -- the pieces that it popped, in order
  abbrev pub popped_by : PieceReader M → List (Piece M)
  popped_by r = popped_of r.consumer

  -- the pieces that it knows to be pushed: all that were when the two ends were last reconciled
  abbrev pub known_pushed_by : PieceReader M → List (Piece M)
  known_pushed_by r = known_pushed_of r.consumer

  -- the queue that it reads
  abbrev pub reader_queue : PieceReader M → TableId
  reader_queue r = consumer_queue r.consumer
