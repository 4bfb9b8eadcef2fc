use Rattle.std.proofs.Common.{◌≡◌}
use Rattle.spsc_queue.specs.Pieces.{sentinels_of}
use Rattle.spsc_queue.specs.Readers.{delivered_by, popped_by, known_pushed_by, reader_queue}
use Rattle.spsc_queue.proofs.piece_reader.PieceReader.read.Given as goal

-- nothing was delivered so far, and no sentinel was found
abbrev pub invariant-loop : goal.invariant-loop
invariant-loop g l =
    (goal.iterator-loop g).can_next l.iterator'
    × (goal.iterator-loop g).is_finite l.iterator'
    × (l.buf ≡ l.initial.buf)
    × (delivered_by l.self ≡ delivered_by l.initial.self)
    × (sentinels_of (popped_by l.self) ≡ sentinels_of (popped_by l.initial.self))
    × (known_pushed_by l.self ≡ known_pushed_by l.initial.self)
    × (reader_queue l.self ≡ reader_queue l.initial.self)
