use Rattle.spsc_queue.specs.Ends.{popped_of}
use Rattle.spsc_queue.proofs.GivenLemmas.{takes_bytes}
use Rattle.spsc_queue.proofs.piece_reader.PieceReader.next_piece.Goals as goal

pub invariant_of-self-in-Some-Bytes-clause-gives : goal.invariant_of-self-in-Some-Bytes-clause-gives
invariant_of-self-in-Some-Bytes-clause-gives g c =
    let h = c.args.self.now in
    takes_bytes h.given.bytes h.piece h.at (popped_of h.consumer) (popped_of c.pop.new.self) c.in-Some-Bytes.bytes
    h.gives c.requires.done (rw c.in-Some-Bytes.field-0-is at c.in-Some-Bytes.ensures.taken)
