use Rattle.std.proofs.Common.{drop, ap, ◌∙◌, sym}
use Rattle.spsc_queue.specs.Ends.{pushed_of, popped_of}
use Rattle.spsc_queue.specs.Pieces.{bytes_of_pieces}
use Rattle.spsc_queue.proofs.GivenLemmas.{given_prefix}
use Rattle.spsc_queue.proofs.piece_reader.PieceReader.meet.Goals as goal

pub returns-clause-bytes : goal.returns-clause-bytes
returns-clause-bytes g c =
    let h = c.args.self.now in
    given_prefix h.given.bytes (drop h.at h.piece) (popped_of c.meet.new.consumer) (pushed_of c.meet.new.producer) (h.gives ∙ ap bytes_of_pieces (sym c.meet.ensures.taken)) c.meet.ensures.in_order
