use Rattle.std.proofs.Common.{rules}
use Rattle.frame_transport.proofs.Joints.{payload_parts}
use Rattle.frame_transport.proofs.parsed_frame.payload_of.Goals as goal

pub returns : goal.returns
returns c =
    rw (c.in_ok-append-2.ensures.ok, c.in_ok-append.ensures.ok, c.in_ok-payload.ensures)
    (payload_parts c.args.begun.now c.args.piece.now c.args.size c.min-begin.result (search rules) c.requires.begun)
