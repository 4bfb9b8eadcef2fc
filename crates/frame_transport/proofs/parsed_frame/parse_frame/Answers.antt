use Rattle.std.proofs.Common.{arith}
use Rattle.frame_transport.proofs.Fronts.{front_partial, front_whole}
use Rattle.frame_transport.proofs.parsed_frame.parse_frame.Goals as goal

pub returns-then-piece-header : goal.returns-then-piece-header
returns-then-piece-header c =
    front_partial c.args.place c.args.begun.now c.args.piece.now c.in-Clear.header c.in-Clear.ensures c.if-piece-header.true

pub returns : goal.returns
returns c =
    front_whole c.args.place c.args.begun.now c.args.piece.now c.in-Clear.header c.in_ok-payload.payload
    (λ i. omega (arith, c.type_inv.begun i)) (λ i. omega (arith, c.type_inv.piece i)) c.in-Clear.ensures
    (omega (arith, c.in-Clear.ensures.longer)) c.in_ok-payload.ensures
