use Rattle.std.proofs.Common.{refl, arith, rules}
use Rattle.frame_transport.proofs.Fronts.{not_less}
use Rattle.frame_transport.proofs.StandingFrames.{none_at_fault, none_in_header, none_in_payload, stands}
use Rattle.frame_transport.proofs.frame_ref.frame_at.Goals as goal

pub returns-in-Some-clause-fault : goal.returns-in-Some-clause-fault
returns-in-Some-clause-fault c = none_at_fault c.args.place c.args.bytes.now c.in-Some.fault c.in-Some.ensures

pub returns-in_default-read_header-clause-partial :
    goal.returns-in_default-read_header-clause-partial
returns-in_default-read_header-clause-partial c =
    none_in_header c.args.place c.args.bytes.now c.in_default.ensures (c.in_default-read_header.ensures.none.0 refl)

pub returns-then-bytes-header-clause-partial : goal.returns-then-bytes-header-clause-partial
returns-then-bytes-header-clause-partial c =
    let long = not_less _ _ c.in-Some-read_header.ensures.none.1 in
    none_in_payload c.args.place c.args.bytes.now c.in-Some-read_header.header c.in_default.ensures c.in-Some-read_header.ensures.some
    (omega (arith, long, c.if-bytes-header.true))

pub returns-clause-frame : goal.returns-clause-frame
returns-clause-frame c =
    let long = not_less _ _ c.in-Some-read_header.ensures.none.1 in
    stands c.args.place c.args.bytes.now c.in-Some-read_header.header _ (λ i. omega (arith, c.type_inv.bytes i)) c.in_default.ensures c.in-Some-read_header.ensures.some
    (omega (arith, long, c.if-bytes-header.false))
    (search rules)
