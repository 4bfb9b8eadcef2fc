use Rattle.std.proofs.Common.{◌<◌, ◌++◌, length, List, ℕ, Some, None, refl, arith, subst, ◌∙◌}
use Rattle.frame_transport.specs.Frames.{HasHeaderFault}
use Rattle.frame_transport.proofs.Fronts.{front_fault, front_short, clear, not_less}
use Rattle.frame_transport.proofs.parsed_header.parse_header.Goals as goal

pub returns-in-Some : goal.returns-in-Some
returns-in-Some c =
    let seen = c.bytes-bytes.ensures ∙ c.of-part.ensures in
    front_fault c.args.place (c.args.begun.now ++ c.args.piece.now) c.in-Some.fault
    (subst (λ (bs : List ℕ). HasHeaderFault c.args.place bs (Some c.in-Some.fault)) seen
    (subst (HasHeaderFault c.args.place c.bytes-bytes.result.now) c.in-Some.is c.fault_in.ensures))

pub returns-in-None : goal.returns-in-None
returns-in-None c =
    let seen = c.bytes-bytes.ensures ∙ c.of-part.ensures in
    front_short c.args.place (c.args.begun.now ++ c.args.piece.now)
    (subst (λ (bs : List ℕ). HasHeaderFault c.args.place bs None) seen (subst (HasHeaderFault c.args.place c.bytes-bytes.result.now) c.in_default.is c.fault_in.ensures))
    (subst (λ (bs : List ℕ). length bs < 16) seen (c.in-None.ensures.none.0 refl))

pub returns-in-Some-read_header : goal.returns-in-Some-read_header
returns-in-Some-read_header c =
    let seen = c.bytes-bytes.ensures ∙ c.of-part.ensures in
    clear c.args.place c.args.begun.now c.args.piece.now c.bytes-bytes.result.now c.in-Some-read_header.header (λ i. omega (arith, c.type_inv.begun i)) c.requires.partial seen
    (subst (HasHeaderFault c.args.place c.bytes-bytes.result.now) c.in_default.is c.fault_in.ensures)
    (not_less (length c.bytes-bytes.result.now) 16 c.in-Some-read_header.ensures.none.1)
    c.in-Some-read_header.ensures.some
