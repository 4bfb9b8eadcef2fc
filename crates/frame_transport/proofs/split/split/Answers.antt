use Rattle.std.proofs.Common.{None, ◌++◌, arith, rules, subst}
use Rattle.frame_transport.specs.Frames.{HasNoFrame}
use Rattle.frame_transport.specs.Parts.{IsFrameOfParts, IsParsedFrame}
use Rattle.frame_transport.proofs.Found.{found_next, found_total, found_all}
use Rattle.frame_transport.proofs.split.split.Goals as goal

pub parse_frame-requires-clause-room : goal.parse_frame-requires-clause-room
parse_frame-requires-clause-room c =
    let total = found_total c.args.place c.args.begun.now c.args.piece.now c.frames.frames.items c.frames.end c.frames.ahead.now c.frames.left.now c.frames.invariant in
    omega arith

pub overflow_add-end : goal.overflow_add-end
overflow_add-end c =
    let total = found_total c.args.place c.args.begun.now c.args.piece.now c.frames.frames.items c.frames.end c.frames.ahead.now c.frames.left.now c.frames.invariant in
    let h : IsFrameOfParts c.frames.end c.frames.ahead.now c.frames.left.now c.in-Whole.frame =
    subst (IsParsedFrame c.frames.end c.frames.ahead.now c.frames.left.now) c.in-Whole.is c.in_ok-frame.ensures in
    omega (arith, h.within)

pub frames-preserved : goal.frames-preserved
frames-preserved c =
    let h : IsFrameOfParts c.frames.end c.frames.ahead.now c.frames.left.now c.in-Whole.frame =
    subst (IsParsedFrame c.frames.end c.frames.ahead.now c.frames.left.now) c.in-Whole.is c.in_ok-frame.ensures in
    found_next c.args.place c.args.begun.now c.args.piece.now c.frames.frames.items c.frames.end c.frames.ahead.now
    c.frames.left.now c.in-Whole.frame c.len-size.result c.push_back.new.self.items
    c.frames.invariant h c.len-size.ensures (search rules)

pub returns-in-Partial : goal.returns-in-Partial
returns-in-Partial c =
    let h : HasNoFrame c.frames.end (c.frames.ahead.now ++ c.frames.left.now) None =
    subst (IsParsedFrame c.frames.end c.frames.ahead.now c.frames.left.now) c.in-Partial.is c.in_ok-frame.ensures in
    found_all c.args.place c.args.begun.now c.args.piece.now c.frames.frames.items c.frames.end c.frames.ahead.now c.frames.left.now None c.frames.invariant h
