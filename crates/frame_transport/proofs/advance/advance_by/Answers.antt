use Rattle.std.proofs.Common.{ℕ, List, subst}
use Rattle.frame_transport.specs.Parts.{IsSplitOfParts}
use Rattle.frame_transport.proofs.Advancing.{advanced}
use Rattle.frame_transport.proofs.advance.advance_by.Goals as goal

pub returns-clause-ok : goal.returns-clause-ok
returns-clause-ok c =
    let found = c.in_ok-found.found in
    let split = subst (λ (bs : List ℕ). IsSplitOfParts c.args.end bs c.args.piece.now found.frames.items found.end found.left.now found.fault) c.deref.ensures.value c.in_ok-found.ensures in
    advanced c.args.end c.args.begun.now.items c.args.piece.now c.args.waiting.now.items c.keep.new.waiting.items c.keep.new.begun.items
    found.frames.items found.end found.left.now found.fault c.kept_len-kept.result split c.kept_len-kept.ensures c.in_ok-keep.ensures.waiting
    c.in_ok-keep.ensures.begun
