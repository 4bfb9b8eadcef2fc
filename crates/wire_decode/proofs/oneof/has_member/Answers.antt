use Rattle.std.proofs.Common.{◌∙◌, sym, subst}
use Rattle.mrpc_table.specs.Node.{Node}
use Rattle.mrpc_table.specs.View.{content_of, node_of}
use Rattle.std.proofs.Common.{take}
use Rattle.wire_decode.specs.LaterMembers.{HasNoMember}
use Rattle.wire_decode.proofs.Sorting.{taken-more}
use Rattle.wire_decode.proofs.Oneofs.{member-pushed, none-of}
use Rattle.wire_decode.proofs.oneof.has_member.Goals as goal

pub loop-part-preserved : goal.loop-part-preserved
loop-part-preserved c =
    let xs = c.deref-part-items.result.now in
    let i = c.loop-part.part-index in
    let x = c.part-item.result in
    let none = sym c.oneof_at.ensures.value ∙ none-of c.oneof_at.result (sym c.is_some.ensures ∙ c.if-is_some.false) in
    let P : Node → Type 0 = λ t. HasNoMember c.args.fields.now t in
    subst P (sym (taken-more xs i x c.loop-part-test.true c.part-item.is)) (member-pushed c.args.fields.now x.0 (content_of x.1) (node_of (take i xs)) none c.loop-part.invariant)
