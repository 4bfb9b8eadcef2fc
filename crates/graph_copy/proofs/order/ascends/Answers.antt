use Rattle.std.proofs.Common.{sym, subst}
use Rattle.graph_copy.proofs.Inserting.{RiseFrom, rise_inserted, drop_past}
use Rattle.graph_copy.proofs.order.ascends.Goals as goal

pub returns : goal.returns
returns c = λ yes.
    let all = c.deref-field-items.result.now in
    let rises = c.loop-field.invariant (subst (RiseFrom c.loop-field.least) (sym (drop_past all c.loop-field.field-index c.loop-field-test.false)) tt) in
    rise_inserted 0 c.args.fields.now.items (subst (RiseFrom 0) c.deref-field-items.ensures.value rises)
