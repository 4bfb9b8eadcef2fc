use Rattle.std.proofs.Common.{ap, ◌∙◌}
use Rattle.mrpc_table.specs.Normal.{fields_of}
use Rattle.mrpc_table.specs.View.{node_of}
use Rattle.graph_place.specs.Content.{member_of}
use Rattle.graph_place.proofs.Zeros.{zero_at}
use Rattle.graph_place.proofs.look_up.members_of.Goals as goal

pub loop-number-init : goal.loop-number-init
loop-number-init c = λ o.
    let fs = fields_of c.args.table.now c.args.message in
    ap (λ x. member_of fs o x (node_of c.deref-number-items.result.now)) (zero_at 128 o) ∙ ap (member_of fs o 0) (ap node_of c.deref-number-items.ensures.value ∙ c.tree.view_is)
