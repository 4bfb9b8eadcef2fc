use Rattle.std.proofs.Common.{◌≡◌, ap, subst, sym, ◌∙◌}
use Rattle.mrpc_table.specs.Node.{Node, AreNumbersAscending, content_at}
use Rattle.mrpc_table.specs.View.{node_of}
use Rattle.mrpc_table.proofs.ContentLemmas.{found-at, weight_at}
use Rattle.mrpc_table.proofs.tree.Tree.content.Goals as goal

pub returns-clause-content : goal.returns-clause-content
returns-clause-content c =
    let fs = c.as_slice-fields.result.now in
    let x = c.index-fields-place.result in
    let same : node_of fs ≡ c.args.self.now = ap node_of c.as_slice-fields.ensures.value ∙ c.self.view_is in
    let ascends : AreNumbersAscending 0 (node_of fs) = subst (λ (t : Node). AreNumbersAscending 0 t) (sym same) c.requires in
    let found = found-at fs c.args.number c.in_ok-place.place x ascends c.in_ok-place.ensures.within (c.in_ok-place.ensures.numbered x) in
    sym (ap (λ (t : Node). content_at t c.args.number) (sym same) ∙ found)

pub returns-clause-less : goal.returns-clause-less
returns-clause-less c =
    let fs = c.as_slice-fields.result.now in
    let x = c.index-fields-place.result in
    let same : node_of fs ≡ c.args.self.now = ap node_of c.as_slice-fields.ensures.value ∙ c.self.view_is in
    rw (sym same) (weight_at fs c.in_ok-place.place x c.in_ok-place.ensures.within)
