use Rattle.std.proofs.Common.{[], refl, sym, ◌∙◌, append-nil}
use Rattle.graph_form.specs.Placed.{loads}
use Rattle.graph_copy.proofs.build.make_tree.Goals as goal

pub returns : goal.returns
returns c = λ H address P sound is. (c.in_ok-tree.ensures address 1 refl H P [] sound (is ∙ sym (append-nil (loads P)))).0
