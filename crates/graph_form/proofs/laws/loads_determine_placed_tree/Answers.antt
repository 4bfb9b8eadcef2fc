use Rattle.std.proofs.Common.{[], sym, ◌∙◌, append-nil}
use Rattle.graph_form.specs.Roles.{node_words}
use Rattle.graph_form.specs.Placed.{loads}
use Rattle.graph_form.proofs.Joined.{loads-same}
use Rattle.graph_form.proofs.laws.loads_determine_placed_tree.Goals as goal

pub returns : goal.returns
returns c = λ T H msg address P Q p q same.
    (loads-same T H (node_words T msg 1 address) P Q [] [] p q (append-nil (loads P) ∙ same ∙ sym (append-nil (loads Q)))).0
