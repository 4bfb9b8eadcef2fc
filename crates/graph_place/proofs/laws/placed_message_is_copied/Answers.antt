use Rattle.std.proofs.Common.{refl, ap, ◌∙◌}
use Rattle.graph_form.specs.Placed.{loads}
use Rattle.graph_form.specs.Forgotten.{tree_of}
use Rattle.graph_form.specs.Malformed.{copied, is_copied}
use Rattle.graph_place.proofs.Standing.{reads}
use Rattle.graph_place.proofs.laws.placed_message_is_copied.Goals as goal

pub returns : goal.returns
returns c = λ T H msg address limit P t reading own outcome sound tree gives few made comes.
    let same = c.reading_determines_outcome.ensures T H msg address limit (λ k place. reading place) own
    (loads P) outcome (copied (tree_of T msg P)) made (reads reading (loads P) gives) comes
    (is_copied P sound refl few refl) in
    (same.0, same.1 ∙ ap copied tree)
