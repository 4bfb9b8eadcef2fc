use Rattle.std.proofs.Common.{ℕ, take, refl}
use Rattle.mrpc_base.specs.Heap.{word_after}
use Rattle.graph_form.specs.Forgotten.{tree_of}
use Rattle.graph_form.specs.Malformed.{copied, is_copied}
use Rattle.graph_form.specs.Placed.{loads}
use Rattle.stable_copy.proofs.Steadiness.{reading, own-reads, graph-reads}
use Rattle.stable_copy.proofs.laws.unmodified_graph_is_copied.Goals as goal

pub returns : goal.returns
returns c = λ T msg address limit after old new own all P outcome loaded comes begins within sound few stands.
    let otherwise : ℕ → ℕ = word_after (take after all) in
    let law = c.reading_determines_outcome.ensures T old.heap.words msg address limit (reading own otherwise 1) in
    law own (loads P) outcome (copied (tree_of T msg P))
    (own-reads own otherwise 1) (graph-reads all after old new own P loaded begins within stands)
    comes (is_copied P sound refl few refl)
