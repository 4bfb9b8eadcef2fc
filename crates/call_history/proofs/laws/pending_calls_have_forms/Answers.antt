use Rattle.call_history.proofs.Copies.{stands-few, stands-copied, stands-formed}
use Rattle.call_history.specs.Legal.{trace_of}
use Rattle.call_history.proofs.laws.pending_calls_have_forms.Goals as goal

pub returns-clause-few : goal.returns-clause-few
returns-clause-few c = λ T limit conn h legal. stands-few (record { conn = conn; table = T; limit = limit }) (trace_of conn h) (legal conn).prefix

pub returns-clause-copies : goal.returns-clause-copies
returns-clause-copies c = λ u past call legal. stands-copied u past call legal.prefix legal.closed.malformed

pub returns-clause-forms : goal.returns-clause-forms
returns-clause-forms c = λ u past call legal. stands-formed c.clear_preserves_normal_form.ensures u past call legal.prefix legal.closed.malformed
