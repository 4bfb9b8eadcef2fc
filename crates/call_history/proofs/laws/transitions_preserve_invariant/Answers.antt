use Rattle.call_history.proofs.Keeping.{course-begins, event-keeps, events-keep}
use Rattle.call_history.proofs.laws.transitions_preserve_invariant.Goals as goal

pub returns-clause-beginning : goal.returns-clause-beginning
returns-clause-beginning c = course-begins

pub returns-clause-event : goal.returns-clause-event
returns-clause-event c = event-keeps c.change_preserves_chain.ensures

pub returns-clause-events : goal.returns-clause-events
returns-clause-events c = events-keep c.change_preserves_chain.ensures
