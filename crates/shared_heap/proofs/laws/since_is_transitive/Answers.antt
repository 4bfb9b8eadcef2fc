use Rattle.shared_heap.proofs.Calls.{goes_on_itself, goes_on_later}
use Rattle.shared_heap.proofs.laws.since_is_transitive.Goals as goal

pub returns-clause-itself : goal.returns-clause-itself
returns-clause-itself c = goes_on_itself

pub returns-clause-later : goal.returns-clause-later
returns-clause-later c = goes_on_later
