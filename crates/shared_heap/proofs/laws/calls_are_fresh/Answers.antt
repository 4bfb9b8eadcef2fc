use Rattle.shared_heap.proofs.Calls.{fresh_none, fresh_one_more, fresh_after_note, fresh_later}
use Rattle.shared_heap.proofs.laws.calls_are_fresh.Goals as goal

pub returns-clause-none : goal.returns-clause-none
returns-clause-none c = fresh_none

pub returns-clause-one_more : goal.returns-clause-one_more
returns-clause-one_more c = fresh_one_more

pub returns-clause-after_note : goal.returns-clause-after_note
returns-clause-after_note c = fresh_after_note

pub returns-clause-later : goal.returns-clause-later
returns-clause-later c = fresh_later
