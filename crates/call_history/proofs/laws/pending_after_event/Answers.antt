use Rattle.std.proofs.Common.{refl}
use Rattle.call_history.specs.Trace.{pending_calls}
use Rattle.call_history.proofs.Accepting.{standing-malformed}
use Rattle.call_history.proofs.Failing.{refuse-all}
use Rattle.call_history.proofs.GoingOn.{standing-next}
use Rattle.call_history.proofs.Standing.{standing-took, standing-sent, standing-refused}
use Rattle.call_history.proofs.laws.pending_after_event.Goals as goal

pub returns-clause-taken : goal.returns-clause-taken
returns-clause-taken c = standing-took

pub returns-clause-malformed : goal.returns-clause-malformed
returns-clause-malformed c = standing-malformed

pub returns-clause-sent : goal.returns-clause-sent
returns-clause-sent c = standing-sent

pub returns-clause-sent_first : goal.returns-clause-sent_first
returns-clause-sent_first c = standing-next

pub returns-clause-refused : goal.returns-clause-refused
returns-clause-refused c = standing-refused

pub returns-clause-link_failed : goal.returns-clause-link_failed
returns-clause-link_failed c = λ u past legal. (refuse-all u past (pending_calls past) legal.prefix legal.closed.malformed legal.closed.quota refl).none
