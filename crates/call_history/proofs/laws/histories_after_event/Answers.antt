use Rattle.call_history.proofs.GoingOn.{behind-joined, behind-own, prefix-on, prefix-before}
use Rattle.call_history.proofs.laws.histories_after_event.Goals as goal

pub returns-clause-joined : goal.returns-clause-joined
returns-clause-joined c = behind-joined

pub returns-clause-one_more : goal.returns-clause-one_more
returns-clause-one_more c = behind-own

pub returns-clause-prefix : goal.returns-clause-prefix
returns-clause-prefix c = prefix-on

pub returns-clause-earlier : goal.returns-clause-earlier
returns-clause-earlier c = λ u h x own prefix. (prefix-before u h x own prefix).0

pub returns-clause-may : goal.returns-clause-may
returns-clause-may c = λ u h x own prefix. (prefix-before u h x own prefix).1
