use Rattle.std.proofs.Common.{refl}
use Rattle.call_history.proofs.Accepting.{form-other}
use Rattle.call_history.proofs.GoingOn.{form-own, form-cleared}
use Rattle.call_history.proofs.Redacting.{form-others}
use Rattle.call_history.proofs.laws.forms_after_event.Goals as goal

pub returns-clause-taken : goal.returns-clause-taken
returns-clause-taken c = λ conn past call. form-own conn call.seq past call refl

pub returns-clause-taken_another : goal.returns-clause-taken_another
returns-clause-taken_another c = form-other

pub returns-clause-cleared : goal.returns-clause-cleared
returns-clause-cleared c = form-cleared

pub returns-clause-cleared_another : goal.returns-clause-cleared_another
returns-clause-cleared_another c = form-others
