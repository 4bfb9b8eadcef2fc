use Rattle.std.proofs.Common.{refl}
use Rattle.replay_run.specs.Kept.{accepted, rejected}
use Rattle.replay_run.proofs.submission.submit_call.Goals as goal

pub returns-then-len-eq-MAX_CALLS-clause-submits : goal.returns-then-len-eq-MAX_CALLS-clause-submits
returns-then-len-eq-MAX_CALLS-clause-submits c = rejected c.in_ok-record_away.ensures.away refl

pub returns-in-Ok-clause-submits : goal.returns-in-Ok-clause-submits
returns-in-Ok-clause-submits c = accepted c.in-Ok.field-0 c.in-Ok.ensures.accepted c.in-Ok.ensures.adds c.in-Ok.ensures.size c.in-Ok.ensures.reads
