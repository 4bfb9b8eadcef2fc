use Rattle.replay_laws.proofs.Sending.{all-sent}
use Rattle.replay_laws.proofs.Settled.{none-stands}
use Rattle.replay_laws.proofs.sent_calls.allowed_calls_are_sent.Goals as goal

pub returns-clause-frames : goal.returns-clause-frames
returns-clause-frames c u past legal = all-sent c.pending_after_event.ensures.taken u past legal.prefix

pub returns-clause-none_stands : goal.returns-clause-none_stands
returns-clause-none_stands c = none-stands
