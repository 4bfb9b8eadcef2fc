use Rattle.replay_run.proofs.Settled.{drained-settled}
use Rattle.replay_run.proofs.laws.drained_connection_is_settled.Goals as goal

pub returns : goal.returns
returns c = drained-settled c.drains_settle.ensures.settled
