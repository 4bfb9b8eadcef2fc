use Rattle.spsc_queue.proofs.Moves.{takes, finds}
use Rattle.spsc_queue.proofs.consumer.Consumer.pop.Goals as goal

pub pop_as-requires-clause-rule : goal.pop_as-requires-clause-rule
pop_as-requires-clause-rule g c = (takes _ _ c.args.self.now.takes, finds _ _ c.args.self.now.takes)
