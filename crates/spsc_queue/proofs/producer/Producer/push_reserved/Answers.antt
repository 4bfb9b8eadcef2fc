use Rattle.spsc_queue.proofs.Moves.{puts, counts}
use Rattle.spsc_queue.proofs.producer.Producer.push_reserved.Goals as goal

pub push_as-requires-clause-rule : goal.push_as-requires-clause-rule
push_as-requires-clause-rule g c = (puts _ _ _ _ c.args.self.now.puts, counts _ _ c.args.self.now.puts)
