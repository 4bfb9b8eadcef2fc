use Rattle.spsc_queue.proofs.Moves.{counts}
use Rattle.spsc_queue.proofs.producer.Producer.len.Goals as goal

pub len_as-requires-clause-rule : goal.len_as-requires-clause-rule
len_as-requires-clause-rule g c = counts _ _ c.args.self.now.puts
