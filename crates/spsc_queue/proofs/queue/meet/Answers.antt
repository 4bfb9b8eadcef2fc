use Rattle.std.proofs.Common.{rules}
use Rattle.spsc_queue.proofs.Moves.{admits_neither, joins, parts}
use Rattle.spsc_queue.proofs.queue.meet.Goals as goal

pub another-spare-requires-clause-rule : goal.another-spare-requires-clause-rule
another-spare-requires-clause-rule g c = admits_neither _ _

pub absorb-requires-clause-rule : goal.absorb-requires-clause-rule
absorb-requires-clause-rule g c = joins _ _ _ _ (search rules) (search rules)

pub another-requires-clause-rule : goal.another-requires-clause-rule
another-requires-clause-rule g c = parts _ _ (search rules) (search rules)
