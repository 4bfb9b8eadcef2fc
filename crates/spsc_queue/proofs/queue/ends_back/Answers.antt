use Rattle.std.proofs.Common.{refl}
use Rattle.spsc_queue.proofs.CreditMoves.{names}
use Rattle.spsc_queue.proofs.queue.ends_back.Goals as goal

pub another-other-requires-clause-rule : goal.another-other-requires-clause-rule
another-other-requires-clause-rule g c = rw c.requires.new (names g.N.QueueBrand.queue _ _ refl)
