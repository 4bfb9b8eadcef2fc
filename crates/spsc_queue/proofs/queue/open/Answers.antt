use Rattle.std.proofs.Common.{rules}
use Rattle.spsc_queue.proofs.Moves.{begins, parts}
use Rattle.spsc_queue.proofs.queue.open.Goals as goal

pub ruled-requires-clause-rule : goal.ruled-requires-clause-rule
ruled-requires-clause-rule g c = begins

pub another-taking-requires-clause-rule : goal.another-taking-requires-clause-rule
another-taking-requires-clause-rule g c = parts _ _ (search rules) (search rules)
