use Rattle.std.proofs.Common.{[], arith, rules}
use Rattle.receive_core.proofs.Living.{begins}
use Rattle.receive_core.proofs.inbound.Inbound.open.Goals as goal

pub returns-clause-life : goal.returns-clause-life
returns-clause-life c T = begins c.frame_is_unique.ensures.nothing (c.frame_is_unique.ensures.short 0 [] (omega arith)) T _ (search rules) c.partition.ensures (search rules) (search rules)
