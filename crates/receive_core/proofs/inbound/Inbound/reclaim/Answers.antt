use Rattle.std.proofs.Common.{rules}
use Rattle.receive_core.proofs.Living.{lives_still}
use Rattle.receive_core.proofs.inbound.Inbound.reclaim.Goals as goal

pub returns-clause-life : goal.returns-clause-life
returns-clause-life c T life lives = lives_still T life c.args.self.now _ lives (search rules) (search rules) (search rules) (search rules) c.partition.ensures (search rules)
