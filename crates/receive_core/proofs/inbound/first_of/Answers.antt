use Rattle.receive_core.proofs.Firsts.{first_found}
use Rattle.receive_core.proofs.inbound.first_of.Goals as goal

pub returns-clause-some : goal.returns-clause-some
returns-clause-some c = first_found c.args.feed.now c.peek.result c.requires c.peek.ensures.some
