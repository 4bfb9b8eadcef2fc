use Rattle.engine_core.proofs.ChainLaws.{stays_chain}
use Rattle.engine_core.proofs.laws.change_preserves_chain.Goals as goal

pub returns : goal.returns
returns c = stays_chain
