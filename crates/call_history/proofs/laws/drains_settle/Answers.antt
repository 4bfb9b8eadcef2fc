use Rattle.call_history.proofs.Settling.{begins-keep, drains-keep, fails-keep, drains-settle}
use Rattle.call_history.proofs.laws.drains_settle.Goals as goal

pub returns-clause-begins : goal.returns-clause-begins
returns-clause-begins c = begins-keep c.change_preserves_chain.ensures

pub returns-clause-whole : goal.returns-clause-whole
returns-clause-whole c = drains-keep c.change_preserves_chain.ensures

pub returns-clause-fails : goal.returns-clause-fails
returns-clause-fails c = fails-keep c.change_preserves_chain.ensures

pub returns-clause-settled : goal.returns-clause-settled
returns-clause-settled c = drains-settle c.change_preserves_chain.ensures
