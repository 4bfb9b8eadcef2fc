use Rattle.std.proofs.Common.{refl}
use Rattle.call_history.proofs.Changing.{changes-changed}
use Rattle.call_history.proofs.Prefixes.{chained}
use Rattle.call_history.proofs.laws.chain_after_event.Goals as goal

pub returns-clause-step : goal.returns-clause-step
returns-clause-step c = λ past step. refl

pub returns-clause-computes : goal.returns-clause-computes
returns-clause-computes c = changes-changed

pub returns-clause-is_chain : goal.returns-clause-is_chain
returns-clause-is_chain c = chained c.change_preserves_chain.ensures
