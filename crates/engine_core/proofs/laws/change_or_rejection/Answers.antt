use Rattle.engine_core.proofs.ChainLaws.{one_refusal, not_both, one_chain, either}
use Rattle.engine_core.proofs.laws.change_or_rejection.Goals as goal

pub returns-clause-one_chain : goal.returns-clause-one_chain
returns-clause-one_chain c = λ before after other op chain first second. one_chain before after other op chain first.effect second.effect

pub returns-clause-one_refusal : goal.returns-clause-one_refusal
returns-clause-one_refusal c = one_refusal

pub returns-clause-either : goal.returns-clause-either
returns-clause-either c = either

pub returns-clause-not_both : goal.returns-clause-not_both
returns-clause-not_both c = not_both
