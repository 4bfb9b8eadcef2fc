use Rattle.receive_core.proofs.Fated.{has_fate, has_one_fate}
use Rattle.receive_core.proofs.laws.fate_is_determined.Goals as goal

pub returns-clause-some : goal.returns-clause-some
returns-clause-some c = has_fate c.meaning_or_fault.ensures.either

pub returns-clause-one : goal.returns-clause-one
returns-clause-one c = has_one_fate c.meaning_is_unique.ensures c.decode_fault_is_unique.ensures c.meaning_or_fault.ensures.not_both
