use Rattle.schema_validation.proofs.Standing.{first_is_one}
use Rattle.schema_validation.proofs.laws.first_violation_is_unique.Goals as goal

pub returns : goal.returns
returns c = λ F q r s t order a b. first_is_one F q r s t order a b
