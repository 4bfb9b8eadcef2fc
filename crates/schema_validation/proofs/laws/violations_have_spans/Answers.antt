use Rattle.schema_validation.proofs.Standing.{offends_stands}
use Rattle.schema_validation.proofs.laws.violations_have_spans.Goals as goal

pub returns : goal.returns
returns c = offends_stands
