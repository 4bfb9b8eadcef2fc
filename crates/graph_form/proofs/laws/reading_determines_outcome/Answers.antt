use Rattle.graph_form.proofs.Determined.{outcome-determined}
use Rattle.graph_form.proofs.laws.reading_determines_outcome.Goals as goal

pub returns : goal.returns
returns c = outcome-determined
