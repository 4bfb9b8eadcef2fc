use Rattle.graph_form.proofs.Ends.{ends-at-offence, ends-at-limit}
use Rattle.graph_form.proofs.laws.loads_end_malformed.Goals as goal

pub returns-clause-offence : goal.returns-clause-offence
returns-clause-offence c = ends-at-offence

pub returns-clause-limit : goal.returns-clause-limit
returns-clause-limit c = ends-at-limit
