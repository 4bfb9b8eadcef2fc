use Rattle.graph_form.proofs.Limits.{few_loads, other_reason}
use Rattle.graph_form.proofs.laws.malformed_graphs_are_within_limit.Goals as goal

pub returns-clause-loads : goal.returns-clause-loads
returns-clause-loads c = few_loads

pub returns-clause-reason : goal.returns-clause-reason
returns-clause-reason c = other_reason
