use Rattle.scenario_entries.proofs.OneFault.{not_both_of}
use Rattle.scenario_entries.proofs.laws.plan_excludes_fault.Goals as goal

pub returns : goal.returns
returns c text plan at reason says fault = not_both_of text plan at reason says fault
