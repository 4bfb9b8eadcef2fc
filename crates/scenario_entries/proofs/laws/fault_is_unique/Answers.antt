use Rattle.scenario_entries.proofs.OneFault.{one_fault_of}
use Rattle.scenario_entries.proofs.laws.fault_is_unique.Goals as goal

pub returns : goal.returns
returns c text a b q r one other = one_fault_of text a b q r one other
