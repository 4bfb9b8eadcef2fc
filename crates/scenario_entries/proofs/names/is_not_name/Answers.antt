use Rattle.scenario_entries.proofs.Declaring.{name_told}
use Rattle.scenario_entries.proofs.names.is_not_name.Goals as goal

pub returns : goal.returns
returns c = name_told c.args.word.now c.is_name.result c.is_name.ensures
