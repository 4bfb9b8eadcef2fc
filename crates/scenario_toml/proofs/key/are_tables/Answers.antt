use Rattle.scenario_toml.proofs.Views.{are_tables}
use Rattle.scenario_toml.proofs.key.are_tables.Goals as goal

pub returns-in-Some : goal.returns-in-Some
returns-in-Some c = are_tables c.in-Some.items.now.items _ _ c.all_tables.ensures (rw c.in-Some.is at c.as_array.ensures)
