use Rattle.scenario_toml.proofs.Views.{are_texts}
use Rattle.scenario_toml.proofs.key.are_texts.Goals as goal

pub returns-in-Some : goal.returns-in-Some
returns-in-Some c = are_texts c.in-Some.items.now.items _ _ c.all_texts.ensures (rw c.in-Some.is at c.as_array.ensures)
