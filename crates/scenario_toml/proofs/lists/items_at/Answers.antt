use Rattle.std.proofs.Common.{map, ap, ◌∙◌}
use Rattle.toml.specs.View.{view}
use Rattle.scenario_toml.specs.Values.{list_items}
use Rattle.scenario_toml.proofs.Views.{array_items}
use Rattle.scenario_toml.proofs.lists.items_at.Goals as goal

pub returns-in-Some-as_array : goal.returns-in-Some-as_array
returns-in-Some-as_array c =
    let found = rw c.in-Some.is at c.at.ensures in
    let seen = rw c.in-Some-as_array.is at c.as_array.ensures in
    ap (map view) c.as_slice.ensures.value ∙ array_items _ _ seen ∙ ap list_items found
