use Rattle.std.proofs.Common.{◌≡◌, ◌++◌, drop, map}
use Rattle.scenario_toml.proofs.Views.{texts_of}
use Rattle.scenario_toml.proofs.lists.texts_at.Given as goal

abbrev pub invariant-loop-item : goal.invariant-loop-item
invariant-loop-item l =
    map (λ t. t.now) l.texts.items ++ texts_of (drop l.item-index l.items) ≡ texts_of l.items
