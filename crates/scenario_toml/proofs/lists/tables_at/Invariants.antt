use Rattle.std.proofs.Common.{◌≡◌, ◌++◌, drop, map}
use Rattle.toml.specs.View.{table_view}
use Rattle.scenario_toml.proofs.Views.{tables_of}
use Rattle.scenario_toml.proofs.lists.tables_at.Given as goal

abbrev pub invariant-loop-item : goal.invariant-loop-item
invariant-loop-item l =
    map (λ t. table_view t.now) l.tables.items ++ tables_of (drop l.item-index l.items) ≡ tables_of l.items
