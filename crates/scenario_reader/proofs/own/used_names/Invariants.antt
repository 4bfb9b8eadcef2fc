use Rattle.std.proofs.Common.{◌↔◌, ℕ, List, Contains, map, take}
use Rattle.toml.specs.View.{table_view}
use Rattle.scenario_entries.specs.Entries.{views}
use Rattle.scenario_reader.specs.Owning.{IsUsedIn}
use Rattle.scenario_reader.proofs.own.used_names.Given as goal

abbrev pub invariant-loop-operator : goal.invariant-loop-operator
invariant-loop-operator l =
    (name : List ℕ) → Contains (map (λ n. n.now) l.names.items) name
    ↔ IsUsedIn (views (take l.operator-index l.operators)) (table_view l.entry) name
