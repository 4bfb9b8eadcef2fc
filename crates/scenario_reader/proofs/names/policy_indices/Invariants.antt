use Rattle.std.proofs.Common.{◌≡◌, map, take}
use Rattle.std.specs.Prelude.{filter_map}
use Rattle.policy_declarations.specs.Declarations.{policy_index}
use Rattle.scenario_reader.proofs.names.policy_indices.Given as goal

abbrev pub invariant-loop-name : goal.invariant-loop-name
invariant-loop-name l = l.places ≡ filter_map (policy_index l.declared) (map (λ n. n.now) (take l.name-index l.names))
