use Rattle.std.proofs.Common.{◌≡◌, List, map, take}
use Rattle.engine_core.specs.declared.op.Op.{Op}
use Rattle.run_plan.specs.Chains.{empty_chain}
use Rattle.scenario_reader.specs.Walking.{AreOpsOf, IsWalkedTo}
use Rattle.scenario_reader.proofs.attaching.attach_all.Given as goal

abbrev pub invariant-loop-name : goal.invariant-loop-name
invariant-loop-name l = record {
  counted : l.at ≡ l.name-index;
  walked : (ops : List Op) → AreOpsOf l.declared 0 (map (λ n. n.now) (take l.name-index l.names)) ops
      → IsWalkedTo empty_chain ops l.chain.entries.items;
}
