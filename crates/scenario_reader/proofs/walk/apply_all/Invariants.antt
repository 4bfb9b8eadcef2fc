use Rattle.std.proofs.Common.{List, take}
use Rattle.engine_core.specs.Chains.{Chain, IsChain}
use Rattle.engine_core.specs.declared.op.Op.{Op}
use Rattle.scenario_entries.specs.ChainEntries.{AreEntriesOf}
use Rattle.scenario_lines.specs.Programs.{Each}
use Rattle.scenario_reader.specs.Walking.{IsOpOf, IsWalkedTo}
use Rattle.scenario_reader.proofs.walk.apply_all.Given as goal

abbrev pub invariant-loop-step : goal.invariant-loop-step
invariant-loop-step l =
    (start : Chain) (ops : List Op) → IsChain start → AreEntriesOf l.fn.chain.entries.items start
    → Each (IsOpOf l.declared) (take l.step-index l.told) ops → IsWalkedTo start ops l.chain.entries.items
