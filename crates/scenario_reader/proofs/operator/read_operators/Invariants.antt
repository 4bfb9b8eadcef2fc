-- The entries so far are operators without faults.
use Rattle.std.proofs.Common.{◌≡◌, take}
use Rattle.mrpc_table.specs.Valid.{AreDistinct}
use Rattle.mrpc_table.specs.declared.table.Table.{Table}
use Rattle.toml.specs.Data.{Members}
use Rattle.scenario.specs.Applications.{app_tables, entry_conns}
use Rattle.scenario.specs.Operators.{IsOperatorFault}
use Rattle.scenario.specs.Scenarios.{IsOperatorMeaning}
use Rattle.scenario_lines.specs.Programs.{Each}
use Rattle.scenario_entries.specs.Entries.{AreFaultFree, views}
use Rattle.scenario_reader.specs.AppContext.{IsAppContext}
use Rattle.scenario_reader.specs.Joining.{AreJoined}
use Rattle.scenario_reader.proofs.operator.read_operators.Given as goal

abbrev pub invariant-loop-entry : goal.invariant-loop-entry
invariant-loop-entry l = record {
  numbered : l.number ≡ l.entry-index;
  read : (all : Members) (T : Table) → IsAppContext all T l.above → AreJoined all l.above.declared.now (app_tables all) l.apps
      → AreDistinct (entry_conns (app_tables all))
      → AreFaultFree (IsOperatorFault all l.above.declared.now.policies) (views (take l.entry-index l.entries))
      × Each (IsOperatorMeaning all) (views (take l.entry-index l.entries)) l.operators;
}
