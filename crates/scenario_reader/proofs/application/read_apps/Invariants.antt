-- The entries so far are applications without faults.
use Rattle.std.proofs.Common.{◌≡◌, All, length, map, sum, take}
use Rattle.mrpc_table.specs.declared.table.Table.{Table}
use Rattle.toml.specs.Data.{Members}
use Rattle.scenario.specs.Applications.{IsAppFault, entry_submissions}
use Rattle.scenario_entries.specs.Entries.{AreFaultFree, views}
use Rattle.scenario_reader.specs.AppContext.{IsAppContext}
use Rattle.scenario_reader.specs.Joining.{AreJoined}
use Rattle.scenario_reader.specs.Owning.{HasValidOwn}
use Rattle.scenario_reader.proofs.application.read_apps.Given as goal

abbrev pub invariant-loop-entry : goal.invariant-loop-entry
invariant-loop-entry l = record {
  numbered : l.number ≡ l.entry-index;
  valid : All HasValidOwn l.apps.applications;
  chained : length l.apps.chains.items ≡ length l.apps.applications;
  read : (all : Members) (T : Table) → IsAppContext all T l.above
      → AreFaultFree (IsAppFault all l.above.declared.now.policies) (views (take l.entry-index l.entries))
      × AreJoined all l.above.declared.now (views (take l.entry-index l.entries)) l.apps
      × (l.submitted ≡ sum (map entry_submissions (views (take l.entry-index l.entries))));
}
