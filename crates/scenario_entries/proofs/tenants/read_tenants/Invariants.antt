-- The entries so far are tenants without faults.
use Rattle.std.proofs.Common.{◌≡◌, [], take}
use Rattle.scenario_lines.specs.Programs.{Each}
use Rattle.scenario_entries.specs.Entries.{AreFaultFree, views}
use Rattle.scenario.specs.Policies.{IsTenantFault, IsTenantMeaning}
use Rattle.scenario_entries.proofs.tenants.read_tenants.Given as goal

abbrev pub invariant-loop-entry : goal.invariant-loop-entry
invariant-loop-entry l = record {
  numbered : l.number ≡ l.entry-index;
  free : AreFaultFree IsTenantFault (views (take l.entry-index l.entries));
  says : Each IsTenantMeaning (views (take l.entry-index l.entries)) l.declared.tenants;
  none : l.declared.policies ≡ [];
}
