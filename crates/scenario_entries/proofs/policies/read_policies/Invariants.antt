-- The entries so far are policies without faults.
use Rattle.std.proofs.Common.{◌≡◌, List, [], take}
use Rattle.toml.specs.Data.{Members}
use Rattle.scenario_lines.specs.Programs.{Each}
use Rattle.scenario_entries.specs.Entries.{AreFaultFree, views}
use Rattle.scenario.specs.Policies.{IsPolicyFault, IsPolicyMeaning, IsTenantMeaning}
use Rattle.scenario_entries.proofs.policies.read_policies.Given as goal

abbrev pub invariant-loop-entry : goal.invariant-loop-entry
invariant-loop-entry l = record {
  numbered : l.number ≡ l.entry-index;
  tenants : l.declared.tenants ≡ l.fn.tenants.tenants;
  free : (before : List Members) → Each IsTenantMeaning before l.fn.tenants.tenants → l.fn.tenants.policies ≡ []
      → AreFaultFree (IsPolicyFault l.table before) (views (take l.entry-index l.entries))
      × Each (IsPolicyMeaning l.table before) (views (take l.entry-index l.entries)) l.declared.policies;
}
