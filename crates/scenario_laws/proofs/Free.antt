-- No entry of a scenario that means a plan has a fault.
use Rattle.std.proofs.Common.{refl}
use Rattle.run_plan.specs.declared.plan.Plan.{Plan}
use Rattle.toml.specs.Data.{Members}
use Rattle.scenario.specs.Applications.{IsAppFault, IsLinkFault, app_tables, link_tables, operator_tables, policy_tables, tenant_tables}
use Rattle.scenario.specs.Operators.{IsOperatorFault}
use Rattle.scenario.specs.Policies.{IsPolicyFault, IsTenantFault}
use Rattle.scenario.specs.Scenarios.{AreDeclared, IsPlanOfScenario, IsTopKeyFault}
use Rattle.scenario.specs.Scenarios as against
use Rattle.scenario.specs.declared.fault.FaultyEntry.TheVariants as entry
use Rattle.scenario.specs.declared.fault.ScenarioReason.{ScenarioReason}
use Rattle.scenario_entries.specs.Entries.{AreFaultFree}

module _ (all : Members) (plan : Plan) (says : IsPlanOfScenario all plan) where
  are_declared : AreDeclared all plan.declared.policies
  are_declared = record { table = plan.table; of_schema = says.table; policies = says.policies }

  pub top_free : (q : ScenarioReason) → IsTopKeyFault all q → ⊥
  top_free q h = says.free entry.Top q (against.top refl h)

  pub tenants_free : AreFaultFree IsTenantFault (tenant_tables all)
  tenants_free before ms n q at h = says.free (entry.Tenant n) q (against.tenant before ms n refl at h)

  pub policies_free : AreFaultFree (IsPolicyFault plan.table (tenant_tables all)) (policy_tables all)
  policies_free before ms n q at h = says.free (entry.Policy n) q (against.policy before ms n plan.table refl at says.table h)

  pub apps_free : AreFaultFree (IsAppFault all plan.declared.policies) (app_tables all)
  apps_free before ms n q at h = says.free (entry.App n) q (against.app before ms n plan.declared.policies refl at are_declared h)

  pub links_free : AreFaultFree (IsLinkFault all) (link_tables all)
  links_free before ms n q at h = says.free (entry.Link n) q (against.link before ms n refl at h)

  pub operators_free : AreFaultFree (IsOperatorFault all plan.declared.policies) (operator_tables all)
  operators_free before ms n q at h =
      says.free (entry.Operator n) q (against.operator before ms n plan.declared.policies refl at are_declared h)
