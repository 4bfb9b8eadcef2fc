-- A text without a fault can't be without a plan.
use Rattle.std.proofs.Common.{ℕ, List, Contains, refl}
use Rattle.std.specs.Prelude.{codes}
use Rattle.mrpc_table.specs.declared.table.Table.{Table}
use Rattle.policy_declarations.specs.declared.declaration.NamedPolicy.{NamedPolicy}
use Rattle.run_plan.specs.declared.plan.Plan.{Plan}
use Rattle.toml.specs.Data.{Members}
use Rattle.scenario_toml.specs.Values.{flag_at, number_or_default, text_or_empty}
use Rattle.scenario.specs.Applications.{IsAppFault, HasTable, app_tables, link_tables, operator_tables, policy_tables, tenant_tables}
use Rattle.scenario.specs.Keys.{loads, workers}
use Rattle.scenario.specs.Operators.{IsOperatorFault}
use Rattle.scenario.specs.Policies.{IsPolicyFault}
use Rattle.scenario.specs.Scenarios.{AreDeclared, HasFault, IsFaultOfEntry, IsTextOf, IsPlanOfScenario, schema_of}
use Rattle.scenario.specs.Scenarios as against
use Rattle.scenario.specs.declared.fault.FaultyEntry.{FaultyEntry}
use Rattle.scenario.specs.declared.fault.FaultyEntry.TheVariants as entry
use Rattle.scenario.specs.declared.fault.ScenarioReason.{ScenarioReason}
use Rattle.scenario.specs.declared.fault.ScenarioReason.TheVariants.{Schema, Toml}
use Rattle.scenario_laws.proofs.FaultyApplications.{apps_say}
use Rattle.scenario_laws.proofs.First.{nothing_stands}
use Rattle.scenario_laws.proofs.Lines.{OneJudgement}
use Rattle.scenario_laws.proofs.FaultyLists.{AreFree, CanBe}
use Rattle.scenario_laws.proofs.FaultyOperators.{links_say, operators_say}
use Rattle.scenario_laws.proofs.Policies.{AccessOrFault, IsFine, RedactOrFault, are_fine, policies_say, tenants_say}

-- the laws in use
pub record Laws : Type 0 where
  pub judge : OneJudgement
  pub access : AccessOrFault
  pub redact : RedactOrFault

module _ (laws : Laws) (all : Members) (free : (at : FaultyEntry) (q : ScenarioReason) → IsFaultOfEntry all at q → ⊥) where
  module _ (T : Table) (has : HasTable (schema_of all) T) where
    policies_free : AreFree (IsPolicyFault T (tenant_tables all)) (policy_tables all)
    policies_free before ms n q at h = free (entry.Policy n) q (against.policy before ms n T refl at has h)

    fine : (ms : Members) → Contains (policy_tables all) ms → IsFine (tenant_tables all) ms
    fine = are_fine laws.access laws.redact (tenant_tables all) T (policy_tables all) policies_free

    module _ (declared : List NamedPolicy) (are : AreDeclared all declared) where
      apps_free : AreFree (IsAppFault all declared) (app_tables all)
      apps_free before ms n q at h = free (entry.App n) q (against.app before ms n declared refl at are h)

      operators_free : AreFree (IsOperatorFault all declared) (operator_tables all)
      operators_free before ms n q at h = free (entry.Operator n) q (against.operator before ms n declared refl at are h)

    says_under : CanBe ((plan : Plan) × IsPlanOfScenario all plan)
    says_under never =
        let tenants = tenants_say (tenant_tables all) in
        let policies = policies_say laws.access laws.redact (tenant_tables all) T (policy_tables all) policies_free in
        let are : AreDeclared all policies.0 = record { table = T; of_schema = has; policies = policies.1 } in
        let links = links_say (link_tables all) in
        let operators = operators_say laws.judge all policies.0 (operators_free policies.0 are) in
        apps_say laws.judge laws.access laws.redact all policies.0 fine (operators_free policies.0 are) (apps_free policies.0 are) (λ apps. never (
          record {
            service = text_or_empty (codes "service") all;
            loads = number_or_default loads all;
            workers = number_or_default workers all;
            weighted = flag_at (codes "weighted") all;
            table = T;
            declared = record { tenants = tenants.0; policies = policies.0 };
            applications = apps.0;
            links = links.0;
            operators = operators.0;
          },
          record {
            free = free;
            service = refl;
            loads = refl;
            workers = refl;
            weighted = refl;
            table = has;
            tenants = tenants.1;
            policies = policies.1;
            applications = apps.1;
            links = links.1;
            operators = operators.1;
          },
        ))

  says_some : CanBe ((plan : Plan) × IsPlanOfScenario all plan)
  says_some never = free entry.Top Schema (against.top refl (against.no_table (λ T has. says_under T has never) refl))

pub never_neither_of : Laws → (text : List ℕ) → ((plan : Plan) → IsTextOf text plan → ⊥)
    → ((at : FaultyEntry) (reason : ScenarioReason) → HasFault text at reason → ⊥) → ⊥
never_neither_of laws text no_plan no_fault = no_fault entry.Top Toml (against.no_toml (λ all parsed.
    says_some laws all (nothing_stands all (λ at q first. no_fault at q (against.in_entry all parsed first)))
    (λ said. no_plan said.0 (record { all = all; parsed = parsed; says = said.1 }))) refl refl)
