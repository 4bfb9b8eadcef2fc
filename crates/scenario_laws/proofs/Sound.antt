-- The plan of a scenario is valid.
use Rattle.std.proofs.Common.{ℕ, ◌≤◌, ◌&&◌, List, length, All, Contains, refl, sym, subst, inl, inr, arith}
use Rattle.std.specs.Prelude.{codes}
use Rattle.std.proofs.lemmas.Bool.{and_from, and_parts, both_ways, cases_Bool}
use Rattle.std.proofs.lemmas.List.{length-map}
use Rattle.std.proofs.lemmas.List.Elements.{All-contains}
use Rattle.mrpc_table.specs.Lines.{IsIn}
use Rattle.mrpc_table.specs.Names.{IsFullName, is_full_form, is_short_full}
use Rattle.mrpc_table.specs.declared.limits.TheConstants.{MAX_LOADS}
use Rattle.mrpc_table.specs.declared.table.Table.{Table}
use Rattle.policy_declarations.specs.Declarations.{Declared, AreValidDeclarations}
use Rattle.policy_declarations.specs.declared.declaration.NamedPolicy.{NamedPolicy}
use Rattle.run_plan.specs.Chains.{IsReadUnder}
use Rattle.run_plan.specs.Plans.{HasWindow, IsApplication, IsOwnPolicy, IsPlan}
use Rattle.run_plan.specs.Links.{connections_of}
use Rattle.run_plan.specs.declared.application.Application.{Application}
use Rattle.run_plan.specs.declared.application.OwnPolicy.{OwnPolicy}
use Rattle.run_plan.specs.declared.limits.TheConstants.{MAX_CONNECTIONS, MAX_WORKERS}
use Rattle.run_plan.specs.declared.plan.Plan.{Plan}
use Rattle.toml.specs.Data.{Members}
use Rattle.scenario_lines.specs.Programs.{Each}
use Rattle.scenario_toml.specs.Values.{TheIntegerRange, number_or_default, text_or_empty}
use Rattle.scenario.specs.Applications.{policy_tables, tenant_tables}
use Rattle.scenario.specs.Keys.{loads, top_ranges, workers}
use Rattle.scenario.specs.Policies.{IsPolicyFault, IsPolicyMeaning, IsTenantFault, IsTenantMeaning}
use Rattle.scenario.specs.Scenarios.{IsOwnPolicyMeaning, IsPlanOfScenario, no_name, out_of_range}
use Rattle.scenario.specs.declared.fault.ScenarioReason.TheVariants.{Name, Number}
use Rattle.scenario_entries.specs.Entries.{AreFaultFree}
use Rattle.scenario_laws.proofs.Alike.{Laws}
use Rattle.scenario_laws.proofs.Applications.{are_applications, table_valid, work_fine}
use Rattle.scenario_laws.proofs.Free.{policies_free, tenants_free, top_free}
use Rattle.scenario_laws.proofs.Lists.{there_unmap}
use Rattle.scenario_laws.proofs.Numbers.{few_below, within}
use Rattle.scenario_laws.proofs.Operators.{are_operators, operators_distinct}
use Rattle.scenario_laws.proofs.Pairs.{are_paired, conns_are_distinct}

-- the declarations of entries without faults, and own policies, by the laws in use
pub record Declaring : Type 0 where
  pub sound : (T : Table) (tenants entries : List Members) (d : Declared) → AreFaultFree IsTenantFault tenants → AreFaultFree (IsPolicyFault T tenants) entries
      → Each IsTenantMeaning tenants d.tenants → Each (IsPolicyMeaning T tenants) entries d.policies → AreValidDeclarations d
  pub read : (T : Table) (tenants entries : List Members) (d : Declared) → AreFaultFree IsTenantFault tenants → AreFaultFree (IsPolicyFault T tenants) entries
      → Each IsTenantMeaning tenants d.tenants → Each (IsPolicyMeaning T tenants) entries d.policies → All (λ p. IsReadUnder T p.policy) d.policies
  pub windows : (T : Table) (tenants entries : List Members) (d : Declared) → AreFaultFree IsTenantFault tenants → AreFaultFree (IsPolicyFault T tenants) entries
      → Each IsTenantMeaning tenants d.tenants → Each (IsPolicyMeaning T tenants) entries d.policies → All (λ p. HasWindow d.tenants p.policy) d.policies
  pub own : (all : Members) (shared own : Table) (policies : List NamedPolicy) (read : List OwnPolicy)
      → Each (IsPolicyMeaning shared (tenant_tables all)) (policy_tables all) policies → All (IsOwnPolicyMeaning all own) read
      → All (IsOwnPolicy shared policies own) read

full_name : (word : List ℕ) → ((IsFullName word → ⊥) → ⊥) → IsFullName word
full_name word h = elim (cases_Bool (is_full_form word && is_short_full word)) [
  | inl fine ↦ (let both = and_parts (is_full_form word) (is_short_full word) fine in record { form = both.0; short = both.1 })
  | inr bad ↦ absurd (h (λ name. both_ways _ bad (and_from (is_full_form word) (is_short_full word) name.form name.short)))
]

module _ (laws : Laws) (declaring : Declaring) (all : Members) (plan : Plan) (says : IsPlanOfScenario all plan) where
  fine : (r : TheIntegerRange) → Contains top_ranges r → IsIn r.least r.most (number_or_default r all)
  fine r there = within r all (λ out. top_free all plan says Number (out_of_range r there out refl))

  own_is : (own : Table) (read : List OwnPolicy) → All (IsOwnPolicyMeaning all own) read → All (IsOwnPolicy plan.table plan.declared.policies own) read
  own_is own read h = declaring.own all plan.table own plan.declared.policies read says.policies h

  apps : All (IsApplication plan) plan.applications
  apps = are_applications all plan says own_is laws

  conn_fine : (n : ℕ) → Contains (connections_of plan.applications) n → IsIn 1 MAX_CONNECTIONS n
  conn_fine n there =
      let app = there_unmap (λ (a : Application). a.conn) plan.applications n there in
      subst (IsIn 1 MAX_CONNECTIONS) app.2 (All-contains (IsApplication plan) plan.applications app.0 apps app.1).port.conn

  few_apps : length plan.applications ≤ MAX_CONNECTIONS
  few_apps =
      let few = few_below (connections_of plan.applications) MAX_CONNECTIONS (conns_are_distinct all plan says) conn_fine in
      let count = length-map plan.applications (λ (a : Application). a.conn) in
      omega (arith, few, count)

  pub said_is_sound : IsPlan plan
  said_is_sound = record {
    service = subst IsFullName (sym says.service) (full_name (text_or_empty (codes "service") all) (λ none. top_free all plan says Name (no_name none refl)));
    loads = subst (IsIn 1 MAX_LOADS) (sym says.loads) (fine loads (1, omega arith, refl));
    workers = subst (IsIn 1 MAX_WORKERS) (sym says.workers) (fine workers (2, omega arith, refl));
    table = table_valid _ plan.table says.table;
    declared = declaring.sound plan.table (tenant_tables all) (policy_tables all) plan.declared (tenants_free all plan says) (policies_free all plan says) says.tenants says.policies;
    read = declaring.read plan.table (tenant_tables all) (policy_tables all) plan.declared (tenants_free all plan says) (policies_free all plan says) says.tenants says.policies;
    windows = declaring.windows plan.table (tenant_tables all) (policy_tables all) plan.declared (tenants_free all plan says) (policies_free all plan says) says.tenants says.policies;
    few = few_apps;
    connections = conns_are_distinct all plan says;
    applications = apps;
    pairs = are_paired all plan says;
    operator_of = operators_distinct all plan says;
    operators = are_operators all plan says;
    work = work_fine all plan says;
  }
