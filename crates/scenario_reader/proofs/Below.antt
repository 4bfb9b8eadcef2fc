-- The results after the declarations, list by list, and the first fault there.
use Rattle.std.proofs.Common.{◌≡◌, ℕ, List, subst, refl}
use Rattle.mrpc_table.specs.Valid.{AreDistinct}
use Rattle.mrpc_table.specs.declared.table.Table.{Table}
use Rattle.policy_declarations.specs.Declarations.{Declared, policy_names, policy_index}
use Rattle.policy_declarations.specs.declared.declaration.NamedPolicy.{NamedPolicy}
use Rattle.run_plan.specs.declared.application.Application.{Application}
use Rattle.run_plan.specs.declared.operator.Operator.{Operator}
use Rattle.run_plan.specs.declared.plan.LinkPlan.{LinkPlan}
use Rattle.toml.specs.Data.{Members}
use Rattle.scenario.specs.Applications.{IsAppFault, HasTable, IsLinkFault, app_tables, entry_conn, entry_conns, link_tables, operator_tables, policy_tables, tenant_tables}
use Rattle.scenario.specs.Applications as apps
use Rattle.scenario.specs.Operators.{IsOperatorFault}
use Rattle.scenario.specs.Policies.{IsPolicyFault, IsPolicyMeaning, IsTenantFault, entry_name, entry_names}
use Rattle.scenario.specs.Policies as policies
use Rattle.scenario.specs.Scenarios.{AreDeclared, IsLinkMeaning, IsOperatorMeaning, policy_entry_index, schema_of}
use Rattle.scenario.specs.declared.fault.FaultyEntry.TheVariants as entry
use Rattle.scenario.specs.declared.fault.ScenarioFault.{ScenarioFault}
use Rattle.scenario.specs.declared.fault.ScenarioReason.TheVariants.{Known}
use Rattle.scenario_lines.specs.Programs.{Each}
use Rattle.scenario_entries.specs.Entries.{AreFaultFree, IsListFault}
use Rattle.scenario_entries.specs.AppConnections.{IsAppConnectionOf}
use Rattle.scenario_entries.specs.declared.link.AppConnection.{AppConnection}
use Rattle.scenario_reader.specs.Joining.{IsApp}
use Rattle.scenario_reader.specs.TopLevel.{IsFaultFreeBefore, IsFirstFaultOfScenario, IsMeaningOfLowerLists}
use Rattle.scenario_reader.proofs.Assembling.{apps_say}
use Rattle.scenario_reader.proofs.Distinct.{distinct_of}
use Rattle.scenario_reader.proofs.Whole.{apps_fault, apps_free, links_fault, links_free, operators_fault, operators_free, policys_fault, tenants_fault}

-- the declarations of entries without faults have distinct names
pub names_distinct : (T : Table) (tenants entries : List Members) → AreFaultFree (IsPolicyFault T tenants) entries → AreDistinct (entry_names entries)
names_distinct T tenants entries free =
    distinct_of entry_name (IsPolicyFault T tenants) (λ before ms h. (Known, policies.is_known h refl)) entries free

pub conns_distinct : (all : Members) (declared : List NamedPolicy) (entries : List Members) → AreFaultFree (IsAppFault all declared) entries
    → AreDistinct (entry_conns entries)
conns_distinct all declared entries free =
    distinct_of entry_conn (IsAppFault all declared) (λ before ms h. (Known, apps.is_known h refl)) entries free

pub tenant_fault : (all : Members) → IsFaultFreeBefore all 1 → (entries : List Members) → entries ≡ tenant_tables all → (f : ScenarioFault)
    → IsListFault (λ n. entry.Tenant n) IsTenantFault entries f → IsFirstFaultOfScenario all f
tenant_fault all below entries is f h =
    tenants_fault all below f (subst (λ (es : List Members). IsListFault (λ n. entry.Tenant n) IsTenantFault es f) is h)

-- the laws of tables and of declarations that a reader uses
abbrev pub OneTable : Type 0
OneTable = (text : List ℕ) (T U : Table) → HasTable text T → HasTable text U → T ≡ U

abbrev pub OneDeclaration : Type 0
OneDeclaration = (T : Table) (tenants entries : List Members) (declared others : List NamedPolicy)
    → Each (IsPolicyMeaning T tenants) entries declared → Each (IsPolicyMeaning T tenants) entries others → declared ≡ others

pub policy_fault : OneTable → (all : Members) (T : Table) → HasTable (schema_of all) T → IsFaultFreeBefore all 2 → (entries : List Members)
    → entries ≡ policy_tables all → (f : ScenarioFault)
    → IsListFault (λ n. entry.Policy n) (IsPolicyFault T (tenant_tables all)) entries f → IsFirstFaultOfScenario all f
policy_fault one_table all T has below entries is f h =
    policys_fault all T has (λ U other. one_table (schema_of all) U T other has) below f
    (subst (λ (es : List Members). IsListFault (λ n. entry.Policy n) (IsPolicyFault T (tenant_tables all)) es f) is h)

module _ (one_table : OneTable) (one_declaration : OneDeclaration) (all : Members) (T : Table) (d : Declared)
    (has : HasTable (schema_of all) T) (says : Each (IsPolicyMeaning T (tenant_tables all)) (policy_tables all) d.policies) where
  are : AreDeclared all d.policies
  are = record { table = T; of_schema = has; policies = says }

  one : (others : List NamedPolicy) → AreDeclared all others → others ≡ d.policies
  one others h =
      let same = one_table (schema_of all) h.table T h.of_schema has in
      let here = subst (λ (U : Table). Each (IsPolicyMeaning U (tenant_tables all)) (policy_tables all) others) same h.policies in
      one_declaration T (tenant_tables all) (policy_tables all) others d.policies here says

  module _ (below : IsFaultFreeBefore all 3) where
    pub app_fault : (entries : List Members) → entries ≡ app_tables all → (f : ScenarioFault)
        → IsListFault (λ n. entry.App n) (IsAppFault all d.policies) entries f → IsFirstFaultOfScenario all f
    app_fault entries is f h =
        apps_fault all d.policies are one below f (subst (λ (es : List Members). IsListFault (λ n. entry.App n) (IsAppFault all d.policies) es f) is h)

    module _ (of_apps : AreFaultFree (IsAppFault all d.policies) (app_tables all)) where
      below_links : IsFaultFreeBefore all 4
      below_links = apps_free all d.policies are one below of_apps

      pub link_fault : (entries : List Members) → entries ≡ link_tables all → (f : ScenarioFault)
          → IsListFault (λ n. entry.Link n) (IsLinkFault all) entries f → IsFirstFaultOfScenario all f
      link_fault entries is f h =
          links_fault all below_links f (subst (λ (es : List Members). IsListFault (λ n. entry.Link n) (IsLinkFault all) es f) is h)

      module _ (of_links : AreFaultFree (IsLinkFault all) (link_tables all)) where
        below_operators : IsFaultFreeBefore all 5
        below_operators = links_free all below_links of_links

        pub operator_fault : (entries : List Members) → entries ≡ operator_tables all → (f : ScenarioFault)
            → IsListFault (λ n. entry.Operator n) (IsOperatorFault all d.policies) entries f → IsFirstFaultOfScenario all f
        operator_fault entries is f h =
            operators_fault all d.policies are one below_operators f
            (subst (λ (es : List Members). IsListFault (λ n. entry.Operator n) (IsOperatorFault all d.policies) es f) is h)

        module _ (of_operators : AreFaultFree (IsOperatorFault all d.policies) (operator_tables all))
            (same : policy_names d ≡ entry_names (policy_tables all)) (places : (name : List ℕ) → policy_index d name ≡ policy_entry_index all name) where
          pub says_below : (ports : List AppConnection) (applications : List Application) (links : List LinkPlan) (operators : List Operator)
              → Each IsAppConnectionOf (app_tables all) ports → Each (IsApp all d) (app_tables all) applications
              → Each IsLinkMeaning (link_tables all) links → Each (IsOperatorMeaning all) (operator_tables all) operators
              → IsMeaningOfLowerLists all (record { applications = applications; links = links; operators = operators })
          says_below ports applications links operators of_ports are_apps are_links are_operators = record {
            free = operators_free all d.policies are one below_operators of_operators;
            applications = apps_say all d same places of_apps of_operators ports applications of_ports are_apps;
            links = are_links;
            operators = are_operators;
          }
