use Rattle.std.proofs.Common.{List, sym, ap, ◌∙◌, subst}
use Rattle.std.proofs.lemmas.Result.{err_from_is_err_and}
use Rattle.mrpc_table.specs.declared.table.Table.{Table}
use Rattle.policy_declarations.specs.declared.declaration.Tenant.{Tenant}
use Rattle.toml.specs.Data.{Members}
use Rattle.toml.specs.View.{table_view}
use Rattle.scenario.specs.Applications.{HasTable, tenant_tables}
use Rattle.scenario.specs.Policies.{IsPolicyFault, IsPolicyMeaning, IsTenantFault, IsTenantMeaning}
use Rattle.scenario.specs.Scenarios.{schema_of}
use Rattle.scenario_lines.specs.Programs.{Each}
use Rattle.scenario_entries.specs.Entries.{AreFaultFree, views}
use Rattle.scenario_reader.proofs.Below.{policy_fault, tenant_fault}
use Rattle.scenario_reader.proofs.Whole.{policys_free, tenants_free}
use Rattle.scenario_reader.proofs.reader.read_declared.Goals as goal

pub returns-in_err-tenants : goal.returns-in_err-tenants
returns-in_err-tenants c =
    let ms = table_view c.args.all.now in
    let tenants_are = ap views c.as_slice.ensures.value ∙ c.in_ok-tenant_entries.ensures in
    let p = err_from_is_err_and c.from_residual-in_err-tenants.result c.from_residual-in_err-tenants.ensures.1 in
    rw (p.1, p.2) (tenant_fault ms c.requires.free (views c.as_slice.result.now) tenants_are c.in_err-tenants.field-0.0 c.in_err-tenants.ensures)

pub returns-in_err-declarations : goal.returns-in_err-declarations
returns-in_err-declarations c =
    let ms = table_view c.args.all.now in
    let tenants_are = ap views c.as_slice.ensures.value ∙ c.in_ok-tenant_entries.ensures in
    let tenants = c.in_ok-tenants.ensures in
    let of_tenants = subst (λ (es : List Members). AreFaultFree IsTenantFault es) tenants_are tenants.0 in
    let tell = subst (λ (es : List Members). Each IsTenantMeaning es c.in_ok-tenants.tenants.tenants) tenants_are tenants.1 in
    let policies_are = ap views c.as_slice-2.ensures.value ∙ c.in_ok-policies.ensures in
    let p = err_from_is_err_and c.from_residual-in_err-declarations.result c.from_residual-in_err-declarations.ensures.1 in
    rw (p.1, p.2) (policy_fault c.schema_table_is_unique.ensures ms c.args.table.now c.requires.schema (tenants_free ms c.requires.free of_tenants)
    (views c.as_slice-2.result.now) policies_are c.in_err-declarations.field-0.0 (c.in_err-declarations.ensures (tenant_tables ms) tell tenants.2))

pub returns : goal.returns
returns c =
    let ms = table_view c.args.all.now in
    let table = c.args.table.now in
    let declared = c.in_ok-declarations.declarations in
    let tenants_are = ap views c.as_slice.ensures.value ∙ c.in_ok-tenant_entries.ensures in
    let tenants = c.in_ok-tenants.ensures in
    let of_tenants = subst (λ (es : List Members). AreFaultFree IsTenantFault es) tenants_are tenants.0 in
    let tell = subst (λ (es : List Members). Each IsTenantMeaning es c.in_ok-tenants.tenants.tenants) tenants_are tenants.1 in
    let policies_are = ap views c.as_slice-2.ensures.value ∙ c.in_ok-policies.ensures in
    let policies = c.in_ok-declarations.ensures (tenant_tables ms) tell tenants.2 in
    let of_policies = subst (λ (es : List Members). AreFaultFree (IsPolicyFault table (tenant_tables ms)) es) policies_are policies.0 in
    let one = λ (U : Table) (h : HasTable (schema_of ms) U). c.schema_table_is_unique.ensures (schema_of ms) U table h c.requires.schema in
    record {
      free = policys_free ms table c.requires.schema one (tenants_free ms c.requires.free of_tenants) of_policies;
      of_policies = of_policies;
      tenants = subst (λ (ts : List Tenant). Each IsTenantMeaning (tenant_tables ms) ts) (sym policies.2) tell;
      policies = subst (λ (es : List Members). Each (IsPolicyMeaning table (tenant_tables ms)) es declared.policies) policies_are policies.1;
      entries = c.in_ok-policies.ensures;
    }
