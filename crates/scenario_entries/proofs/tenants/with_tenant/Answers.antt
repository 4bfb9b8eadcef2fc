use Rattle.std.proofs.Common.{sym, ◌∙◌, subst}
use Rattle.toml.specs.View.{table_view}
use Rattle.scenario.specs.Policies.{IsTenantFault}
use Rattle.scenario.specs.Reasons.{IsSoFar}
use Rattle.scenario_entries.proofs.Declaring.{tenant_is, tenant_new}
use Rattle.scenario_entries.proofs.tenants.with_tenant.Goals as goal

pub with-requires : goal.with-requires
with-requires c =
    tenant_new c.args.declared (table_view c.args.entry.now) c.in_ok-tenant.tenant (sym c.first_tenant_reason.ensures ∙ c.in_default.is) c.in_ok-tenant.ensures.name

pub returns-in-Some : goal.returns-in-Some
returns-in-Some c = λ before says.
    subst (IsSoFar (IsTenantFault before (table_view c.args.entry.now))) (sym c.first_tenant_reason.ensures ∙ c.in-Some.is)
    (tenant_is before (table_view c.args.entry.now) c.args.declared says)

pub returns : goal.returns
returns c = λ before says. (
  subst (IsSoFar (IsTenantFault before (table_view c.args.entry.now))) (sym c.first_tenant_reason.ensures ∙ c.in_default.is)
      (tenant_is before (table_view c.args.entry.now) c.args.declared says),
  (c.in_ok-tenant.tenant, c.in_ok-tenant.ensures, c.in_ok-with.ensures),
)
