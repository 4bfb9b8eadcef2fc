use Rattle.std.proofs.Common.{ℕ, List, get_or, sym, ap, ◌∙◌}
use Rattle.policy_declarations.specs.Declarations.{tenant_index}
use Rattle.policy_declarations.specs.declared.declaration.Tenant.{Tenant}
use Rattle.toml.specs.View.{table_view}
use Rattle.scenario_toml.specs.Values.{TheIntegerRange, number_or_default}
use Rattle.scenario_entries.proofs.Declaring.{quota_says}
use Rattle.scenario_entries.proofs.policies.quota_in.Goals as goal

pub returns-in-Some : goal.returns-in-Some
returns-in-Some c = λ T tenants is says.
    let ms = table_view c.args.entry.now in
    let d = c.args.declared.now in
    let place = c.in-Some.place in
    let default = c.index-tenants-place.result in
    quota_says T tenants ms d.tenants place (get_or c.tenants-tenants.result.now place default).per c.number.result is says
    (ap (λ (w : List ℕ). tenant_index d w) (sym c.text_or_empty.ensures) ∙ sym c.tenant.ensures ∙ c.in-Some.is) default
    (ap (λ (xs : List Tenant). (get_or xs place default).per) c.tenants-tenants.ensures.tenants)
    (c.number.ensures ∙ ap (λ (r : TheIntegerRange). number_or_default r ms) c.cap.ensures)
