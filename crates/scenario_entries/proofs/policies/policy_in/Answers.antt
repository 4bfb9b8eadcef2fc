use Rattle.std.proofs.Common.{◌≡◌, Some, None, ap, ◌∙◌}
use Rattle.policy_declarations.specs.Declarations.{tenant_index}
use Rattle.toml.specs.View.{table_view}
use Rattle.scenario.specs.Policies.{IsPolicyOfKind}
use Rattle.scenario.specs.declared.entry_words.PolicyKind.{PolicyKind}
use Rattle.scenario.specs.declared.entry_words.PolicyKind.TheVariants as of_kind
use Rattle.scenario_entries.specs.FirstReasons.{quota_tenant}
use Rattle.scenario_entries.proofs.Declaring.{none_more}
use Rattle.scenario_entries.proofs.policies.policy_in.Goals as goal

pub returns-in-Quota : goal.returns-in-Quota
returns-in-Quota c = λ T tenants is lined says.
    let ms = table_view c.args.entry.now in
    none_more c.quota_in.result (tenant_index c.args.declared.now (quota_tenant ms) ≡ None)
    ((c.args.kind ≡ of_kind.Quota) × (tenant_index c.args.declared.now (quota_tenant ms) ≡ None)) (IsPolicyOfKind T tenants ms)
    (λ none. (c.in-Quota.is, none)) (c.quota_in.ensures T tenants (is ∙ ap (λ (k : PolicyKind). Some k) c.in-Quota.is) says)
