use Rattle.std.proofs.Common.{◌≡◌, None, ◌∙◌, refl, subst}
use Rattle.toml.specs.View.{table_view}
use Rattle.scenario.specs.declared.entry_words.PolicyKind.{PolicyKind}
use Rattle.scenario_entries.specs.FirstReasons.{first_head_reason}
use Rattle.scenario_entries.proofs.Declaring.{tenant_found}
use Rattle.scenario_entries.proofs.policies.named_policy.Goals as goal

pub returns-in-Some-clause-says : goal.returns-in-Some-clause-says
returns-in-Some-clause-says c = λ T tenants is head lined says. (
  record { name = c.in_ok-name.ensures ∙ c.text_or_empty.ensures; policy = c.in-Some.ensures T tenants is lined says },
  refl,
)

pub returns-in-None-clause-says : goal.returns-in-None-clause-says
returns-in-None-clause-says c = λ T tenants is head lined says.
    let lacks = c.in-None.ensures T tenants is lined says in
    absurd (tenant_found c.args.declared.now (table_view c.args.entry.now)
    (subst (λ (k : PolicyKind). first_head_reason c.args.declared.now k (table_view c.args.entry.now) ≡ None) lacks.0 head) lacks.1)
