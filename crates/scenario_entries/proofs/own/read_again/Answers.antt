use Rattle.std.proofs.Common.{subst}
use Rattle.engine_core.specs.declared.policy.Policy.{Policy}
use Rattle.toml.specs.View.{table_view}
use Rattle.scenario.specs.Policies.{IsPolicyOfKind}
use Rattle.scenario.specs.declared.entry_words.PolicyKind.TheVariants as kind
use Rattle.scenario_entries.specs.FirstReasons.{IsRuledResult}
use Rattle.scenario_entries.specs.Marking.{IsReadAgain}
use Rattle.scenario_entries.proofs.Owned.{access_again, ok_more, redact_again}
use Rattle.scenario_entries.proofs.own.read_again.Goals as goal

pub returns-in-Access : goal.returns-in-Access
returns-in-Access c = λ shared tenants says.
    let T = c.args.table.now in
    let ms = table_view c.args.entry.now in
    let is = subst (λ (p : Policy). IsPolicyOfKind shared tenants ms p) c.in-Access.is says in
    ok_more (IsRuledResult kind.Access T ms) (IsReadAgain T tenants ms) (access_again T tenants ms is.0) c.access_in.result c.access_in.ensures

pub returns-in-Redact : goal.returns-in-Redact
returns-in-Redact c = λ shared tenants says.
    let T = c.args.table.now in
    let ms = table_view c.args.entry.now in
    let is = subst (λ (p : Policy). IsPolicyOfKind shared tenants ms p) c.in-Redact.is says in
    ok_more (IsRuledResult kind.Redact T ms) (IsReadAgain T tenants ms) (redact_again T tenants ms is.0) c.redact_in.result c.redact_in.ensures
