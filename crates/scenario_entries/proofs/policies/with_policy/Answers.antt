use Rattle.std.proofs.Common.{◌≡◌, None, Result, ap, subst}
use Rattle.std.specs.Prelude.{IfOk}
use Rattle.policy_declarations.specs.Declarations.{Declared, policy_index}
use Rattle.policy_declarations.specs.declared.declaration.NamedPolicy.{NamedPolicy}
use Rattle.toml.specs.View.{table_view}
use Rattle.scenario.specs.Policies.{IsPolicyFault, IsPolicyMeaning}
use Rattle.scenario.specs.declared.fault.ScenarioReason.{ScenarioReason}
use Rattle.scenario_entries.specs.Entries.{IsEntryRead}
use Rattle.scenario_entries.proofs.Declaring.{policies_named}
use Rattle.scenario_entries.proofs.policies.with_policy.Goals as goal

pub with-requires : goal.with-requires
with-requires c =
    subst (λ (r : Result NamedPolicy ScenarioReason). IfOk r (λ p. policy_index c.args.declared p.name ≡ None)) c.in-Ok.is c.in_ok-policy.ensures.new

pub returns-in_ok-with-in-Ok-clause-tenants : goal.returns-in_ok-with-in-Ok-clause-tenants
returns-in_ok-with-in-Ok-clause-tenants c = ap (λ (d : Declared). d.tenants) c.in_ok-with-in-Ok.ensures

pub returns-in_ok-with-in-Ok-clause-read : goal.returns-in_ok-with-in-Ok-clause-read
returns-in_ok-with-in-Ok-clause-read c = λ tenants before says policies.
    let T = c.args.table.now in
    let ms = table_view c.args.entry.now in
    let names = policies_named T tenants before c.args.declared policies in
    let read = subst (λ (r : Result NamedPolicy ScenarioReason). IsEntryRead (IsPolicyFault T tenants before ms) (IsPolicyMeaning T tenants ms) r) c.in-Ok.is
    (c.in_ok-policy.ensures.read tenants before says names) in
    (read.0, (c.in-Ok.policy, read.1, c.in_ok-with-in-Ok.ensures))

pub returns-in-Err-clause-read : goal.returns-in-Err-clause-read
returns-in-Err-clause-read c = λ tenants before says policies.
    let T = c.args.table.now in
    let ms = table_view c.args.entry.now in
    let names = policies_named T tenants before c.args.declared policies in
    subst (λ (r : Result NamedPolicy ScenarioReason). IsEntryRead (IsPolicyFault T tenants before ms) (IsPolicyMeaning T tenants ms) r) c.in-Err.is
    (c.in_ok-policy.ensures.read tenants before says names)
