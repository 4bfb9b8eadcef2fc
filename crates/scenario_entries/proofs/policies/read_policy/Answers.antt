use Rattle.std.proofs.Common.{Option, Some, Result, Ok, Err, sym, ap, ◌∙◌, subst}
use Rattle.mrpc_table.specs.declared.policy_lines.RuleReason.{RuleReason}
use Rattle.engine_core.specs.declared.policy.Policy.{Policy}
use Rattle.toml.specs.View.{table_view}
use Rattle.scenario.specs.Policies.{IsPolicyFault}
use Rattle.scenario.specs.Reasons.{IsSoFar, lower_ranked, reason_of_policy_line}
use Rattle.scenario.specs.declared.fault.ScenarioReason.{ScenarioReason}
use Rattle.scenario_entries.specs.FirstReasons.{IsLinesRead, first_head_reason}
use Rattle.scenario_entries.proofs.Declaring.{earlier_none, named_new, named_read, policy_is, policy_new}
use Rattle.scenario_entries.proofs.policies.read_policy.Goals as goal

pub returns-in-Err-clause-read : goal.returns-in-Err-clause-read
returns-in-Err-clause-read c = λ tenants before says names.
    let T = c.args.table.now in
    let ms = table_view c.args.entry.now in
    let k = c.in-Some.kind in
    let d = c.args.declared.now in
    let told =
    ap (λ (o : Option ScenarioReason). lower_ranked o (Some (reason_of_policy_line c.in-Err.why))) (sym c.first_head_reason-head.ensures)
    ∙ ap (λ (q : ScenarioReason). lower_ranked c.first_head_reason-head.result (Some q)) (sym c.reason_of_policy_line.ensures) ∙ c.first_with.ensures in
    let read = subst (λ (r : Result (Option Policy) RuleReason). IsLinesRead k T ms r) c.in-Err.is c.in_ok-lined.ensures in
    subst (λ (o : Option ScenarioReason). IsSoFar (IsPolicyFault T tenants before ms) o) told
    (policy_is T tenants before ms k (sym c.entry_kind.ensures ∙ c.in-Some.is) (sym c.has_policy_keys.ensures ∙ c.if-not-has_policy_keys.false) d says names (Err c.in-Err.why) read)

pub returns-in-Some-head-clause-read : goal.returns-in-Some-head-clause-read
returns-in-Some-head-clause-read c = λ tenants before says names.
    let T = c.args.table.now in
    let ms = table_view c.args.entry.now in
    let k = c.in-Some.kind in
    let d = c.args.declared.now in
    let told = earlier_none (first_head_reason d k ms) ∙ sym c.first_head_reason-head.ensures ∙ c.in-Some-head.is in
    let read = subst (λ (r : Result (Option Policy) RuleReason). IsLinesRead k T ms r) c.in-Ok.is c.in_ok-lined.ensures in
    subst (λ (o : Option ScenarioReason). IsSoFar (IsPolicyFault T tenants before ms) o) told
    (policy_is T tenants before ms k (sym c.entry_kind.ensures ∙ c.in-Some.is) (sym c.has_policy_keys.ensures ∙ c.if-not-has_policy_keys.false) d says names (Ok c.in-Ok.lined) read)

pub returns-in-None-clause-new : goal.returns-in-None-clause-new
returns-in-None-clause-new c =
    named_new c.args.declared.now (table_view c.args.entry.now) c.named_policy.result c.named_policy.ensures.named
    (policy_new c.args.declared.now c.in-Some.kind (table_view c.args.entry.now) (sym c.first_head_reason-head.ensures ∙ c.in-None.is))

pub returns-in-None-clause-read : goal.returns-in-None-clause-read
returns-in-None-clause-read c = λ tenants before says names.
    let T = c.args.table.now in
    let ms = table_view c.args.entry.now in
    let k = c.in-Some.kind in
    let d = c.args.declared.now in
    let is_kind = sym c.entry_kind.ensures ∙ c.in-Some.is in
    let none = sym c.first_head_reason-head.ensures ∙ c.in-None.is in
    let told = earlier_none (first_head_reason d k ms) ∙ none in
    let read = subst (λ (r : Result (Option Policy) RuleReason). IsLinesRead k T ms r) c.in-Ok.is c.in_ok-lined.ensures in
    let free = subst (λ (o : Option ScenarioReason). IsSoFar (IsPolicyFault T tenants before ms) o) told
    (policy_is T tenants before ms k is_kind (sym c.has_policy_keys.ensures ∙ c.if-not-has_policy_keys.false) d says names (Ok c.in-Ok.lined) read) in
    named_read T tenants before ms c.named_policy.result free (c.named_policy.ensures.says T tenants is_kind none read.0 says)
