use Rattle.std.proofs.Common.{◌≡◌, nat_lt, Bool, Option, sym, ap, ◌∙◌, subst}
use Rattle.run_plan.specs.declared.limits.TheConstants.{MAX_STEPS}
use Rattle.scenario.specs.Applications.{entry_conn}
use Rattle.scenario.specs.Reasons.{IsSoFar, lower_ranked, reason_if}
use Rattle.scenario.specs.declared.fault.ScenarioReason.{ScenarioReason}
use Rattle.scenario.specs.declared.fault.ScenarioReason.TheVariants.{Known, Number, Unknown}
use Rattle.scenario_reader.specs.Operating.{HasOperatorHeadFault, is_operated}
use Rattle.scenario_reader.proofs.Operating.{head_is}
use Rattle.scenario_reader.proofs.operator.head_reason.Goals as goal

pub returns : goal.returns
returns c = λ all ms tables same says conn long told named.
    let first = c.args.steps.now.first in
    let many = reason_if (nat_lt MAX_STEPS c.args.lines) Number in
    let there = reason_if (is_operated c.args.before.now (entry_conn ms)) Known in
    let a : c.earlier-counted.result ≡ lower_ranked first many = c.earlier-counted.ensures ∙ ap (lower_ranked first) c.reason_if.ensures in
    let b : c.earlier-known.result ≡ lower_ranked (lower_ranked first many) there =
    c.earlier-known.ensures ∙ ap (λ (o : Option ScenarioReason). lower_ranked o c.reason_if-2.result) a
    ∙ ap (lower_ranked (lower_ranked first many))
    (c.reason_if-2.ensures ∙ ap (λ (x : Bool). reason_if x Known) (c.has_operator.ensures ∙ ap (is_operated c.args.before.now) conn)) in
    let whole =
    c.earlier.ensures ∙ ap (λ (o : Option ScenarioReason). lower_ranked o c.reason_if-3.result) b
    ∙ ap (lower_ranked (lower_ranked (lower_ranked first many) there)) (c.reason_if-3.ensures ∙ ap (λ (x : Bool). reason_if x Unknown) c.has_undeclared_name.ensures) in
    subst (λ (o : Option ScenarioReason). IsSoFar (HasOperatorHeadFault all tables ms) o) (sym whole)
    (head_is all tables ms c.args.declared.now c.args.before.now c.args.names.now c.args.lines first same says long told.reason named)
