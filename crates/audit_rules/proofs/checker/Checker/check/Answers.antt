use Rattle.std.proofs.Common.{◌≡◌, ◌∷◌, ◌∙◌, false, true, ap, subst, sym}
use Rattle.std.specs.Prelude.{IfNone, IfSome, Option}
use Rattle.call_history.specs.Rules.{CanFollow}
use Rattle.audit_rules.specs.BrokenRules.{IsFirstBrokenRule}
use Rattle.audit_rules.specs.CheckerState.{IsCheckerAfter, checker_context}
use Rattle.audit_rules.specs.EventKinds.{first_broken_rule, own_rule}
use Rattle.audit_rules.specs.declared.rule.Rule.{Rule}
use Rattle.audit_rules.proofs.Firsts.{breaks-first, breaks-malformed, breaks-numbers, free-before, if-none-both, may-come}
use Rattle.audit_rules.proofs.checker.Checker.check.Goals as goal

pub returns-then-not-is_numbered-clause-breaks : goal.returns-then-not-is_numbered-clause-breaks
returns-then-not-is_numbered-clause-breaks c = λ past knows. breaks-numbers (checker_context c.args.table.now c.args.self.now) past c.args.what
    (λ is. (let wrong : false ≡ true = sym c.if-not-is_numbered.true ∙ (c.is_numbered.ensures past knows).1 is in cc))

pub returns-then-not-refuses_malformed-clause-breaks : goal.returns-then-not-refuses_malformed-clause-breaks
returns-then-not-refuses_malformed-clause-breaks c = λ past knows.
    breaks-malformed (checker_context c.args.table.now c.args.self.now) past c.args.what ((c.is_numbered.ensures past knows).0 c.if-not-is_numbered.false)
    (λ is. (let wrong : false ≡ true = sym c.if-not-refuses_malformed.true ∙ (c.refuses_malformed.ensures past knows.left).1 is in cc))

pub apply-kept-requires-clause-numbered : goal.apply-kept-requires-clause-numbered
apply-kept-requires-clause-numbered c = (c.requires.knowing.0, c.requires.knowing.1, (c.is_numbered.ensures c.requires.knowing.0 c.requires.knowing.1).0 c.if-not-is_numbered.false)

pub apply-kept-requires-clause-free : goal.apply-kept-requires-clause-free
apply-kept-requires-clause-free c = free-before c.requires.knowing.0 c.args.what c.args.self.now.left c.requires.knowing.1.left
    ((c.refuses_malformed.ensures c.requires.knowing.0 c.requires.knowing.1.left).0 c.if-not-refuses_malformed.false)

pub returns-clause-may : goal.returns-clause-may
returns-clause-may c = λ past knows.
    (let by = c.first_broken_rule.ensures ∙ ap (λ (own : Rule). first_broken_rule own c.apply-kept.result c.refuses_drawn-drawn.result c.keeps_link-linked.result) c.own_rule-own.ensures in
    subst (λ (r : Option Rule). IfNone r (CanFollow (checker_context c.args.table.now c.args.self.now) past c.args.what)) (sym by)
    (may-come (checker_context c.args.table.now c.args.self.now) past c.args.what ((c.is_numbered.ensures past knows).0 c.if-not-is_numbered.false)
    ((c.refuses_malformed.ensures past knows.left).0 c.if-not-refuses_malformed.false) c.apply-kept.result c.refuses_drawn-drawn.result c.keeps_link-linked.result
    (c.apply-kept.ensures.kept past knows) (c.refuses_drawn-drawn.ensures c.args.table.now past knows) (c.keeps_link-linked.ensures c.args.table.now past knows)))

pub returns-clause-breaks : goal.returns-clause-breaks
returns-clause-breaks c = λ past knows.
    (let by = c.first_broken_rule.ensures ∙ ap (λ (own : Rule). first_broken_rule own c.apply-kept.result c.refuses_drawn-drawn.result c.keeps_link-linked.result) c.own_rule-own.ensures in
    subst (λ (r : Option Rule). IfSome r (λ rule. IsFirstBrokenRule (checker_context c.args.table.now c.args.self.now) past c.args.what rule)) (sym by)
    (breaks-first (checker_context c.args.table.now c.args.self.now) past c.args.what ((c.is_numbered.ensures past knows).0 c.if-not-is_numbered.false)
    ((c.refuses_malformed.ensures past knows.left).0 c.if-not-refuses_malformed.false) c.apply-kept.result c.refuses_drawn-drawn.result c.keeps_link-linked.result
    (c.apply-kept.ensures.kept past knows) (c.apply-kept.ensures.broken past knows)
    (c.refuses_drawn-drawn.ensures c.args.table.now past knows) (c.keeps_link-linked.ensures c.args.table.now past knows)))

pub returns-clause-knows : goal.returns-clause-knows
returns-clause-knows c = λ past knows.
    (let by = c.first_broken_rule.ensures ∙ ap (λ (own : Rule). first_broken_rule own c.apply-kept.result c.refuses_drawn-drawn.result c.keeps_link-linked.result) c.own_rule-own.ensures in
    let after = c.apply-kept.new.self in
    subst (λ (r : Option Rule). IfNone r (IsCheckerAfter c.args.table.now (c.args.what ∷ past) after)) (sym by)
    (if-none-both (CanFollow (checker_context c.args.table.now c.args.self.now) past c.args.what) (IsCheckerAfter c.args.table.now (c.args.what ∷ past) after) (own_rule c.args.what) c.apply-kept.result
    c.refuses_drawn-drawn.result c.keeps_link-linked.result (c.apply-kept.ensures.knows past knows)
    (may-come (checker_context c.args.table.now c.args.self.now) past c.args.what ((c.is_numbered.ensures past knows).0 c.if-not-is_numbered.false)
    ((c.refuses_malformed.ensures past knows.left).0 c.if-not-refuses_malformed.false) c.apply-kept.result c.refuses_drawn-drawn.result c.keeps_link-linked.result
    (c.apply-kept.ensures.kept past knows) (c.refuses_drawn-drawn.ensures c.args.table.now past knows) (c.keeps_link-linked.ensures c.args.table.now past knows))))
