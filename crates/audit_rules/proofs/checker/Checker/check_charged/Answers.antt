use Rattle.std.proofs.Common.{◌∙◌, refl, sym}
use Rattle.call_history.specs.declared.happening.Happening.TheVariants.{Charged}
use Rattle.audit_rules.specs.declared.rule.Rule.TheVariants.{D}
use Rattle.audit_rules.proofs.Briefs.{briefly-breaks, briefly-knows, briefly-may}
use Rattle.audit_rules.proofs.checker.Checker.check_charged.Goals as goal

pub returns-clause-may : goal.returns-clause-may
returns-clause-may c = λ past knows.
    briefly-may c.args.table.now past (Charged c.args.seq c.args.name.now c.args.level) c.args.self.now tt knows D c.note-kept.result c.is_settled-drawn.result c.is_linked-linked.result
    c.first_broken_rule.result refl (sym c.has_malformed.ensures ∙ c.if-has_malformed.false) c.is_settled-drawn.ensures c.is_linked-linked.ensures c.first_broken_rule.ensures (c.note-kept.ensures.due past knows)

pub returns-clause-breaks : goal.returns-clause-breaks
returns-clause-breaks c = λ past knows.
    briefly-breaks c.args.table.now past (Charged c.args.seq c.args.name.now c.args.level) c.args.self.now tt knows D c.note-kept.result c.is_settled-drawn.result c.is_linked-linked.result
    c.first_broken_rule.result refl (sym c.has_malformed.ensures ∙ c.if-has_malformed.false) c.is_settled-drawn.ensures c.is_linked-linked.ensures c.first_broken_rule.ensures (c.note-kept.ensures.due past knows)
    (c.note-kept.ensures.not_due past knows)

pub returns-clause-knows : goal.returns-clause-knows
returns-clause-knows c = λ past knows.
    briefly-knows c.args.table.now past (Charged c.args.seq c.args.name.now c.args.level) c.args.self.now tt knows D c.note-kept.result c.is_settled-drawn.result c.is_linked-linked.result
    c.first_broken_rule.result refl (sym c.has_malformed.ensures ∙ c.if-has_malformed.false) c.is_settled-drawn.ensures c.is_linked-linked.ensures c.first_broken_rule.ensures c.note-kept.new.self
    (c.note-kept.ensures.due past knows) (c.note-kept.ensures.knows past (Charged c.args.seq c.args.name.now c.args.level) knows refl)
