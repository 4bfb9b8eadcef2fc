use Rattle.std.proofs.Common.{ℕ, ◌≡◌, ◌+◌, arith, ap, length, ◌∙◌}
use Rattle.audit_rules.specs.declared.rule.Rule.TheVariants.{Stands}
use Rattle.audit_check.specs.Checking.{missing}
use Rattle.audit_check.specs.declared.checked.Checked.TheVariants.{Illegal}
use Rattle.audit_check.proofs.Rows.{row_begins}
use Rattle.audit_check.proofs.stage.legal_result.Goals as goal

pub returns-else-stands-eq0 : goal.returns-else-stands-eq0
returns-else-stands-eq0 c T limit h told legal row eh es =
    let no = c.if-stands-eq0.false in
    let counted : c.args.happenings + c.args.stands + 1 ≡ length h + length told + 1 = omega (arith, eh, es) in
    missing legal (λ none. no.1 (es ∙ ap length none)) (row_begins T limit h told c.args.row.current c.args.row.rest row)
    (λ whole. let yes = (c.has_listed_all.ensures T limit h told row).1 whole in let n = no.0 in cc) (ap (λ (line : ℕ). Illegal line Stands) counted)
