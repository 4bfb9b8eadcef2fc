use Rattle.audit_text.proofs.Histories.{not-both, one-bad}
use Rattle.audit_text.proofs.laws.first_invalid_line_is_unique.Goals as goal

pub returns-clause-bad : goal.returns-clause-bad
returns-clause-bad c T declared text line other valid a b = one-bad c.history_of_text_is_unique.ensures.front T valid declared text line other a b

pub returns-clause-not_both : goal.returns-clause-not_both
returns-clause-not_both c T declared text h line valid all is bad = not-both c.history_of_text_is_unique.ensures.front T valid declared text h line all is bad
