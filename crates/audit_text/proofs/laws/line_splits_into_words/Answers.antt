use Rattle.audit_text.proofs.Texts.{line-cut, standing-cut}
use Rattle.audit_text.proofs.laws.line_splits_into_words.Goals as goal

pub returns-clause-happening : goal.returns-clause-happening
returns-clause-happening c = line-cut

pub returns-clause-stands : goal.returns-clause-stands
returns-clause-stands c = standing-cut
