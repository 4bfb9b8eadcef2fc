use Rattle.audit_text.proofs.Texts.{standing-same}
use Rattle.audit_text.proofs.laws.stands_line_determines_call.Goals as goal

pub returns-clause-one : goal.returns-clause-one
returns-clause-one c = standing-same
