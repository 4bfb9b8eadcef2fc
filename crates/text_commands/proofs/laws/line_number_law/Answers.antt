use Rattle.text_commands.proofs.AuditLines.{bad_near, illegal_near}
use Rattle.text_commands.proofs.laws.line_number_law.Goals as goal

pub returns : goal.returns
returns c = record {
  illegal = illegal_near;
  invalid_line = bad_near;
}
