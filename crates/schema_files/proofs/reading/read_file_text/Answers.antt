use Rattle.std.proofs.Common.{refl}
use Rattle.schema_files.proofs.TextsRead.{text_unread}
use Rattle.schema_files.proofs.reading.read_file_text.Goals as goal

pub returns-in-Err-At-clause-fault : goal.returns-in-Err-At-clause-fault
returns-in-Err-At-clause-fault c = (
  refl,
  text_unread _ _ _ _ _ (rw c.in-Err-At.field-0-is at c.in-Err-At.ensures.fault) c.in-Err-At.reason-is
      c.in-Err-At.line-is,
)
