use Rattle.text_format.proofs.Fields.{valid-ascends}
use Rattle.text_format.proofs.field_info.fields_at.Goals as goal

pub returns-clause-ascend : goal.returns-clause-ascend
returns-clause-ascend c = c.fields.ensures.ascend (valid-ascends c.args.table.now c.requires)
