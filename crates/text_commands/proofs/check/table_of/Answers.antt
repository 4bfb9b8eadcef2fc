use Rattle.text_commands.proofs.check.table_of.Goals as goal

pub table_of_set-requires-clause-set : goal.table_of_set-requires-clause-set
table_of_set-requires-clause-set c = c.is_bundle.ensures.0 c.if-is_bundle.true
