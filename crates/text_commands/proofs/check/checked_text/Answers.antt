use Rattle.text_commands.proofs.check.checked_text.Goals as goal

pub returns-clause-checked : goal.returns-clause-checked
returns-clause-checked c = (c.in_ok-table.table, c.in_ok-table.ensures.checked.0, c.in_ok-table_text.ensures)
