use Rattle.text_commands.proofs.OneCheck.{one_of_each, one_check_fault, no_check_fault}
use Rattle.text_commands.proofs.CheckNeither.{no_check_neither}
use Rattle.text_commands.proofs.check.checked_table_is_unique.Goals as goal

pub returns-clause-tables : goal.returns-clause-tables
returns-clause-tables c = one_of_each c.file_law.ensures c.set_law.ensures

pub returns-clause-faults : goal.returns-clause-faults
returns-clause-faults c = λ text word spelled spot at. one_check_fault c.file_law.ensures c.set_law.ensures text spot at word spelled

pub returns-clause-never_neither : goal.returns-clause-never_neither
returns-clause-never_neither c = no_check_neither c.file_law.ensures c.set_law.ensures

pub returns-clause-never_both : goal.returns-clause-never_both
returns-clause-never_both c = no_check_fault c.file_law.ensures c.set_law.ensures
