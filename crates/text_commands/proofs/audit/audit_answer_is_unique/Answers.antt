use Rattle.text_commands.proofs.OneAudit.{one_answered, one_audit_fault, no_audit_fault, no_audit_neither}
use Rattle.text_commands.proofs.audit.audit_answer_is_unique.Goals as goal

pub returns-clause-answers : goal.returns-clause-answers
returns-clause-answers c = one_answered c.audit_law.ensures

pub returns-clause-faults : goal.returns-clause-faults
returns-clause-faults c = one_audit_fault c.audit_law.ensures

pub returns-clause-never_both : goal.returns-clause-never_both
returns-clause-never_both c = no_audit_fault c.audit_law.ensures

pub returns-clause-never_neither : goal.returns-clause-never_neither
returns-clause-never_neither c = no_audit_neither c.audit_law.ensures
