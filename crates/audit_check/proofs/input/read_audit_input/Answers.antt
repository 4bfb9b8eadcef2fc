use Rattle.audit_check.proofs.OneInput.{only_one}
use Rattle.audit_check.proofs.input.read_audit_input.Goals as goal

pub returns-clause-only : goal.returns-clause-only
returns-clause-only c = only_one c.args.text.now c.input_of.result c.audit_input_or_fault.ensures.one c.audit_input_or_fault.ensures.not_both c.input_of.ensures
