use Rattle.text_commands.proofs.laws.audit_law.Goals as goal

pub returns : goal.returns
returns c = record {
  either = c.audit_input_or_fault.ensures.either;
  input_is_unique = c.audit_input_or_fault.ensures.one;
  fault_is_unique = c.audit_input_or_fault.ensures.one_fault;
  input_or_fault = c.audit_input_or_fault.ensures.not_both;
  sound = c.audit_input_or_fault.ensures.sound;
  answer_is_unique = c.check_is_deterministic.ensures.checked;
  invalid_line_is_unique = c.check_is_deterministic.ensures.bad;
  answer_or_invalid_line = c.check_is_deterministic.ensures.not_both;
  never_neither = c.check_is_deterministic.ensures.not_neither;
}
