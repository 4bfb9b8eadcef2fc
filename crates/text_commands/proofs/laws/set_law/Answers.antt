use Rattle.text_commands.proofs.laws.set_law.Goals as goal

pub returns : goal.returns
returns c = record {
  either = c.bundle_or_fault.ensures.never_neither;
  never_neither = c.table_or_files_fault.ensures.never_neither;
  set_is_unique = c.bundle_or_fault.ensures.once;
  fault_is_unique = c.bundle_or_fault.ensures.one_fault;
  set_or_fault = c.bundle_or_fault.ensures.never_both;
  table_is_unique = c.files_table_is_unique.ensures;
  files_fault_is_unique = c.files_fault_is_unique.ensures;
  table_or_files_fault = c.table_or_files_fault.ensures.never_both;
}
