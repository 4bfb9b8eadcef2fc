use Rattle.text_commands.proofs.laws.text_law.Goals as goal

pub returns : goal.returns
returns c = record {
  table_or_endless = c.table_after_is_unique.ensures.some;
  table_or_fault = c.table_or_fault.ensures;
  table_is_unique = c.table_after_is_unique.ensures.one;
  fault_is_unique = c.table_fault_is_unique.ensures.one;
  canonical_has_no_fault = c.table_fault_is_unique.ensures.none;
  texts_are_unique = c.table_text_is_unique.ensures;
}
