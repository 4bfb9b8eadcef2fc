use Rattle.schema_binding.proofs.Payloads.{says_once, bad_once, never_both, never_neither}
use Rattle.schema_binding.proofs.laws.hello_is_unique.Goals as goal

pub returns : goal.returns
returns c = record {
  once = says_once c.table_text_is_unique.ensures;
  bad_once = bad_once c.table_fault_is_unique.ensures.one;
  never_both = never_both c.table_fault_is_unique.ensures.none;
  never_neither = never_neither c.table_or_fault.ensures;
}
