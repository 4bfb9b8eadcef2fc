use Rattle.policy_declarations.proofs.OneItem.{one_item, one_fault, not_both, item_or_fault, item_left, fault_place}
use Rattle.policy_declarations.proofs.laws.declaration_or_fault.Goals as goal

pub returns-clause-one : goal.returns-clause-one
returns-clause-one c = one_item (record {
  one_list = c.meanings_or_reason.ensures.one;
  order = c.meanings_or_reason.ensures.order;
  judged = c.meanings_or_reason.ensures.either;
  fine = c.meanings_or_reason.ensures.not_both;
  one_access = c.policy_is_unique.ensures;
  one_access_fault = c.first_fault_is_unique.ensures;
  some_access = c.text_or_fault.ensures.either;
  access_or_fault = c.text_or_fault.ensures.not_both;
  one_redact = c.policy_is_unique-2.ensures;
  one_redact_fault = c.first_fault_is_unique-2.ensures;
  some_redact = c.text_or_fault-2.ensures.either;
  redact_or_fault = c.text_or_fault-2.ensures.not_both;
})

pub returns-clause-one_fault : goal.returns-clause-one_fault
returns-clause-one_fault c = one_fault (record {
  one_list = c.meanings_or_reason.ensures.one;
  order = c.meanings_or_reason.ensures.order;
  judged = c.meanings_or_reason.ensures.either;
  fine = c.meanings_or_reason.ensures.not_both;
  one_access = c.policy_is_unique.ensures;
  one_access_fault = c.first_fault_is_unique.ensures;
  some_access = c.text_or_fault.ensures.either;
  access_or_fault = c.text_or_fault.ensures.not_both;
  one_redact = c.policy_is_unique-2.ensures;
  one_redact_fault = c.first_fault_is_unique-2.ensures;
  some_redact = c.text_or_fault-2.ensures.either;
  redact_or_fault = c.text_or_fault-2.ensures.not_both;
})

pub returns-clause-not_both : goal.returns-clause-not_both
returns-clause-not_both c = not_both (record {
  one_list = c.meanings_or_reason.ensures.one;
  order = c.meanings_or_reason.ensures.order;
  judged = c.meanings_or_reason.ensures.either;
  fine = c.meanings_or_reason.ensures.not_both;
  one_access = c.policy_is_unique.ensures;
  one_access_fault = c.first_fault_is_unique.ensures;
  some_access = c.text_or_fault.ensures.either;
  access_or_fault = c.text_or_fault.ensures.not_both;
  one_redact = c.policy_is_unique-2.ensures;
  one_redact_fault = c.first_fault_is_unique-2.ensures;
  some_redact = c.text_or_fault-2.ensures.either;
  redact_or_fault = c.text_or_fault-2.ensures.not_both;
})

pub returns-clause-either : goal.returns-clause-either
returns-clause-either c = item_or_fault (record {
  one_list = c.meanings_or_reason.ensures.one;
  order = c.meanings_or_reason.ensures.order;
  judged = c.meanings_or_reason.ensures.either;
  fine = c.meanings_or_reason.ensures.not_both;
  one_access = c.policy_is_unique.ensures;
  one_access_fault = c.first_fault_is_unique.ensures;
  some_access = c.text_or_fault.ensures.either;
  access_or_fault = c.text_or_fault.ensures.not_both;
  one_redact = c.policy_is_unique-2.ensures;
  one_redact_fault = c.first_fault_is_unique-2.ensures;
  some_redact = c.text_or_fault-2.ensures.either;
  redact_or_fault = c.text_or_fault-2.ensures.not_both;
})

pub returns-clause-left : goal.returns-clause-left
returns-clause-left c = item_left (record {
  one_list = c.meanings_or_reason.ensures.one;
  order = c.meanings_or_reason.ensures.order;
  judged = c.meanings_or_reason.ensures.either;
  fine = c.meanings_or_reason.ensures.not_both;
  one_access = c.policy_is_unique.ensures;
  one_access_fault = c.first_fault_is_unique.ensures;
  some_access = c.text_or_fault.ensures.either;
  access_or_fault = c.text_or_fault.ensures.not_both;
  one_redact = c.policy_is_unique-2.ensures;
  one_redact_fault = c.first_fault_is_unique-2.ensures;
  some_redact = c.text_or_fault-2.ensures.either;
  redact_or_fault = c.text_or_fault-2.ensures.not_both;
})

pub returns-clause-place : goal.returns-clause-place
returns-clause-place c = fault_place (record {
  one_list = c.meanings_or_reason.ensures.one;
  order = c.meanings_or_reason.ensures.order;
  judged = c.meanings_or_reason.ensures.either;
  fine = c.meanings_or_reason.ensures.not_both;
  one_access = c.policy_is_unique.ensures;
  one_access_fault = c.first_fault_is_unique.ensures;
  some_access = c.text_or_fault.ensures.either;
  access_or_fault = c.text_or_fault.ensures.not_both;
  one_redact = c.policy_is_unique-2.ensures;
  one_redact_fault = c.first_fault_is_unique-2.ensures;
  some_redact = c.text_or_fault-2.ensures.either;
  redact_or_fault = c.text_or_fault-2.ensures.not_both;
})
