use Rattle.audit_check.proofs.OneInput as inputs
use Rattle.audit_check.proofs.input_laws.audit_input_or_fault.Goals as goal

pub returns-clause-one : goal.returns-clause-one
returns-clause-one c = inputs.one (record {
  front = c.preamble_or_fault.ensures.front;
  fault = c.preamble_or_fault.ensures.fault;
  not_both = c.preamble_or_fault.ensures.either;
  some = c.preamble_or_fault.ensures.some;
}) (record {
  one = c.declaration_or_fault.ensures.one;
  one_fault = c.declaration_or_fault.ensures.one_fault;
  not_both = c.declaration_or_fault.ensures.not_both;
  either = c.declaration_or_fault.ensures.either;
  left = c.declaration_or_fault.ensures.left;
})

pub returns-clause-one_fault : goal.returns-clause-one_fault
returns-clause-one_fault c =
    inputs.one_fault (record {
      front = c.preamble_or_fault.ensures.front;
      fault = c.preamble_or_fault.ensures.fault;
      not_both = c.preamble_or_fault.ensures.either;
      some = c.preamble_or_fault.ensures.some;
    }) (record {
      one = c.declaration_or_fault.ensures.one;
      one_fault = c.declaration_or_fault.ensures.one_fault;
      not_both = c.declaration_or_fault.ensures.not_both;
      either = c.declaration_or_fault.ensures.either;
      left = c.declaration_or_fault.ensures.left;
    })

pub returns-clause-not_both : goal.returns-clause-not_both
returns-clause-not_both c =
    inputs.not_both (record {
      front = c.preamble_or_fault.ensures.front;
      fault = c.preamble_or_fault.ensures.fault;
      not_both = c.preamble_or_fault.ensures.either;
      some = c.preamble_or_fault.ensures.some;
    }) (record {
      one = c.declaration_or_fault.ensures.one;
      one_fault = c.declaration_or_fault.ensures.one_fault;
      not_both = c.declaration_or_fault.ensures.not_both;
      either = c.declaration_or_fault.ensures.either;
      left = c.declaration_or_fault.ensures.left;
    })

pub returns-clause-either : goal.returns-clause-either
returns-clause-either c =
    inputs.either (record {
      front = c.preamble_or_fault.ensures.front;
      fault = c.preamble_or_fault.ensures.fault;
      not_both = c.preamble_or_fault.ensures.either;
      some = c.preamble_or_fault.ensures.some;
    }) (record {
      one = c.declaration_or_fault.ensures.one;
      one_fault = c.declaration_or_fault.ensures.one_fault;
      not_both = c.declaration_or_fault.ensures.not_both;
      either = c.declaration_or_fault.ensures.either;
      left = c.declaration_or_fault.ensures.left;
    })

pub returns-clause-sound : goal.returns-clause-sound
returns-clause-sound c = inputs.sound c.declaration_preserves_validity.ensures.sound
