use Rattle.wire_decode.proofs.WireLaws.{Law}
use Rattle.wire_decode.proofs.FirstFaults.{first-of, walk-of}
use Rattle.wire_decode.proofs.Agreement.{merges-of, means-of}
use Rattle.wire_decode.proofs.laws.rules_and_reader_agree.Goals as goal

pub returns-clause-merged : goal.returns-clause-merged
returns-clause-merged c =
    let law : Law = record {
      some_payload = c.payload_or_reason.ensures.either;
      no_payload = c.payload_or_reason.ensures.not_both;
      one_payload = c.payload_or_reason.ensures.one_payload;
      some_record = c.record_or_fault.ensures.either;
      one_record = c.record_or_fault.ensures.one_record;
      not_both = c.record_or_fault.ensures.not_both;
      one_fault = c.record_or_fault.ensures.one_fault;
    } in
    merges-of law

pub returns-clause-meant : goal.returns-clause-meant
returns-clause-meant c =
    let law : Law = record {
      some_payload = c.payload_or_reason.ensures.either;
      no_payload = c.payload_or_reason.ensures.not_both;
      one_payload = c.payload_or_reason.ensures.one_payload;
      some_record = c.record_or_fault.ensures.either;
      one_record = c.record_or_fault.ensures.one_record;
      not_both = c.record_or_fault.ensures.not_both;
      one_fault = c.record_or_fault.ensures.one_fault;
    } in
    means-of law

pub returns-clause-met : goal.returns-clause-met
returns-clause-met c =
    let law : Law = record {
      some_payload = c.payload_or_reason.ensures.either;
      no_payload = c.payload_or_reason.ensures.not_both;
      one_payload = c.payload_or_reason.ensures.one_payload;
      some_record = c.record_or_fault.ensures.either;
      one_record = c.record_or_fault.ensures.one_record;
      not_both = c.record_or_fault.ensures.not_both;
      one_fault = c.record_or_fault.ensures.one_fault;
    } in
    λ T msg bytes reason place h. walk-of law h

pub returns-clause-first : goal.returns-clause-first
returns-clause-first c =
    let law : Law = record {
      some_payload = c.payload_or_reason.ensures.either;
      no_payload = c.payload_or_reason.ensures.not_both;
      one_payload = c.payload_or_reason.ensures.one_payload;
      some_record = c.record_or_fault.ensures.either;
      one_record = c.record_or_fault.ensures.one_record;
      not_both = c.record_or_fault.ensures.not_both;
      one_fault = c.record_or_fault.ensures.one_fault;
    } in
    λ T msg bytes reason place h. first-of law h
