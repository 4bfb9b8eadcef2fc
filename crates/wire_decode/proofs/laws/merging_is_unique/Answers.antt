use Rattle.std.proofs.Common.{ap, sym, ◌∙◌}
use Rattle.wire_decode.specs.Merged.{merged}
use Rattle.wire_decode.proofs.WireLaws.{Law}
use Rattle.wire_decode.proofs.Unique.{reads-same, reads-faultless}
use Rattle.wire_decode.proofs.laws.merging_is_unique.Goals as goal

pub returns-clause-one : goal.returns-clause-one
returns-clause-one c =
    let law : Law = record {
      some_payload = c.payload_or_reason.ensures.either;
      no_payload = c.payload_or_reason.ensures.not_both;
      one_payload = c.payload_or_reason.ensures.one_payload;
      some_record = c.record_or_fault.ensures.either;
      one_record = c.record_or_fault.ensures.one_record;
      not_both = c.record_or_fault.ensures.not_both;
      one_fault = c.record_or_fault.ensures.one_fault;
    } in
    λ T msg bytes t u a b. a.value ∙ ap (merged T 32 msg) (reads-same law a.reads b.reads) ∙ sym b.value

pub returns-clause-not_both : goal.returns-clause-not_both
returns-clause-not_both c =
    let law : Law = record {
      some_payload = c.payload_or_reason.ensures.either;
      no_payload = c.payload_or_reason.ensures.not_both;
      one_payload = c.payload_or_reason.ensures.one_payload;
      some_record = c.record_or_fault.ensures.either;
      one_record = c.record_or_fault.ensures.one_record;
      not_both = c.record_or_fault.ensures.not_both;
      one_fault = c.record_or_fault.ensures.one_fault;
    } in
    λ T msg bytes t reason place a b. reads-faultless law a.reads b
