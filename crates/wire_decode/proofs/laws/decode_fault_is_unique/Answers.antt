use Rattle.wire_decode.proofs.WireLaws.{Law}
use Rattle.wire_decode.proofs.Unique.{faults-same}
use Rattle.wire_decode.proofs.FirstFaults.{walk-of}
use Rattle.wire_decode.proofs.laws.decode_fault_is_unique.Goals as goal

pub returns : goal.returns
returns c =
    let law : Law = record {
      some_payload = c.payload_or_reason.ensures.either;
      no_payload = c.payload_or_reason.ensures.not_both;
      one_payload = c.payload_or_reason.ensures.one_payload;
      some_record = c.record_or_fault.ensures.either;
      one_record = c.record_or_fault.ensures.one_record;
      not_both = c.record_or_fault.ensures.not_both;
      one_fault = c.record_or_fault.ensures.one_fault;
    } in
    λ T msg bytes reason other place at a b. faults-same law (walk-of law a) (walk-of law b)
