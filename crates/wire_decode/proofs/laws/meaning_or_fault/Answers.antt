use Rattle.std.proofs.Common.{inl, inr, ⊎_elim}
use Rattle.wire_decode.proofs.WireLaws.{Law}
use Rattle.wire_decode.proofs.Choices.{reading-or}
use Rattle.wire_decode.proofs.Agreement.{some-meaning, meaning-reads}
use Rattle.wire_decode.proofs.Unique.{reads-faultless}
use Rattle.wire_decode.proofs.FirstFaults.{first-of, walk-of}
use Rattle.wire_decode.proofs.laws.meaning_or_fault.Goals as goal

pub returns-clause-either : goal.returns-clause-either
returns-clause-either c =
    let law : Law = record {
      some_payload = c.payload_or_reason.ensures.either;
      no_payload = c.payload_or_reason.ensures.not_both;
      one_payload = c.payload_or_reason.ensures.one_payload;
      some_record = c.record_or_fault.ensures.either;
      one_record = c.record_or_fault.ensures.one_record;
      not_both = c.record_or_fault.ensures.not_both;
      one_fault = c.record_or_fault.ensures.one_fault;
    } in
    λ T msg bytes. ⊎_elim (λ m. inl (some-meaning law T msg bytes m.0 m.1)) (λ f. inr (f.0, f.1, first-of law f.2)) (reading-or law T msg bytes)

pub returns-clause-not_both : goal.returns-clause-not_both
returns-clause-not_both c =
    let law : Law = record {
      some_payload = c.payload_or_reason.ensures.either;
      no_payload = c.payload_or_reason.ensures.not_both;
      one_payload = c.payload_or_reason.ensures.one_payload;
      some_record = c.record_or_fault.ensures.either;
      one_record = c.record_or_fault.ensures.one_record;
      not_both = c.record_or_fault.ensures.not_both;
      one_fault = c.record_or_fault.ensures.one_fault;
    } in
    λ T msg bytes t reason place a b. reads-faultless law (meaning-reads law T msg bytes t a).1 (walk-of law b)
