use Rattle.std.proofs.Common.{◌/◌, ◌%◌, arith, Ok, Err, refl}
use Rattle.std.proofs.lemmas.Result.{err_from_is_err_and}
use Rattle.wire_base.specs.Records.{IsWireFaultAt, no_payload}
use Rattle.wire_base.specs.declared.records.Record.{Record}
use Rattle.wire_base.proofs.OneReading.{VarintAt-moves, PayloadAt-ahead, PayloadAt-within, PayloadAt-span, record-each, record-each_fault}
use Rattle.wire_base.proofs.records.read_record.Goals as goal

pub returns-in_err-tag-clause-each : goal.returns-in_err-tag-clause-each
returns-in_err-tag-clause-each c =
    let p = err_from_is_err_and c.from_residual.result c.from_residual.ensures.1 in
    rw (p.1, p.2) (record-each c.args.bytes.now c.args.at (Err c.in_err-tag.field-0.0) tt c.in_err-tag.ensures.fault)

pub returns-in_err-tag-clause-each_fault : goal.returns-in_err-tag-clause-each_fault
returns-in_err-tag-clause-each_fault c =
    let p = err_from_is_err_and c.from_residual.result c.from_residual.ensures.1 in
    rw (p.1, p.2) (record-each_fault c.args.bytes.now c.args.at (Err c.in_err-tag.field-0.0) tt c.in_err-tag.ensures.fault)

pub returns-in_err-payload-clause-fault : goal.returns-in_err-payload-clause-fault
returns-in_err-payload-clause-fault c =
    let p = err_from_is_err_and c.from_residual-in_err-payload.result c.from_residual-in_err-payload.ensures.1 in
    rw (p.1, p.2) (no_payload c.in_ok-tag.tag c.in_ok-tag.start c.in_err-payload.ensures.fault.0 c.in_ok-tag.ensures.found c.in_err-payload.ensures.fault.1)

pub returns-in_err-payload-clause-each : goal.returns-in_err-payload-clause-each
returns-in_err-payload-clause-each c =
    let p = err_from_is_err_and c.from_residual-in_err-payload.result c.from_residual-in_err-payload.ensures.1 in
    let here : IsWireFaultAt c.args.bytes.now c.args.at c.in_err-payload.field-0.0 =
    no_payload c.in_ok-tag.tag c.in_ok-tag.start c.in_err-payload.ensures.fault.0 c.in_ok-tag.ensures.found
    c.in_err-payload.ensures.fault.1 in
    rw (p.1, p.2) (record-each c.args.bytes.now c.args.at (Err c.in_err-payload.field-0.0) tt here)

pub returns-in_err-payload-clause-each_fault : goal.returns-in_err-payload-clause-each_fault
returns-in_err-payload-clause-each_fault c =
    let p = err_from_is_err_and c.from_residual-in_err-payload.result c.from_residual-in_err-payload.ensures.1 in
    let here : IsWireFaultAt c.args.bytes.now c.args.at c.in_err-payload.field-0.0 =
    no_payload c.in_ok-tag.tag c.in_ok-tag.start c.in_err-payload.ensures.fault.0 c.in_ok-tag.ensures.found
    c.in_err-payload.ensures.fault.1 in
    rw (p.1, p.2) (record-each_fault c.args.bytes.now c.args.at (Err c.in_err-payload.field-0.0) tt here)

pub returns-clause-each : goal.returns-clause-each
returns-clause-each c =
    let whole : Record = record { number = c.in_ok-tag.tag / 8; payload = c.in_ok-payload.payload; next = c.in_ok-payload.next } in
    record-each c.args.bytes.now c.args.at (Ok whole) (record {
      tag = c.in_ok-tag.tag;
      start = c.in_ok-tag.start;
      tagged = c.in_ok-tag.ensures.found;
      number = refl;
      payload = c.in_ok-payload.ensures.found;
    }) tt

pub returns-clause-each_fault : goal.returns-clause-each_fault
returns-clause-each_fault c =
    let whole : Record = record { number = c.in_ok-tag.tag / 8; payload = c.in_ok-payload.payload; next = c.in_ok-payload.next } in
    record-each_fault c.args.bytes.now c.args.at (Ok whole) (record {
      tag = c.in_ok-tag.tag;
      start = c.in_ok-tag.start;
      tagged = c.in_ok-tag.ensures.found;
      number = refl;
      payload = c.in_ok-payload.ensures.found;
    }) tt

pub returns-clause-ahead : goal.returns-clause-ahead
returns-clause-ahead c =
    let tagged = VarintAt-moves c.in_ok-tag.ensures.found.stands in
    omega (arith, tagged, PayloadAt-ahead c.args.bytes.now c.in_ok-tag.start (c.in_ok-tag.tag % 8) c.in_ok-payload.payload c.in_ok-payload.next c.in_ok-payload.ensures.found)

pub returns-clause-within : goal.returns-clause-within
returns-clause-within c = PayloadAt-within c.args.bytes.now c.in_ok-tag.start (c.in_ok-tag.tag % 8) c.in_ok-payload.payload c.in_ok-payload.next c.in_ok-payload.ensures.found

pub returns-clause-span : goal.returns-clause-span
returns-clause-span c = PayloadAt-span c.args.bytes.now c.in_ok-tag.start (c.in_ok-tag.tag % 8) c.in_ok-payload.payload c.in_ok-payload.next c.in_ok-payload.ensures.found
