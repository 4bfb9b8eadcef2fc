use Rattle.std.proofs.Common.{◌+◌, Ok, sym}
use borrow.Author.Tests.{ltb-true}
use Rattle.wire_base.specs.Records.{IsVarintAt}
use Rattle.wire_base.proofs.Varints.{VarintAt-byte}
use Rattle.wire_base.proofs.OneReading.{varint-each, varint-each_fault}
use Rattle.wire_base.proofs.varint.read_varint.Goals as goal

pub returns-in-Some-clause-each : goal.returns-in-Some-clause-each
returns-in-Some-clause-each c =
    let here : IsVarintAt c.args.bytes.now c.args.at c.from.result (c.args.at + 1) =
    VarintAt-byte c.args.bytes.now c.args.at c.in-Some.field-0.now c.from.result
    (ltb-true _ _ (sym c.in-Some.ensures.lookup.0)) c.in-Some.ensures.lookup.1 c.if-byte-lt128.true c.from.ensures
    in
    varint-each c.args.bytes.now c.args.at (Ok (c.from.result, c.args.at + 1)) here tt

pub returns-in-Some-clause-each_fault : goal.returns-in-Some-clause-each_fault
returns-in-Some-clause-each_fault c =
    let here : IsVarintAt c.args.bytes.now c.args.at c.from.result (c.args.at + 1) =
    VarintAt-byte c.args.bytes.now c.args.at c.in-Some.field-0.now c.from.result
    (ltb-true _ _ (sym c.in-Some.ensures.lookup.0)) c.in-Some.ensures.lookup.1 c.if-byte-lt128.true c.from.ensures
    in
    varint-each_fault c.args.bytes.now c.args.at (Ok (c.from.result, c.args.at + 1)) here tt

pub returns-in_default-clause-each : goal.returns-in_default-clause-each
returns-in_default-clause-each c = varint-each c.args.bytes.now c.args.at c.read_long.result c.read_long.ensures.found c.read_long.ensures.fault

pub returns-in_default-clause-each_fault : goal.returns-in_default-clause-each_fault
returns-in_default-clause-each_fault c = varint-each_fault c.args.bytes.now c.args.at c.read_long.result c.read_long.ensures.found c.read_long.ensures.fault
