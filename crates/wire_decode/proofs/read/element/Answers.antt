use Rattle.wire_base.specs.declared.records.Payload.TheVariants.{I32}
use Rattle.wire_decode.proofs.Elements.{eight-element, varint-element, other-type}
use Rattle.wire_decode.proofs.read.element.Goals as goal

pub returns-then-wire_type-eq1-clause-found : goal.returns-then-wire_type-eq1-clause-found
returns-then-wire_type-eq1-clause-found c = eight-element c.args.bytes.now c.args.at c.args.wire_type c.read_fixed64.result c.if-wire_type-eq1.true c.read_fixed64.ensures.found

pub returns-in_ok-v-clause-found : goal.returns-in_ok-v-clause-found
returns-in_ok-v-clause-found c =
    let found = c.in_ok-v.ensures.found in
    (I32 c.in_ok-v.v, (c.if-wire_type-eq5.true, found.1, found.2, found.3), c.from.ensures)

pub returns-else-wire_type-eq5-clause-found : goal.returns-else-wire_type-eq5-clause-found
returns-else-wire_type-eq5-clause-found c =
    varint-element c.args.bytes.now c.args.at c.args.wire_type c.varint.result
    (other-type c.args.wire_type c.requires.fixed c.if-wire_type-eq1.false c.if-wire_type-eq5.false)
    c.varint.ensures.found
