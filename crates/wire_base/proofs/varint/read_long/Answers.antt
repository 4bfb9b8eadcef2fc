use Rattle.std.proofs.Common.{◌≤◌, ◌<◌, ◌+◌, length, get_or, refl, arith}
use Rattle.wire_base.proofs.Varints.{value-more, top-more, VarintAt-last}
use Rattle.wire_base.proofs.varint.read_long.Goals as goal

pub returns-then-byte-lt128-clause-found : goal.returns-then-byte-lt128-clause-found
returns-then-byte-lt128-clause-found c =
    let bytes = c.args.bytes.now in
    let at = c.args.at in
    let i = c.loop-place.place in
    let from : at ≤ i = omega arith in
    let within : i < length bytes = omega arith in
    let near : i < at + 10 = omega arith in
    VarintAt-last bytes at i (get_or bytes i 0) _ from near within refl c.if-byte-lt128.true c.loop-place.invariant.top
    (value-more bytes at i c.from.result c.loop-place.value from within c.from.ensures c.loop-place.invariant.value)

pub loop-place-preserved : goal.loop-place-preserved
loop-place-preserved c =
    let bytes = c.args.bytes.now in
    let at = c.args.at in
    let i = c.loop-place.place in
    let from : at ≤ i = omega arith in
    let within : i < length bytes = omega arith in
    record {
      top = top-more bytes at i (get_or bytes i 0) from within refl c.if-byte-lt128.false c.loop-place.invariant.top;
      value = value-more bytes at i c.from.result c.loop-place.value from within c.from.ensures c.loop-place.invariant.value;
    }
