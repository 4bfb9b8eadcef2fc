use Rattle.std.proofs.Common.{◌≡◌, ◌<◌, length, ap, arith}
use Rattle.std.specs.Prelude.{Some, slice_get}
use Rattle.schema_validation.specs.Members.{IsLong}
use Rattle.schema_validation.proofs.Meetings.{meets_start, meets_next, meets_elements, item_at}
use Rattle.schema_validation.proofs.messages.note_oneofs.Goals as goal

pub loop-i-init : goal.loop-i-init
loop-i-init c = meets_start _ _

pub loop-i-preserved : goal.loop-i-preserved
loop-i-preserved c =
    let xs = c.args.message.now.oneofs in
    let l : c.loop-i.i < length xs = omega (arith, ap length c.as_slice-oneofs.ensures, c.loop-i-test.true) in
    let at : slice_get xs c.loop-i.i ≡ Some c.index-oneofs-i.result =
    item_at c.as_slice-oneofs.result.now xs c.loop-i.i c.index-oneofs-i.result c.as_slice-oneofs.ensures l
    c.index-oneofs-i.is in
    meets_next xs (λ i. IsLong) c.loop-i.i c.index-oneofs-i.result _ _ _ at c.loop-i.invariant c.note_long.ensures

pub returns : goal.returns
returns c =
    let xs = c.args.message.now.oneofs in
    let e : c.loop-i.i ≡ length xs =
    omega (arith, ap length c.as_slice-oneofs.ensures, c.loop-i-test.false, c.loop-i.auto.i-end) in
    meets_elements xs (λ i. IsLong) c.loop-i.i _ _ e c.loop-i.invariant
