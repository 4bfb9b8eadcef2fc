use Rattle.std.proofs.Common.{◌≡◌, ◌<◌, length, get_or, ap, arith}
use Rattle.std.specs.Prelude.{Some, slice_get}
use Rattle.schema_validation.specs.Recording.{IsLongService}
use Rattle.schema_validation.proofs.Meetings.{meets_start, meets_next, meets_elements, got_at}
use Rattle.schema_validation.proofs.services.note_services.Goals as goal

pub loop-i-init : goal.loop-i-init
loop-i-init c = meets_start _ _

pub loop-i-preserved : goal.loop-i-preserved
loop-i-preserved c =
    let xs = c.args.files.now.services in
    let l : c.loop-i.i < length xs = omega (arith, ap length c.services-services.ensures, c.loop-i-test.true) in
    let x = get_or c.services-services.result.now c.loop-i.i c.index-services-i.result in
    let at : slice_get xs c.loop-i.i ≡ Some x =
    got_at c.services-services.result.now xs c.loop-i.i c.index-services-i.result c.services-services.ensures l in
    meets_next xs IsLongService c.loop-i.i x _ _ c.note_long.new.first at c.loop-i.invariant c.note_long.ensures

pub returns : goal.returns
returns c =
    let xs = c.args.files.now.services in
    let e : c.loop-i.i ≡ length xs =
    omega (arith, ap length c.services-services.ensures, c.loop-i-test.false, c.loop-i.auto.i-end) in
    meets_elements xs IsLongService c.loop-i.i _ _ e c.loop-i.invariant
