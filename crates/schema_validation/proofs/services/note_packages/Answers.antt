use Rattle.std.proofs.Common.{◌≡◌, ◌<◌, length, ap, arith}
use Rattle.std.specs.Prelude.{Some, slice_get}
use Rattle.schema_validation.specs.Recording.{IsPackageViolationAt}
use Rattle.schema_validation.proofs.Meetings.{meets_start, meets_next, meets_elements, item_at}
use Rattle.schema_validation.proofs.services.note_packages.Goals as goal

pub loop-i-init : goal.loop-i-init
loop-i-init c = meets_start _ _

pub loop-i-preserved : goal.loop-i-preserved
loop-i-preserved c =
    let xs = c.args.files.now.heads in
    let l : c.loop-i.i < length xs = omega (arith, ap length c.heads-heads.ensures, c.loop-i-test.true) in
    let at : slice_get xs c.loop-i.i ≡ Some c.index-heads-i.result =
    item_at c.heads-heads.result.now xs c.loop-i.i c.index-heads-i.result c.heads-heads.ensures l
    c.index-heads-i.is in
    meets_next xs IsPackageViolationAt c.loop-i.i c.index-heads-i.result _ _ c.note_package.new.first at c.loop-i.invariant
    c.note_package.ensures

pub returns : goal.returns
returns c =
    let xs = c.args.files.now.heads in
    let e : c.loop-i.i ≡ length xs =
    omega (arith, ap length c.heads-heads.ensures, c.loop-i-test.false, c.loop-i.auto.i-end) in
    meets_elements xs IsPackageViolationAt c.loop-i.i _ _ e c.loop-i.invariant
