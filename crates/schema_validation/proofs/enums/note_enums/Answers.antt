use Rattle.std.proofs.Common.{◌≡◌, ◌<◌, length, ap, arith}
use Rattle.std.specs.Prelude.{Some, slice_get}
use Rattle.schema_validation.specs.Members.{IsEnumViolation}
use Rattle.schema_validation.proofs.Meetings.{meets_start, meets_next, meets_elements, item_at}
use Rattle.schema_validation.proofs.enums.note_enums.Goals as goal

pub loop-i-init : goal.loop-i-init
loop-i-init c = meets_start _ _

pub loop-i-preserved : goal.loop-i-preserved
loop-i-preserved c =
    let xs = c.args.files.now.enums in
    let l : c.loop-i.i < length xs = omega (arith, ap length c.enums-enums.ensures, c.loop-i-test.true) in
    let at : slice_get xs c.loop-i.i ≡ Some c.index-enums-i.result =
    item_at c.enums-enums.result.now xs c.loop-i.i c.index-enums-i.result c.enums-enums.ensures l
    c.index-enums-i.is in
    meets_next xs IsEnumViolation c.loop-i.i c.index-enums-i.result _ _ _ at c.loop-i.invariant c.in_ok-note_enum.ensures

pub returns : goal.returns
returns c =
    let xs = c.args.files.now.enums in
    let e : c.loop-i.i ≡ length xs =
    omega (arith, ap length c.enums-enums.ensures, c.loop-i-test.false, c.loop-i.auto.i-end) in
    meets_elements xs IsEnumViolation c.loop-i.i _ _ e c.loop-i.invariant
