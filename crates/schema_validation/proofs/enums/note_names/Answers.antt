use Rattle.std.proofs.Common.{◌≡◌, ◌<◌, length, get_or, ap, arith}
use Rattle.std.specs.Prelude.{Some, slice_get}
use Rattle.mrpc_table.specs.declared.limits.TheConstants.{MAX_VALUES}
use Rattle.schema_validation.specs.Members.{IsNameViolation}
use Rattle.schema_validation.proofs.Meetings.{meets_start, meets_next, meets_elements, got_at}
use Rattle.schema_validation.proofs.enums.note_names.Goals as goal

pub loop-i-init : goal.loop-i-init
loop-i-init c = meets_start _ _

pub loop-i-preserved : goal.loop-i-preserved
loop-i-preserved c =
    let xs = c.args.choices.now.values in
    let l : c.loop-i.i < length xs = omega (arith, ap length c.as_slice-values.ensures, c.loop-i-test.true) in
    let x = get_or c.as_slice-values.result.now c.loop-i.i c.index-values-i.result in
    let at : slice_get xs c.loop-i.i ≡ Some x =
    got_at c.as_slice-values.result.now xs c.loop-i.i c.index-values-i.result c.as_slice-values.ensures l in
    meets_next xs (λ i v. IsNameViolation c.args.choices.now.names MAX_VALUES i v.name) c.loop-i.i x _ _
    c.note_name.new.first at c.loop-i.invariant (c.note_name.ensures c.args.choices.now.names c.in_ok-reserved.ensures)

pub returns : goal.returns
returns c =
    let xs = c.args.choices.now.values in
    let e : c.loop-i.i ≡ length xs =
    omega (arith, ap length c.as_slice-values.ensures, c.loop-i-test.false, c.loop-i.auto.i-end) in
    meets_elements xs (λ i v. IsNameViolation c.args.choices.now.names MAX_VALUES i v.name) c.loop-i.i _ _ e
    c.loop-i.invariant
