use Rattle.std.proofs.Common.{◌≡◌, length, refl, arith}
use Rattle.std.specs.Prelude.{Some, slice_get}
use Rattle.schema_validation.specs.Members.{IsTypeViolation}
use Rattle.schema_validation.proofs.Meetings.{meets_start, meets_next, meets_elements, item_at}
use Rattle.schema_validation.proofs.messages.note_all_types.Goals as goal

pub loop-i-init : goal.loop-i-init
loop-i-init c scope h = meets_start _ _

pub loop-i-preserved : goal.loop-i-preserved
loop-i-preserved c scope h =
    let xs = c.args.fields.now in
    let at : slice_get xs c.loop-i.i ≡ Some c.index-fields-i.result =
    item_at xs xs c.loop-i.i c.index-fields-i.result refl c.loop-i-test.true c.index-fields-i.is in
    meets_next xs (λ i. IsTypeViolation c.args.scopes.now c.args.file scope) c.loop-i.i c.index-fields-i.result _ _
    c.note_types.new.first at
    (c.loop-i.invariant scope h) (c.note_types.ensures scope h)

pub returns : goal.returns
returns c scope h =
    let xs = c.args.fields.now in
    let e : c.loop-i.i ≡ length xs = omega (arith, c.loop-i-test.false, c.loop-i.auto.i-end) in
    meets_elements xs (λ i. IsTypeViolation c.args.scopes.now c.args.file scope) c.loop-i.i _ _ e (c.loop-i.invariant
    scope h)
