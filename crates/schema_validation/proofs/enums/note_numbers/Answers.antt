use Rattle.std.proofs.Common.{◌≡◌, ◌<◌, List, length, get_or, eqb-true, eq-eqb, ap, subst, arith}
use Rattle.std.specs.Prelude.{Some, slice_get, ◌==◌}
use Rattle.proto_ast.specs.declared.file.Range.{Range}
use Rattle.schema_validation.specs.Types.{signed_value}
use Rattle.schema_validation.specs.Ranges.{HasReservedRanges, IsPositionOf}
use Rattle.schema_validation.specs.Members.{IsValueViolation}
use Rattle.schema_validation.proofs.Meetings.{meets_start, meets_more, meets_all, meets_as, got_at}
use Rattle.schema_validation.proofs.Numbering.{ValueParts, value_to, value_from, value_within}
use Rattle.schema_validation.proofs.enums.note_numbers.Goals as goal

pub loop-i-init : goal.loop-i-init
loop-i-init c = meets_start _ _

pub loop-i-preserved : goal.loop-i-preserved
loop-i-preserved c =
    let e = c.args.choices.now in
    let i = c.loop-i.i in
    let v = get_or c.as_slice-values.result.now i c.index-values-i.result in
    let l : i < length e.values = omega (arith, ap length c.as_slice-values.ensures, c.loop-i-test.true) in
    let at : slice_get e.values i ≡ Some v =
    got_at c.as_slice-values.result.now e.values i c.index-values-i.result c.as_slice-values.ensures l in
    let is : IsPositionOf c.number_position.result (signed_value v.number) = c.number_position.ensures.is in
    let kept = c.in_ok-reserved.reserved in
    let keeps : HasReservedRanges e.ranges kept =
    subst (λ (rs : List Range). HasReservedRanges rs kept) c.as_slice.ensures c.in_ok-reserved.ensures in
    let reserved = c.has-is_reserved.result in
    let decides = c.has-is_reserved.ensures e.ranges (signed_value v.number) keeps is c.number_position.ensures.small in
    meets_more (IsValueViolation e) i c.args.first.now c.loop-i.first c.note_number.new.first c.loop-i.invariant
    (meets_as (ValueParts v reserved (i == 0)) (IsValueViolation e i) c.loop-i.first c.note_number.new.first
    c.note_number.ensures
    (value_to e i v reserved (i == 0) at decides.0 (λ t. eqb-true i 0 t))
    (value_from e i v reserved (i == 0) at decides.1 (λ z. eq-eqb i 0 z)))

pub returns : goal.returns
returns c =
    let m = c.args.choices.now in
    let e : c.loop-i.i ≡ length m.values =
    omega (arith, ap length c.as_slice-values.ensures, c.loop-i-test.false, c.loop-i.auto.i-end) in
    meets_all (IsValueViolation m) c.loop-i.i c.args.first.now c.loop-i.first
    (λ i q s o. let l : i < length m.values = value_within m i q s o in omega arith) c.loop-i.invariant
