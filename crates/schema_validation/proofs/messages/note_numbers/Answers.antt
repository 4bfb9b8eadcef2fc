use Rattle.std.proofs.Common.{◌≡◌, ◌<◌, List, length, get_or, ap, subst, arith}
use Rattle.std.specs.Prelude.{Some, slice_get}
use Rattle.proto_ast.specs.declared.file.Range.{Range}
use Rattle.schema_validation.specs.Types.{signed_value}
use Rattle.schema_validation.specs.Members.{IsNumberViolation}
use Rattle.schema_validation.specs.Ranges.{HasReservedRanges, IsPositionOf}
use Rattle.schema_validation.proofs.Meetings.{meets_start, meets_more, meets_all, meets_as, got_at}
use Rattle.schema_validation.proofs.Numbering.{NumberParts, met_none, met_more, number_to, number_from, number_within}
use Rattle.schema_validation.proofs.messages.note_numbers.Goals as goal

pub loop-i-init : goal.loop-i-init
loop-i-init c = record {
  meets = meets_start _ _;
  met = met_none c.args.message.now.fields c.new-met.result
      c.new-met.ensures.empty;
}

pub loop-i-preserved : goal.loop-i-preserved
loop-i-preserved c =
    let m = c.args.message.now in
    let i = c.loop-i.i in
    let f = get_or c.as_slice-fields.result.now i c.index-fields-i.result in
    let l : i < length m.fields = omega (arith, ap length c.as_slice-fields.ensures, c.loop-i-test.true) in
    let at : slice_get m.fields i ≡ Some f =
    got_at c.as_slice-fields.result.now m.fields i c.index-fields-i.result c.as_slice-fields.ensures l in
    let place = c.number_position-place.result in
    let is : IsPositionOf place (signed_value f.number) = c.number_position-place.ensures.is in
    let met = c.in_ok-is_met.is_met in
    let kept = c.in_ok-reserved.reserved in
    let keeps : HasReservedRanges m.ranges kept =
    subst (λ (rs : List Range). HasReservedRanges rs kept) c.as_slice.ensures c.in_ok-reserved.ensures in
    let reserved = c.has-is_reserved.result in
    let decides = c.has-is_reserved.ensures m.ranges (signed_value f.number) keeps is c.number_position-place.ensures.small in
    record {
      meets = meets_more (IsNumberViolation m) i c.args.first.now c.loop-i.first c.note_number.new.first
          c.loop-i.invariant.meets
          (meets_as (NumberParts f met reserved) (IsNumberViolation m i) c.loop-i.first c.note_number.new.first
          c.note_number.ensures
          (number_to m i place f c.loop-i.met met reserved at is c.loop-i.invariant.met c.in_ok-is_met.ensures.was_met
          decides.0)
          (number_from m i place f c.loop-i.met met reserved at is c.loop-i.invariant.met c.in_ok-is_met.ensures.was_met
          decides.1));
      met = met_more m.fields i place f c.loop-i.met c.insert_seen.new.met at is c.in_ok-is_met.ensures.meets
          c.loop-i.invariant.met;
    }

pub returns : goal.returns
returns c =
    let m = c.args.message.now in
    let e : c.loop-i.i ≡ length m.fields =
    omega (arith, ap length c.as_slice-fields.ensures, c.loop-i-test.false, c.loop-i.auto.i-end) in
    meets_all (IsNumberViolation m) c.loop-i.i c.args.first.now c.loop-i.first
    (λ i q s o. let l : i < length m.fields = number_within m i q s o in omega arith) c.loop-i.invariant.meets
