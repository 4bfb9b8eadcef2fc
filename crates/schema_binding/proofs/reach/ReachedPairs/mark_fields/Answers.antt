use Rattle.std.proofs.Common.{arith}
use Rattle.schema_binding.specs.Places.{IsShared, HasFieldOfType}
use Rattle.schema_binding.proofs.Prints.{here_at, leads_at}
use Rattle.schema_binding.proofs.Reaching.{gains_itself, gains_on, next_more, next_all}
use Rattle.schema_binding.proofs.reach.ReachedPairs.mark_fields.Goals as goal

pub loop-field-init : goal.loop-field-init
loop-field-init c = record {
  gains = gains_itself c.args.ours.now c.args.theirs.now c.args.self.now (HasFieldOfType c.args.ours.now c.args.theirs.now c.args.our c.args.their) c.requires.paired;
  next = λ k d type to below e. absurd (omega (arith, below));
}

pub mark_field-requires-clause-paired : goal.mark_field-requires-clause-paired
mark_field-requires-clause-paired c = c.loop-field.invariant.gains.paired

pub loop-field-preserved : goal.loop-field-preserved
loop-field-preserved c =
    let T = c.args.ours.now in
    let U = c.args.theirs.now in
    let i = c.args.our in
    let j = c.args.their in
    let m = c.index-as_slice-our.result in
    let n = c.index-as_slice-their.result in
    let f = c.field-item.result in
    let at_m = here_at T i m c.as_slice.result.now c.as_slice.ensures c.requires.pair.ours c.index-as_slice-our.is in
    let at_n = here_at U j n c.as_slice-2.result.now c.as_slice-2.ensures c.requires.pair.theirs c.index-as_slice-their.is in
    record {
      gains = gains_on T U c.args.self.now c.loop-field.self c.mark_field.new.self (HasFieldOfType T U i j) (IsShared T U f n) (HasFieldOfType T U i j) (λ type h. h)
          (leads_at T U c.requires.ours i j m n at_m at_n c.as_slice-field-items.result.now c.as_slice-field-items.ensures c.loop-field.field-index f c.loop-field-test.true c.field-item.is)
          c.loop-field.invariant.gains c.in_ok-mark_field.ensures.gains;
      next = next_more T U c.requires.ours i j m n at_m at_n c.as_slice-field-items.result.now
          c.as_slice-field-items.ensures c.loop-field.field-index f c.loop-field-test.true c.field-item.is
          c.loop-field.self c.mark_field.new.self c.in_ok-mark_field.ensures.gains.grows c.loop-field.invariant.next (λ type h. c.in_ok-mark_field.ensures.marked type h);
    }

pub returns-clause-gains : goal.returns-clause-gains
returns-clause-gains c = c.loop-field.invariant.gains

pub returns-clause-next : goal.returns-clause-next
returns-clause-next c =
    let m = c.index-as_slice-our.result in
    next_all c.args.ours.now c.args.theirs.now c.args.our c.args.their m
    (here_at c.args.ours.now c.args.our m c.as_slice.result.now c.as_slice.ensures c.requires.pair.ours c.index-as_slice-our.is)
    c.as_slice-field-items.result.now c.as_slice-field-items.ensures c.loop-field.self c.loop-field.field-index c.loop-field-test.false c.loop-field.invariant.next
