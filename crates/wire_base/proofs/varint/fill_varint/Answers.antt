use Rattle.std.proofs.Common.{◌≡◌, ◌-◌, length, subst, arith}
use Rattle.wire_base.proofs.Varints.{AreFilled, filled-first, filled-more, filled-done, filled-fits}
use Rattle.wire_base.proofs.varint.fill_varint.Goals as goal

pub loop-place-init : goal.loop-place-init
loop-place-init c = filled-first c.args.out.now c.args.v c.requires

pub loop-place-preserved : goal.loop-place-preserved
loop-place-preserved c = filled-more c.loop-place.out c.loop-place.place c.loop-place.rest c.args.v (omega arith) c.loop-place.invariant

pub overflow_cast-out-2 : goal.overflow_cast-out-2
overflow_cast-out-2 c =
    let few = filled-fits c.loop-place.out c.loop-place.place c.loop-place.rest c.args.v (omega arith) (omega arith) c.loop-place.invariant in
    omega (arith, few)

pub returns : goal.returns
returns c =
    let last : c.loop-place.place ≡ length c.args.out.now - 1 = omega arith in
    filled-done c.loop-place.out (length c.args.out.now - 1) c.loop-place.rest c.args.v (omega arith)
    (subst (λ i. AreFilled c.loop-place.out i c.loop-place.rest c.args.v) last c.loop-place.invariant)
