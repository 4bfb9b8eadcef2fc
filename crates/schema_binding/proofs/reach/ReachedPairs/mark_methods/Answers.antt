use Rattle.std.proofs.Common.{arith}
use Rattle.schema_binding.specs.Reach.{IsInMethods}
use Rattle.schema_binding.proofs.Reaching.{gains_on, methods_more, all_methods}
use Rattle.schema_binding.proofs.reach.ReachedPairs.mark_methods.Goals as goal

pub loop-index-preserved : goal.loop-index-preserved
loop-index-preserved c =
    let T = c.args.ours.now in
    let s = c.args.service.now in
    record {
      gains = gains_on T c.args.theirs.now c.args.self.now c.loop-index.self c.mark_method.new.self (IsInMethods T s) (IsInMethods T s) (IsInMethods T s) (λ type h. h) (λ type h. h)
          c.loop-index.invariant.gains c.in_ok-mark_method.ensures.gains;
      methods = methods_more T s c.loop-index.self c.mark_method.new.self c.loop-index.index c.in_ok-mark_method.ensures.gains.grows c.loop-index.invariant.methods
          (λ m e. c.in_ok-mark_method.ensures.method m e);
    }

pub returns-clause-methods : goal.returns-clause-methods
returns-clause-methods c =
    all_methods c.args.ours.now c.args.service.now c.loop-index.self
    (λ k m below e. c.loop-index.invariant.methods k m (omega (arith, below, c.len-index-end.ensures, c.loop-index-test.false)) e)
