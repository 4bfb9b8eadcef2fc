use Rattle.std.proofs.Common.{◌≡◌, ℕ, get_or}
use Rattle.std.specs.Prelude.{max}
use Rattle.schema_validation.proofs.Places.{reach_more, reach_all}
use Rattle.schema_validation.proofs.numbers.extend_ends.Goals as goal

pub loop-i-preserved : goal.loop-i-preserved
loop-i-preserved c =
    let last : ℕ = (get_or c.args.sorted.now c.loop-i.i (0, 0)).1 in
    let high : c.max-reach.result ≡ max c.loop-i.reach last = c.max-reach.ensures in
    reach_more c.args.sorted.now c.loop-i.reached.items c.push.new.self.items c.loop-i.i c.loop-i.reach
    c.max-reach.result (0, 0)
    c.loop-i-test.true high c.in_ok-push.ensures.items c.loop-i.invariant

pub returns : goal.returns
returns c =
    reach_all c.args.sorted.now c.loop-i.reached.items c.loop-i.i c.loop-i.reach c.loop-i-test.false c.loop-i.invariant
