use Rattle.std.proofs.Common.{◌≡◌, true, false, sym, ◌∙◌}
use Rattle.run_driver.proofs.running.serve_or_count.Goals as goal

pub run_in_order-requires-clause-order : goal.run_in_order-requires-clause-order
run_in_order-requires-clause-order g c κs within = λ weighted.
    absurd (let wrong : true ≡ false = sym weighted ∙ c.if-not-plan.true in cc)
