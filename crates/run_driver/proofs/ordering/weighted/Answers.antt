use Rattle.std.proofs.Common.{List, ap, subst, sym, ◌∙◌}
use Rattle.qos_order.specs.Weights.{AreValidWeights, weight_of}
use Rattle.qos_order.specs.declared.weights.Weight.{Weight}
use Rattle.run_driver.proofs.Weighing.{goes-by, sound-weights}
use Rattle.run_driver.proofs.ordering.weighted.Goals as goal

pub unreachable-requires : goal.unreachable-requires
unreachable-requires c =
    c.weights_or_fault.ensures.never_both c.in_ok-weights.weights c.in-Err.field-0
    (subst AreValidWeights (sym c.in_ok-weights.ensures) (sound-weights c.args.plan.now c.requires)) c.in-Err.ensures.fault

pub returns-clause-goes_by : goal.returns-clause-goes_by
returns-clause-goes_by c =
    goes-by c.args.plan.now c.in-Ok.order c.requires (λ conn. c.in-Ok.ensures.weights conn
    ∙ ap (λ (weights : List Weight). weight_of weights conn) c.in_ok-weights.ensures)
