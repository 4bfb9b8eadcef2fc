use Rattle.std.proofs.Common.{ap, unwrap_or, option_map}
use Rattle.qos_order.proofs.Keyed.{find-moved}
use Rattle.qos_order.proofs.Sound.{sound-moved}
use Rattle.qos_order.proofs.weighted.Weighted.new.Goals as goal

pub invariant_of-result : goal.invariant_of-result
invariant_of-result c = record {
  sound = sound-moved c.args.weights c.in_ok-weights.weights.items c.in_ok-weights.ensures.same c.in_ok-weights.ensures.sound;
  ascends = c.in_ok-weights.ensures.ascends;
}

pub returns-clause-weights : goal.returns-clause-weights
returns-clause-weights c = λ conn.
    ap (λ o. unwrap_or (option_map (λ w. w.weight) o) 1)
    (find-moved (λ w. w.conn) c.args.weights c.in_ok-weights.weights.items conn c.in_ok-weights.ensures.same (c.in_ok-weights.ensures.sound).once)
