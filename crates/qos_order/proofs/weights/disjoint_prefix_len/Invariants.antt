use Rattle.std.proofs.Common.{take}
use Rattle.std.specs.List.{All, Contains}
use Rattle.qos_order.specs.Weights.{conns_of_weights}
use Rattle.qos_order.proofs.weights.disjoint_prefix_len.Given as goal

abbrev pub invariant-loop-i : goal.invariant-loop-i
invariant-loop-i l = All (λ w. ¬ Contains (conns_of_weights l.front) w.conn) (take l.i l.back)
