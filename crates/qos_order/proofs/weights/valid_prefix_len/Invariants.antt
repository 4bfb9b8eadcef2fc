use Rattle.std.proofs.Common.{take}
use Rattle.std.specs.List.{All}
use Rattle.qos_order.specs.Account.{IsWeight}
use Rattle.qos_order.proofs.weights.valid_prefix_len.Given as goal

abbrev pub invariant-loop-i : goal.invariant-loop-i
invariant-loop-i l = All (λ w. IsWeight w.weight) (take l.i l.entries)
