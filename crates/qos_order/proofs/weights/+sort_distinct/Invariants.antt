use Rattle.std.proofs.Common.{length}
use Rattle.qos_order.proofs.weights.+sort_distinct.Given as goal

abbrev pub decreases-sort_distinct : goal.decreases-sort_distinct
decreases-sort_distinct l = length l.entries.now
