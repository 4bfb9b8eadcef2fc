use Rattle.std.proofs.Common.{◌≤◌, length}
use Rattle.text_format.proofs.layout.without_zeros.Given as goal

abbrev pub invariant-loop-end : goal.invariant-loop-end
invariant-loop-end l = l.end ≤ length l.digits

abbrev pub decreases-loop-end : goal.decreases-loop-end
decreases-loop-end l = l.end
