use Rattle.std.proofs.Common.{◌≡◌, ℕ, ◌+◌, ◌-◌, vec_len, get_or}
use Rattle.wire_decode.specs.declared.oneof.LaterMembers.TheVariants.{Nothing}
use Rattle.wire_decode.proofs.oneof.grow.Given as goal

abbrev pub invariant-loop-behind : goal.invariant-loop-behind
invariant-loop-behind l = (p : ℕ) → get_or l.behind.items p Nothing ≡ get_or l.initial.behind.items p Nothing

abbrev pub decreases-loop-behind : goal.decreases-loop-behind
decreases-loop-behind l = l.oneof + 1 - vec_len l.behind
