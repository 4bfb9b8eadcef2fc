use Rattle.std.proofs.Common.{◌≡◌, take}
use Rattle.schema_binding.proofs.compare.first_byte.Given as goal

abbrev pub invariant-loop-at : goal.invariant-loop-at
invariant-loop-at l = take l.at l.ours ≡ take l.at l.theirs
