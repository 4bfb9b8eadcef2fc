use Rattle.std.proofs.Common.{◌≡◌, ◌+◌, ◌≤◌, length}
use Rattle.std.specs.Fmt.{decimal}
use Rattle.schema_validation.proofs.lines.digits.Given as goal

-- the number's digits are those counted and those of the remaining number
abbrev pub invariant-loop-rest : goal.invariant-loop-rest
invariant-loop-rest l = (l.rest ≤ l.number) × (l.count + length (decimal l.rest) ≡ length (decimal l.number) + 1)

abbrev pub decreases-loop-rest : goal.decreases-loop-rest
decreases-loop-rest l = l.rest
