use Rattle.std.proofs.Common.{◌≡◌, ◌++◌, drop}
use Rattle.schema_validation.specs.Ranges.{extended_from}
use Rattle.schema_validation.proofs.numbers.extend_ends.Given as goal

abbrev pub invariant-loop-i : goal.invariant-loop-i
invariant-loop-i l = l.reached.items ++ extended_from l.reach (drop l.i l.sorted) ≡ extended_from 0 l.sorted
