use Rattle.std.proofs.Common.{take}
use Rattle.schema_validation.specs.Correspondence.{AreCorresponding}
use Rattle.schema_validation.specs.Ranges.{IsEndsOf}
use Rattle.schema_validation.proofs.numbers.all_ends.Given as goal

abbrev pub invariant-loop-i : goal.invariant-loop-i
invariant-loop-i l = AreCorresponding IsEndsOf (take l.i l.ranges) l.all.items
