use Rattle.std.proofs.Common.{◌≡◌, map, take}
use Rattle.schema_resolve.specs.InOrder.{value_pair}
use Rattle.schema_resolve.proofs.enum_table.copied.Given as goal

abbrev pub invariant-loop-i : goal.invariant-loop-i
invariant-loop-i l = l.copies ≡ map value_pair (take l.i l.values)
