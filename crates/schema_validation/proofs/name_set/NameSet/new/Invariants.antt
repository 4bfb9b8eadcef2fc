use Rattle.std.proofs.Common.{take}
use Rattle.schema_validation.specs.ReservedNames.{HasReservedNames}
use Rattle.schema_validation.proofs.name_set.NameSet.new.Given as goal

-- the names so far
abbrev pub invariant-loop-i : goal.invariant-loop-i
invariant-loop-i l = HasReservedNames (take l.i l.fn.words) (record { names = l.names })
