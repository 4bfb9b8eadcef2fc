use Rattle.std.proofs.Common.{take}
use Rattle.schema_validation.specs.Entries.{entries_of, AreStarts}
use Rattle.schema_validation.proofs.names.Starts.new.Given as goal

-- the names so far are added
abbrev pub invariant-loop-i : goal.invariant-loop-i
invariant-loop-i l = AreStarts (entries_of (take l.i l.names)) l.starts
