use Rattle.std.proofs.Common.{take, length, ◌≤◌}
use Rattle.schema_resolve.specs.Joining.{AreFieldsMade}
use Rattle.schema_resolve.proofs.message_table.message_in.Given as goal

abbrev pub invariant-loop-i : goal.invariant-loop-i
invariant-loop-i l =
    AreFieldsMade l.plan l.words (take l.i l.sorted.items) l.oneofs l.fields × (length l.oneofs.names ≤ l.i)
