use Rattle.std.proofs.Common.{◌≡◌, length}
use Rattle.schema_resolve.specs.Placing.{AreMessageNames}
use Rattle.schema_resolve.proofs.plan.message_names.Given as goal

abbrev pub invariant-loop-i : goal.invariant-loop-i
invariant-loop-i l = (length l.messages.items ≡ l.i) × AreMessageNames l.files l.messages.items
