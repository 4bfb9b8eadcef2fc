use Rattle.std.proofs.Common.{◌≡◌, length}
use Rattle.schema_resolve.specs.Placing.{AreEnumNames}
use Rattle.schema_resolve.proofs.plan.enum_names.Given as goal

abbrev pub invariant-loop-i : goal.invariant-loop-i
invariant-loop-i l = (length l.enums.items ≡ l.i) × AreEnumNames l.files l.enums.items
