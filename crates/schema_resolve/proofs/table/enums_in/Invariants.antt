use Rattle.std.proofs.Common.{take}
use Rattle.schema_validation.specs.Correspondence.{AreCorrespondingInOrder}
use Rattle.schema_resolve.specs.InOrder.{IsEnumAt}
use Rattle.schema_resolve.proofs.table.enums_in.Given as goal

abbrev pub invariant-loop-i : goal.invariant-loop-i
invariant-loop-i l = AreCorrespondingInOrder (IsEnumAt l.files l.plan) (take l.i l.order) l.enums
