use Rattle.std.proofs.Common.{take}
use Rattle.schema_resolve.specs.ShapedFields.{AreShapedInOrder}
use Rattle.schema_resolve.proofs.field_table.fields_of.Given as goal

abbrev pub invariant-loop-i : goal.invariant-loop-i
invariant-loop-i l = AreShapedInOrder l.scopes l.message.file l.place (take l.i l.message.fields) l.fields.items
