use Rattle.schema_binding.proofs.Prints.{AreSameBelow}
use Rattle.schema_binding.proofs.reach.differing_field.Given as goal

abbrev pub invariant-loop-field : goal.invariant-loop-field
invariant-loop-field l = AreSameBelow l.ours l.theirs l.our l.their l.message.fields l.field-index
