use Rattle.std.proofs.Common.{◌≡◌, replicate}
use Rattle.proto_set.specs.declared.traversal.VisitState.TheVariants.{New}
use Rattle.proto_set.proofs.traversal.all_new.Given as goal

abbrev pub invariant-loop : goal.invariant-loop
invariant-loop l = l.marks.items ≡ replicate l.counter New
