use Rattle.schema_resolve.proofs.CleanFiles.{AreFirstFronts}
use Rattle.schema_resolve.proofs.plan.all_package_names.Given as goal

abbrev pub invariant-loop-i : goal.invariant-loop-i
invariant-loop-i l = AreFirstFronts l.files l.i l.fronts.items
