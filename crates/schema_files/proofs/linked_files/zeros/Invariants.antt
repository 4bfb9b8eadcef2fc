use Rattle.std.proofs.Common.{◌≡◌, length}
use Rattle.schema_files.proofs.linked_files.zeros.Given as goal

abbrev pub invariant-loop : goal.invariant-loop
invariant-loop l = length l.places.items ≡ l.counter
