use Rattle.schema_symbols.specs.Below.{IsBusyFrom}
use Rattle.schema_symbols.proofs.below.busy_prefixes.Given as goal

abbrev pub invariant-loop-n : goal.invariant-loop-n
invariant-loop-n l = IsBusyFrom l.places l.file l.n l.busy.items
