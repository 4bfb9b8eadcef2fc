use Rattle.schema_symbols.specs.Below.{AreBusy}
use Rattle.schema_symbols.proofs.below.all_busy_prefixes.Given as goal

abbrev pub invariant-loop-file : goal.invariant-loop-file
invariant-loop-file l = AreBusy l.places l.file l.all.items
