use Rattle.schema_validation.specs.Lengths.{HasLinesBefore}
use Rattle.schema_validation.proofs.lines.add_rpcs.Given as goal

abbrev pub invariant-loop-j : goal.invariant-loop-j
invariant-loop-j l = HasLinesBefore l.fn.files 2 l.fn.i l.j l.lines.items
