use Rattle.std.proofs.Common.{◌+◌}
use Rattle.schema_validation.specs.Lengths.{HasLinesBefore}
use Rattle.schema_validation.proofs.lines.add_fields.Given as goal

abbrev pub invariant-loop-j : goal.invariant-loop-j
invariant-loop-j l = HasLinesBefore l.fn.files 0 l.fn.i (l.j + 1) l.lines.items
