use Rattle.std.proofs.Common.{◌≡◌}
use Rattle.schema_symbols.proofs.types.keep_first.Given as goal

abbrev pub invariant-loop-i : goal.invariant-loop-i
invariant-loop-i l = l.all.items ≡ l.fn.all.items
