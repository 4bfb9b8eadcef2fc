use Rattle.std.proofs.Common.{◌+◌}
use Rattle.schema_symbols.specs.Numbers.{all_prefix_count}
use Rattle.schema_symbols.specs.Numbered.{HasNumberedScopes}
use Rattle.schema_symbols.proofs.numbering.number_messages.Given as goal

abbrev pub invariant-loop-i : goal.invariant-loop-i
invariant-loop-i l = HasNumberedScopes l.fn.files (all_prefix_count l.fn.files + l.i) l.numbering
