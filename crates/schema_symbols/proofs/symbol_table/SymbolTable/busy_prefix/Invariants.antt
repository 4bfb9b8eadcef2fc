use Rattle.std.proofs.Common.{ℕ, ◌<◌, get_or}
use Rattle.schema_symbols.specs.Deepest.{IsVisibleNameAt}
use Rattle.schema_symbols.proofs.symbol_table.SymbolTable.busy_prefix.Given as goal

abbrev pub invariant-loop-n : goal.invariant-loop-n
invariant-loop-n l =
    (j : ℕ) → j < l.n-index → IsVisibleNameAt l.self l.file l.its_file l.name (get_or l.n-items j 0) → ⊥
