use Rattle.std.proofs.Common.{ℕ, ◌≤◌}
use Rattle.schema_symbols.specs.Deepest.{IsNextPartAt}
use Rattle.schema_symbols.proofs.symbol_table.SymbolTable.next_part_prefix.Given as goal

abbrev pub invariant-loop-n : goal.invariant-loop-n
invariant-loop-n l = (m : ℕ) → l.n ≤ m → IsNextPartAt l.self l.file l.its_file l.name m → ⊥
