use Rattle.std.proofs.Common.{take}
use Rattle.schema_symbols.specs.Deepest.{IsFirstVisible}
use Rattle.schema_symbols.proofs.symbol_table.SymbolTable.first_type.Given as goal

abbrev pub invariant-loop-declared : goal.invariant-loop-declared
invariant-loop-declared l = IsFirstVisible l.self l.file (take l.declared-index l.declared-items) l.first
