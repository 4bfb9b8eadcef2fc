use Rattle.std.proofs.Common.{◌≡◌, ℕ, List, ◌++◌, length}
use Rattle.mrpc_table.specs.Names.{parts_of}
use Rattle.schema_symbols.specs.Numbers.{IsScopeNumber}
use Rattle.schema_symbols.proofs.symbol_table.SymbolTable.find_in.Given as goal

abbrev pub invariant-loop-part : goal.invariant-loop-part
invariant-loop-part l =
    (s : List (List ℕ)) → IsScopeNumber l.self s l.fn.start
    → (t : List (List ℕ)) × IsScopeNumber l.self t l.scope × (t ++ parts_of l.rest ≡ s ++ parts_of l.fn.name)

abbrev pub decreases-loop-part : goal.decreases-loop-part
decreases-loop-part l = length l.rest
