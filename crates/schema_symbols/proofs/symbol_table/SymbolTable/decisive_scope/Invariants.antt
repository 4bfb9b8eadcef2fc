use Rattle.std.proofs.Common.{ℕ, List}
use Rattle.schema_symbols.specs.Scopes.{IsScope}
use Rattle.schema_symbols.specs.Numbers.{IsEnclosing}
use Rattle.schema_symbols.specs.Deepest.{IsReachedOutward, enclosing_rank}
use Rattle.schema_symbols.proofs.symbol_table.SymbolTable.decisive_scope.Given as goal

abbrev pub invariant-outward : goal.invariant-outward
invariant-outward l =
    IsEnclosing l.self l.place
    × ((s : List (List ℕ)) → IsScope l.self l.fn.home s → IsReachedOutward l.self l.file l.name s l.place)

abbrev pub decreases-outward : goal.decreases-outward
decreases-outward l = enclosing_rank l.place
