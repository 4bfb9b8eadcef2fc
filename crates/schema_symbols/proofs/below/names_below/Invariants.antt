use Rattle.std.proofs.Common.{◌≡◌, ℕ, ◌<◌, List, length, get_or}
use Rattle.proto_ast.specs.declared.joined.Enclosing.TheVariants as home
use Rattle.schema_symbols.specs.Scopes.{IsScope}
use Rattle.schema_symbols.specs.Numbers.{IsScopeNumber, scope_count}
use Rattle.schema_symbols.specs.Below.{KnowsPackage}
use Rattle.schema_symbols.specs.declared.below.KnownBelow.TheVariants.{Nothing, Several}
use Rattle.schema_symbols.proofs.below.names_below.Given as goal

abbrev pub invariant-loop-file : goal.invariant-loop-file
invariant-loop-file l = record {
  all : length l.below.items ≡ scope_count l.places;
  noted : (file : ℕ) → file < l.file → KnowsPackage l.places file l.below.items;
}

abbrev pub invariant-loop-i : goal.invariant-loop-i
invariant-loop-i l = record {
  all : length l.below.items ≡ scope_count l.places;
  noted : (file : ℕ) → file < length l.places.heads → KnowsPackage l.places file l.below.items;
  messages : (i k : ℕ) (s : List (List ℕ)) → i < l.i → IsScope l.places (home.Message i) s → IsScopeNumber l.places s k
      → get_or l.below.items k Nothing ≡ Several;
}
