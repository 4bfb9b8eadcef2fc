use Rattle.std.proofs.Common.{ℕ, ◌+◌, ◌<◌, take, get_or}
use Rattle.proto_ast.specs.Joined.{package_at}
use Rattle.schema_symbols.specs.Numbers.{IsScopeNumber}
use Rattle.schema_symbols.specs.Below.{KnowsMore, IsKnownBelow}
use Rattle.schema_symbols.specs.declared.below.KnownBelow.TheVariants.{Nothing}
use Rattle.schema_symbols.proofs.below.note_package.Given as goal

abbrev pub invariant-loop-n : goal.invariant-loop-n
invariant-loop-n l = record {
  grows : KnowsMore l.fn.below l.below;
  noted : (n k : ℕ) → n < l.n → IsScopeNumber l.places (take n (package_at l.places l.file)) k
      → (scope : ℕ) × IsScopeNumber l.places (take (n + 1) (package_at l.places l.file)) scope
      × IsKnownBelow (get_or l.below k Nothing) scope;
}
