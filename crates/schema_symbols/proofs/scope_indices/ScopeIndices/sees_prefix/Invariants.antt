use Rattle.std.proofs.Common.{ℕ, ◌<◌, List, length, get_or}
use Rattle.schema_symbols.specs.Numbers.{IsScopeNumber}
use Rattle.schema_symbols.specs.PackagePrefixes.{HasPackagePrefix}
use Rattle.schema_symbols.proofs.scope_indices.ScopeIndices.sees_prefix.Given as goal

abbrev pub invariant-loop-other : goal.invariant-loop-other
invariant-loop-other l =
    (full : List (List ℕ)) (j : ℕ) → 0 < length full → IsScopeNumber l.self full l.scope → j < l.other-index
    → HasPackagePrefix l.self (get_or l.other-items j 0) full → ⊥
