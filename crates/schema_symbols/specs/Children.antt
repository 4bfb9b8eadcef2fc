-- The code's own: a map by the numbers of scopes and the names in them.
use Rattle.std.specs.Prelude.{ℕ, Bool, List, Option}
use Rattle.std.specs.Ordering.{nat_cmp, ordering_then, is_eq}
use Rattle.std.specs.Cmp.Lexicographic.{slice_cmp}
use Rattle.std.specs.BTreeMap.{get_by}
use Rattle.schema_symbols.specs.declared.children.Children.{Children}

abbrev pub child : {V : Type 0} → Children V → ℕ → List ℕ → Option V
child c scope name = get_by (λ key. ordering_then (nat_cmp scope key.0) (slice_cmp nat_cmp name key.1.now)) c.by

abbrev pub same_child : ℕ → List ℕ → ℕ → List ℕ → Bool
same_child scope name k other = is_eq (ordering_then (nat_cmp scope k) (slice_cmp nat_cmp name other))
