-- The code's own: parts of names, and the last index of each.
use Rattle.std.specs.Prelude.{◌≡◌, ℕ, ◌<◌, List, Option, Some, slice_get, MatchOption, map, Bool}
use Rattle.std.specs.Ordering.{nat_cmp, is_eq}
use Rattle.std.specs.Cmp.Lexicographic.{slice_cmp}
use Rattle.std.specs.BTreeMap.{BTreeMap, get_by}
use Rattle.std.specs.Borrow.{Bor}

-- the last index of each of these parts
abbrev pub IsLastIndex : List (List ℕ) → List ℕ → ℕ → Type 0
IsLastIndex parts part place = (slice_get parts place ≡ Some part)
    × ((i : ℕ) → place < i → slice_get parts i ≡ Some part → ⊥)

abbrev pub last_in : BTreeMap (Bor (List ℕ)) ℕ → List ℕ → Option ℕ
last_in m part = get_by (λ key. slice_cmp nat_cmp part key.now) m

abbrev pub is_same_name : List ℕ → List ℕ → Bool
is_same_name a b = is_eq (slice_cmp nat_cmp a b)

abbrev pub KnowsLastIndices : List (List ℕ) → BTreeMap (Bor (List ℕ)) ℕ → Type 0
KnowsLastIndices parts m = (part : List ℕ)
    → MatchOption (last_in m part) ((i : ℕ) → slice_get parts i ≡ Some part → ⊥) (IsLastIndex parts part)

abbrev pub values_of : List (Bor (List ℕ)) → List (List ℕ)
values_of parts = map (λ p. p.now) parts
