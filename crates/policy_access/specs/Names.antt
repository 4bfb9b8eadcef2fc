-- The code's own: the contents of its map of names.
use Rattle.std.specs.Prelude.{◌≡◌, ℕ, List, Bool, is_some}
use Rattle.std.specs.Ordering.{nat_cmp}
use Rattle.std.specs.Cmp.Lexicographic.{slice_cmp}
use Rattle.std.specs.BTreeMap.{get_by}
use Rattle.policy_access.specs.Faults.{is_among}
use Rattle.policy_access.specs.declared.names.SeenNames.{SeenNames}

abbrev pub contains_name : SeenNames → List ℕ → Bool
contains_name s name = is_some (get_by (λ key. slice_cmp nat_cmp name key.items) s.names)

-- these are the names
pub record AreKnownNames (s : SeenNames) (names : List (List ℕ)) : Type 0 where
  pub found : (name : List ℕ) → contains_name s name ≡ is_among name names
