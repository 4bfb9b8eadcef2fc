-- The code's own: the indices of policies, in an ordered map.
use Rattle.std.specs.Prelude.{◌≡◌, ℕ, List, position}
use Rattle.std.specs.BTreeMap.{BTreeMap, get_by}
use Rattle.std.specs.Cmp.Lexicographic.{slice_cmp}
use Rattle.std.specs.Global.{Vec}
use Rattle.std.specs.Ordering.{nat_cmp}
use Rattle.std.specs.Str.{bytes_eq}
use Rattle.policy_declarations.specs.declared.declaration.NamedPolicy.{NamedPolicy}

-- the map has the index of the first policy with each name
abbrev pub IsNameIndex : BTreeMap (Vec ℕ) ℕ → List NamedPolicy → Type 0
IsNameIndex places policies =
    (name : List ℕ) → get_by (λ key. slice_cmp nat_cmp name key.items) places
    ≡ position (λ p. bytes_eq p.name name) policies
