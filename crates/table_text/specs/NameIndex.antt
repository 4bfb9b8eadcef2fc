-- The code's own: names with the indices at which they first occur.
use Rattle.std.specs.Prelude.{◌≡◌, ℕ, ◌+◌, ◌-◌, ◌^◌, min, List, [], ◌∷◌, length, Option, Some, None, option_map, unwrap_or, if◌then◌else◌}
use Rattle.std.specs.Str.{bytes_eq}
use Rattle.std.specs.Ordering.{nat_cmp}
use Rattle.std.specs.Cmp.Lexicographic.{slice_cmp}
use Rattle.std.specs.BTreeMap.{get_by}
use Rattle.table_text.specs.declared.name_index.NameIndex.{NameIndex}

-- the first index of a name, counted from k
abbrev pub index_from : ℕ → List ℕ → List (List ℕ) → Option ℕ
index_from k name [] = None
index_from k name (other ∷ others) = if bytes_eq name other then Some k else index_from (k + 1) name others

-- an index, capped at 2^32 - 1
abbrev pub capped_index : ℕ → ℕ
capped_index index_or_next = min index_or_next (2 ^ 32 - 1)

-- the index that a name has, or would get next
abbrev pub index_or_next : List ℕ → List (List ℕ) → ℕ
index_or_next name names = capped_index (unwrap_or (index_from 0 name names) (length names))

abbrev pub index_in : NameIndex → List ℕ → Option ℕ
index_in p name = get_by (λ key. slice_cmp nat_cmp name key.items) p.places

-- these are the names, in order
pub record AreNames (p : NameIndex) (names : List (List ℕ)) : Type 0 where
  pub found : (name : List ℕ) → index_in p name ≡ option_map capped_index (index_from 0 name names)
  pub count : p.count ≡ capped_index (length names)
