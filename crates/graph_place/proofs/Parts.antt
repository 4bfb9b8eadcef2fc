-- The remaining parts of a list, one by one.
use Rattle.std.proofs.Common.{◌≡◌, ℕ, zero, suc, ◌+◌, ◌<◌, ◌≤◌, List, [], ◌∷◌, length, drop, get_or, sym, ap, arith, add-one, drop-cons}
use Rattle.mrpc_table.specs.View.{content_of, item_of, items_of, node_of, pairs_of}
use Rattle.mrpc_table.specs.Weight.{weight, content_weight, item_weight, items_weight, pairs_weight}
use Rattle.mrpc_table.specs.declared.tree.FieldValue.{FieldValue}
use Rattle.mrpc_table.specs.declared.tree.Value.{Value}

-- the next part; `x` is the element at the index
pub next_part : {X : Type 0} (xs : List X) (i : ℕ) (x : X) → i < length xs → x ≡ get_or xs i x → drop i xs ≡ x ∷ drop (i + 1) xs
next_part xs i x within is = rw (add-one, drop-cons xs i x) (ap (λ y. y ∷ drop (suc i) xs) (sym is))

element_at : (xs : List Value) (i : ℕ) (d : Value) → i < length xs → item_weight (item_of (get_or xs i d)) ≤ items_weight (items_of xs)
element_at [] i d h = absurd (omega (arith, h))
element_at (x ∷ xs) zero d h = omega arith
element_at (x ∷ xs) (suc i) d h = let rest = element_at xs i d (omega (arith, h)) in omega (arith, rest)

pub element_weight : (xs : List Value) (i : ℕ) (x : Value) → i < length xs → x ≡ get_or xs i x → item_weight (item_of x) ≤ items_weight (items_of xs)
element_weight xs i x h is = let below = element_at xs i x h in let same = ap (λ (y : Value). item_weight (item_of y)) is in omega (arith, below, same)

entry_at : (xs : List (Value × Value)) (i : ℕ) (d : Value × Value) → i < length xs
    → item_weight (item_of (get_or xs i d).0) + item_weight (item_of (get_or xs i d).1) ≤ pairs_weight (pairs_of xs)
entry_at [] i d h = absurd (omega (arith, h))
entry_at (x ∷ xs) zero d h = omega arith
entry_at (x ∷ xs) (suc i) d h = let rest = entry_at xs i d (omega (arith, h)) in omega (arith, rest)

pub entry_weight : (xs : List (Value × Value)) (i : ℕ) (x : Value × Value) → i < length xs → x ≡ get_or xs i x
    → item_weight (item_of x.0) + item_weight (item_of x.1) ≤ pairs_weight (pairs_of xs)
entry_weight xs i x h is = let below = entry_at xs i x h in let same = ap (λ (y : Value × Value). item_weight (item_of y.0) + item_weight (item_of y.1)) is in omega (arith, below, same)

content_there : (xs : List (ℕ × FieldValue)) (i : ℕ) (d : ℕ × FieldValue) → i < length xs → content_weight (content_of (get_or xs i d).1) < weight (node_of xs)
content_there [] i d h = absurd (omega (arith, h))
content_there (x ∷ xs) zero d h = omega arith
content_there (x ∷ xs) (suc i) d h = let rest = content_there xs i d (omega (arith, h)) in omega (arith, rest)

pub field_weight : (xs : List (ℕ × FieldValue)) (i : ℕ) (x : ℕ × FieldValue) → i < length xs → x ≡ get_or xs i x → content_weight (content_of x.1) < weight (node_of xs)
field_weight xs i x h is = let below = content_there xs i x h in let same = ap (λ (y : ℕ × FieldValue). content_weight (content_of y.1)) is in omega (arith, below, same)
