-- Each part of a message weighs less than the message.
use Rattle.std.proofs.Common.{◌≡◌, ℕ, zero, suc, ◌+◌, ◌<◌, ◌≤◌, List, [], ◌∷◌, length, get_or, ap, arith}
use Rattle.mrpc_table.specs.View.{item_of, items_of, pairs_of, content_of, node_of}
use Rattle.mrpc_table.specs.Weight.{weight, content_weight, item_weight, items_weight, pairs_weight}
use Rattle.mrpc_table.specs.declared.tree.FieldValue.{FieldValue}
use Rattle.mrpc_table.specs.declared.tree.Value.{Value}

field_weight-at : (xs : List (ℕ × FieldValue)) (i : ℕ) (d : ℕ × FieldValue) → i < length xs → content_weight (content_of (get_or xs i d).1) < weight (node_of xs)
field_weight-at [] i d h = absurd (omega (arith, h))
field_weight-at (x ∷ xs) zero d h = omega arith
field_weight-at (x ∷ xs) (suc i) d h = let rest = field_weight-at xs i d (omega (arith, h)) in omega (arith, rest)

pub field_weight : (xs : List (ℕ × FieldValue)) (i : ℕ) (x : ℕ × FieldValue) → i < length xs → x ≡ get_or xs i x → content_weight (content_of x.1) < weight (node_of xs)
field_weight xs i x h is = let below = field_weight-at xs i x h in let same = ap (λ (y : ℕ × FieldValue). content_weight (content_of y.1)) is in omega (arith, below, same)

element_weight-at : (xs : List Value) (i : ℕ) (d : Value) → i < length xs → item_weight (item_of (get_or xs i d)) ≤ items_weight (items_of xs)
element_weight-at [] i d h = absurd (omega (arith, h))
element_weight-at (x ∷ xs) zero d h = omega arith
element_weight-at (x ∷ xs) (suc i) d h = let rest = element_weight-at xs i d (omega (arith, h)) in omega (arith, rest)

pub element_weight : (xs : List Value) (i : ℕ) (x : Value) → i < length xs → x ≡ get_or xs i x → item_weight (item_of x) ≤ items_weight (items_of xs)
element_weight xs i x h is = let below = element_weight-at xs i x h in let same = ap (λ (y : Value). item_weight (item_of y)) is in omega (arith, below, same)

entry_weight-at : (xs : List (Value × Value)) (i : ℕ) (d : Value × Value) → i < length xs
    → item_weight (item_of (get_or xs i d).0) + item_weight (item_of (get_or xs i d).1) ≤ pairs_weight (pairs_of xs)
entry_weight-at [] i d h = absurd (omega (arith, h))
entry_weight-at (x ∷ xs) zero d h = omega arith
entry_weight-at (x ∷ xs) (suc i) d h = let rest = entry_weight-at xs i d (omega (arith, h)) in omega (arith, rest)

pub entry_weight : (xs : List (Value × Value)) (i : ℕ) (x : Value × Value) → i < length xs → x ≡ get_or xs i x
    → item_weight (item_of x.0) + item_weight (item_of x.1) ≤ pairs_weight (pairs_of xs)
entry_weight xs i x h is = let below = entry_weight-at xs i x h in
    let same = ap (λ (y : Value × Value). item_weight (item_of y.0) + item_weight (item_of y.1)) is in
    omega (arith, below, same)
