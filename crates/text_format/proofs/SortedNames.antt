-- The values of an enum are in ascending order of their numbers.
use Rattle.std.proofs.Common.{◌≡◌, ◌≢◌, ℕ, zero, suc, ◌<◌, ◌≤◌, ℤ, ◌<ℤ◌, ◌≤ℤ◌, List, [], ◌∷◌, length, get_or, int_lt}
use Rattle.std.proofs.Common.{Less, refl, ap, arith}
use Rattle.std.specs.List.{AllWithin}
use Rattle.std.specs.List.Sorted.{IsPartitionedBy}
use Rattle.std.proofs.lemmas.Bool.{cases_lt}
use Rattle.text_format.specs.Numbers.{HasNoName}
use Rattle.std.proofs.lemmas.Cmp.{int_ranked}
use Rattle.std.proofs.lemmas.Int.{ints}
use Rattle.mrpc_table.specs.Valid.{IsAscendingBy, IsValueBelow}
use Rattle.std.proofs.Common.{inl, inr, sym}

-- the value is below the next one, or equal to it
not_above : (v w : ℤ × List ℕ) → IsValueBelow v w → v.0 ≤ℤ w.0
not_above v w (inl less) = let below : v.0 <ℤ w.0 = int_ranked v.0 w.0 Less (sym less) in omega (arith, ints)
not_above v w (inr same) = let e : v.0 ≡ w.0 = same.0 in omega (arith, ints)

tail_ascends : (v : ℤ × List ℕ) (vs : List (ℤ × List ℕ)) → IsAscendingBy IsValueBelow (v ∷ vs) → IsAscendingBy IsValueBelow vs
tail_ascends v [] up = tt
tail_ascends v (w ∷ ws) up = up.1

first_lowest : (v : ℤ × List ℕ) (vs : List (ℤ × List ℕ)) → IsAscendingBy IsValueBelow (v ∷ vs) → (k : ℕ) (d : ℤ × List ℕ) → k < length vs → v.0 ≤ℤ (get_or vs k d).0
first_lowest v [] up k d within = absurd (omega (arith, within))
first_lowest v (w ∷ ws) up zero d within = not_above v w up.0
first_lowest v (w ∷ ws) up (suc k) d within =
    let here : v.0 ≤ℤ w.0 = not_above v w up.0 in
    let behind : w.0 ≤ℤ (get_or ws k d).0 = first_lowest w ws up.1 k d (omega (arith, within)) in
    omega (arith, ints)

-- a value is at or above those before it
pub values_rise : (vs : List (ℤ × List ℕ)) → IsAscendingBy IsValueBelow vs → (i j : ℕ) (d : ℤ × List ℕ) → i ≤ j → j < length vs → (get_or vs i d).0 ≤ℤ (get_or vs j d).0
values_rise [] up i j d le within = absurd (omega (arith, within))
values_rise (v ∷ vs) up zero zero d le within = omega (arith, ints)
values_rise (v ∷ vs) up zero (suc j) d le within = first_lowest v vs up j d (omega (arith, within))
values_rise (v ∷ vs) up (suc i) zero d le within = absurd (omega (arith, le))
values_rise (v ∷ vs) up (suc i) (suc j) d le within = values_rise vs (tail_ascends v vs up) i j d (omega (arith, le)) (omega (arith, within))

-- so those below a number come first
pub parted : (vs : List (ℤ × List ℕ)) (n : ℤ) → IsAscendingBy IsValueBelow vs → IsPartitionedBy (λ (v : ℤ × List ℕ). int_lt v.0 n) vs
parted vs n up i j d le within below =
    let rise : (get_or vs i d).0 ≤ℤ (get_or vs j d).0 = values_rise vs up i j d le within in
    grind (arith, ints)

-- an item is the same whatever the default for missing items is
one_item : (xs : List (ℤ × List ℕ)) (k : ℕ) (a b : ℤ × List ℕ) → k < length xs → get_or xs k a ≡ get_or xs k b
one_item [] k a b within = absurd (omega (arith, within))
one_item (x ∷ xs) zero a b within = refl
one_item (x ∷ xs) (suc k) a b within = one_item xs k a b (omega (arith, within))

-- no value has a number if all are below it
pub none_behind : (vs : List (ℤ × List ℕ)) (n : ℤ) (p : ℕ) → AllWithin (λ (v : ℤ × List ℕ). v.0 <ℤ n) vs 0 p → length vs ≤ p → HasNoName vs n
none_behind vs n p before end = record { none = λ k d within same. let below : (get_or vs k d).0 <ℤ n = before k d (omega arith) (omega (arith, within, end)) in omega (arith, ints) }

-- nor if the first one that isn't below it has another number
pub none_here : (vs : List (ℤ × List ℕ)) (n : ℤ) (p : ℕ) (v : ℤ × List ℕ) → IsAscendingBy IsValueBelow vs → AllWithin (λ (w : ℤ × List ℕ). w.0 <ℤ n) vs 0 p
    → AllWithin (λ (w : ℤ × List ℕ). n ≤ℤ w.0) vs p (length vs) → p < length vs → v ≡ get_or vs p v → v.0 ≢ n → HasNoName vs n
none_here vs n p v up before behind here is other = record {
  none = λ k d within same. elim (cases_lt k p) [
    | inl lt ↦ let below : (get_or vs k d).0 <ℤ n = before k d (omega arith) lt in omega (arith, ints)
    | inr le ↦
        let at : v.0 ≡ (get_or vs p v).0 = ap (λ (w : ℤ × List ℕ). w.0) is in
        let above : n ≤ℤ (get_or vs p v).0 = behind p v (omega arith) here in
        let rise : (get_or vs p v).0 ≤ℤ (get_or vs k v).0 = values_rise vs up p k v le within in
        let one : (get_or vs k v).0 ≡ (get_or vs k d).0 = ap (λ (w : ℤ × List ℕ). w.0) (one_item vs k v d within) in
        let equal : v.0 ≡ n = omega (arith, ints) in
        other equal
  ];
}
