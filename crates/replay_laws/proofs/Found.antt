-- Which call is found, which entry has a name, and sums over calls.
use Rattle.std.proofs.Common.{◌≡◌, ◌⊎◌, inl, inr, ℕ, zero, suc, ◌+◌, ◌<◌, ◌≤◌, ◌==◌, Bool, true, false, cond, List}
use Rattle.std.proofs.Common.{[], ◌∷◌, map, refl, sym, ap, ◌∙◌, subst, arith}
use Rattle.std.specs.Prelude.{Contains, Some, filter, find, slice_get}
use Rattle.std.specs.Str.{bytes_eq}
use Rattle.std.proofs.lemmas.Bool.{false_from_ne_true}
use Rattle.std.proofs.lemmas.Bool.Decides.{nat_tests}
use Rattle.std.proofs.lemmas.Slice.Eq.{bytes_eq-Decides}
use Rattle.mrpc_table.specs.Valid.{AreDistinct}
use Rattle.engine_core.specs.Chains.{Entry, is_named, names_of}
use Rattle.engine_core.specs.Moves.{Row, first_at}

-- ---- elements of lists

abbrev pub IsIn : {X : Type 0} → X → List X → Type 0
IsIn x [] = ⊥
IsIn x (y ∷ ys) = (x ≡ y) ⊎ IsIn x ys

pub contains-in : {X : Type 0} (xs : List X) (x : X) → IsIn x xs → Contains xs x
contains-in [] x there = absurd there
contains-in (y ∷ ys) x (inl here) = (0, omega arith, sym here)
contains-in (y ∷ ys) x (inr there) = let rest = contains-in ys x there in (suc rest.0, omega (arith, rest.1), rest.2)

pub in-map : {X Y : Type 0} (f : X → Y) (xs : List X) (x : X) → IsIn x xs → IsIn (f x) (map f xs)
in-map f [] x there = absurd there
in-map f (y ∷ ys) x (inl here) = inl (ap f here)
in-map f (y ∷ ys) x (inr there) = inr (in-map f ys x there)

pub in-unmap : {X Y : Type 0} (f : X → Y) (xs : List X) (y : Y) → IsIn y (map f xs) → (x : X) × IsIn x xs × (y ≡ f x)
in-unmap f [] y there = absurd there
in-unmap f (x ∷ xs) y (inl here) = (x, inl refl, here)
in-unmap f (x ∷ xs) y (inr there) = let rest = in-unmap f xs y there in (rest.0, inr rest.1, rest.2)

-- ---- the first call at a position

pub same-number : (a b : ℕ) → (a == b) ≡ true → a ≡ b
same-number a b test = grind (arith, nat_tests)

abbrev pub IsFoundAt : ℕ → Row → ℕ × ℕ → Type 0
IsFoundAt position row x = IsIn x row × (x.1 ≡ position)

found-by : (position : ℕ) (y : ℕ × ℕ) (row : Row) (b : Bool) (x : ℕ × ℕ) → (y.1 == position) ≡ b → cond b (Some y) (first_at position row) ≡ Some x
    → (first_at position row ≡ Some x → IsFoundAt position row x) → IsFoundAt position (y ∷ row) x
found-by position y row true x test is rest =
    let same : y ≡ x = cc in
    (inl (sym same), ap (λ (z : ℕ × ℕ). z.1) (sym same) ∙ same-number y.1 position test)
found-by position y row false x test is rest = let later = rest is in (inr later.0, later.1)

pub found-at : (position : ℕ) (row : Row) (x : ℕ × ℕ) → first_at position row ≡ Some x → IsFoundAt position row x
found-at position [] x is = absurd cc
found-at position (y ∷ row) x is = found-by position y row (y.1 == position) x refl is (found-at position row x)

-- ---- the entry of a name

name-in : (entries : List Entry) (position : ℕ) (e : Entry) → slice_get entries position ≡ Some e → IsIn e.name (names_of entries)
name-in [] position e is = absurd cc
name-in (d ∷ ds) zero e is = let same : d ≡ e = cc in inl (ap (λ (x : Entry). x.name) (sym same))
name-in (d ∷ ds) (suc position) e is = inr (name-in ds position e is)

pub named-first : (entries : List Entry) (position : ℕ) (e : Entry) → AreDistinct (names_of entries) → slice_get entries position ≡ Some e
    → find (is_named e.name) entries ≡ Some e
named-first [] position e distinct is = absurd cc
named-first (d ∷ ds) zero e distinct is =
    let same : d ≡ e = cc in
    ap (λ b. cond b (Some d) (find (is_named e.name) ds)) ((bytes_eq-Decides d.name e.name).1 (ap (λ (x : Entry). x.name) same))
    ∙ ap (λ (x : Entry). Some x) same
named-first (d ∷ ds) (suc position) e distinct is =
    let other : bytes_eq d.name e.name ≡ false = false_from_ne_true (bytes_eq d.name e.name) (λ test.
    distinct.0 (contains-in (names_of ds) d.name
    (subst (λ (n : List ℕ). IsIn n (names_of ds)) (sym ((bytes_eq-Decides d.name e.name).0 test)) (name-in ds position e is)))) in
    ap (λ b. cond b (Some d) (find (is_named e.name) ds)) other ∙ named-first ds position e distinct.1 is

-- ---- sums

abbrev pub total : {X : Type 0} → (X → ℕ) → List X → ℕ
total f [] = 0
total f (x ∷ xs) = f x + total f xs

pub total-map : {X Y : Type 0} (f : Y → ℕ) (g : X → Y) (xs : List X) → total f (map g xs) ≡ total (λ x. f (g x)) xs
total-map f g [] = refl
total-map f g (x ∷ xs) = ap (λ n. f (g x) + n) (total-map f g xs)

pub total-le : {X : Type 0} (f g : X → ℕ) (xs : List X) → ((x : X) → f x ≤ g x) → total f xs ≤ total g xs
total-le f g [] each = omega arith
total-le f g (x ∷ xs) each =
    let here : f x ≤ g x = each x in
    let rest : total f xs ≤ total g xs = total-le f g xs each in
    omega arith

pub total-lt : {X : Type 0} (f g : X → ℕ) (xs : List X) (y : X) → ((x : X) → f x ≤ g x) → IsIn y xs → f y < g y → total f xs < total g xs
total-lt f g [] y each there less = absurd there
total-lt f g (x ∷ xs) y each (inl here) less =
    let now : f x < g x = subst (λ z. f z < g z) here less in
    let rest : total f xs ≤ total g xs = total-le f g xs each in
    omega arith
total-lt f g (x ∷ xs) y each (inr there) less =
    let here : f x ≤ g x = each x in
    let rest : total f xs < total g xs = total-lt f g xs y each there less in
    omega arith

keep-le : {X : Type 0} (f : X → ℕ) (b : Bool) (x : X) (xs : List X) (n : ℕ) → total f xs ≤ n → total f (cond b (x ∷ xs) xs) ≤ f x + n
keep-le f true x xs n le = omega arith
keep-le f false x xs n le = omega arith

pub filter-le : {X : Type 0} (f : X → ℕ) (p : X → Bool) (xs : List X) → total f (filter p xs) ≤ total f xs
filter-le f p [] = omega arith
filter-le f p (x ∷ xs) = keep-le f (p x) x (filter p xs) (total f xs) (filter-le f p xs)

drop-lt : {X : Type 0} (f : X → ℕ) (b : Bool) (x : X) (xs : List X) (n : ℕ) → b ≡ false → 0 < f x → total f xs ≤ n → total f (cond b (x ∷ xs) xs) < f x + n
drop-lt f true x xs n is some le = absurd cc
drop-lt f false x xs n is some le = omega arith

keep-lt : {X : Type 0} (f : X → ℕ) (b : Bool) (x : X) (xs : List X) (n : ℕ) → total f xs < n → total f (cond b (x ∷ xs) xs) < f x + n
keep-lt f true x xs n lt = omega arith
keep-lt f false x xs n lt = omega arith

pub filter-lt : {X : Type 0} (f : X → ℕ) (p : X → Bool) (xs : List X) (y : X) → IsIn y xs → p y ≡ false → 0 < f y → total f (filter p xs) < total f xs
filter-lt f p [] y there is some = absurd there
filter-lt f p (x ∷ xs) y (inl here) is some =
    drop-lt f (p x) x (filter p xs) (total f xs) (ap p (sym here) ∙ is) (subst (λ z. 0 < f z) here some) (filter-le f p xs)
filter-lt f p (x ∷ xs) y (inr there) is some =
    keep-lt f (p x) x (filter p xs) (total f xs) (filter-lt f p xs y there is some)
