-- Lists related item by item, and lists of entries that grow by one.
use Rattle.std.proofs.Common.{◌≡◌, ◌⊎◌, ℕ, zero, suc, ◌+◌, ◌<◌, List, [], ◌∷◌, ◌++◌, length, get_or, map, take}
use Rattle.std.proofs.Common.{Contains, Some, None, refl, sym, ap, ◌∙◌, subst, inl, inr, arith}
use Rattle.std.specs.Prelude.{slice_get, cond, nat_lt, not, Bool, position}
use Rattle.std.specs.List.{prefix_len}
use Rattle.std.proofs.lemmas.List.{map-append, take_more}
use Rattle.std.proofs.lemmas.Option.{same_Some}
use Rattle.scenario_lines.specs.Programs.{Each}

-- ---- what a list contains

there_by : {X : Type 0} (x : X) (xs : List X) (y : X) (k : ℕ) → k < length (x ∷ xs) → get_or (x ∷ xs) k y ≡ y → (x ≡ y) ⊎ Contains xs y
there_by x xs y zero within at = inl at
there_by x xs y (suc k) within at = inr (k, omega (arith, within), at)

pub there_cases : {X : Type 0} (x : X) (xs : List X) (y : X) → Contains (x ∷ xs) y → (x ≡ y) ⊎ Contains xs y
there_cases x xs y h = there_by x xs y h.0 h.1 h.2

pub there_first : {X : Type 0} (x : X) (xs : List X) → Contains (x ∷ xs) x
there_first x xs = (0, omega arith, refl)

pub there_more : {X : Type 0} (x : X) (xs : List X) (y : X) → Contains xs y → Contains (x ∷ xs) y
there_more x xs y h = let within = h.1 in (suc h.0, omega (arith, within), h.2)

pub none_in : {X : Type 0} (y : X) → Contains {X = X} [] y → ⊥
none_in y h = let within = h.1 in absurd (omega (arith, within))

pub map_more : {X Y : Type 0} (f : X → Y) (xs : List X) (i : ℕ) (d : X) → i < length xs → map f (take (i + 1) xs) ≡ map f (take i xs) ++ f (get_or xs i d) ∷ []
map_more f xs i d within = ap (map f) (take_more xs i d within) ∙ map-append f (take i xs) (get_or xs i d ∷ [])

-- ---- item by item

module _ {X Y : Type 0} (R : X → Y → Type 0) where
  pub each_push : (xs : List X) (ys : List Y) (x : X) (y : Y) → Each R xs ys → R x y → Each R (xs ++ x ∷ []) (ys ++ y ∷ [])
  each_push [] [] x y e r = (r, tt)
  each_push [] (z ∷ ys) x y e r = absurd e
  each_push (w ∷ xs) [] x y e r = absurd e
  each_push (w ∷ xs) (z ∷ ys) x y e r = (e.0, each_push xs ys x y e.1 r)

  pub each_length : (xs : List X) (ys : List Y) → Each R xs ys → length xs ≡ length ys
  each_length [] [] e = refl
  each_length [] (y ∷ ys) e = absurd e
  each_length (x ∷ xs) [] e = absurd e
  each_length (x ∷ xs) (y ∷ ys) e = ap suc (each_length xs ys e.1)

  pub each_map : {Z : Type 0} (f : X → Z) (g : Y → Z) → ((x : X) (y : Y) → R x y → f x ≡ g y) → (xs : List X) (ys : List Y) → Each R xs ys → map f xs ≡ map g ys
  each_map f g same [] [] e = refl
  each_map f g same [] (y ∷ ys) e = absurd e
  each_map f g same (x ∷ xs) [] e = absurd e
  each_map f g same (x ∷ xs) (y ∷ ys) e = ap (λ z. z ∷ map f xs) (same x y e.0) ∙ ap (λ zs. g y ∷ zs) (each_map f g same xs ys e.1)

  pub each_at : (xs : List X) (ys : List Y) (i : ℕ) (y : Y) → Each R xs ys → slice_get ys i ≡ Some y → (x : X) × (slice_get xs i ≡ Some x) × R x y
  each_at [] [] i y e at = absurd cc
  each_at [] (z ∷ ys) i y e at = absurd e
  each_at (x ∷ xs) [] i y e at = absurd e
  each_at (x ∷ xs) (z ∷ ys) zero y e at = (x, refl, subst (R x) (same_Some z y at) e.0)
  each_at (x ∷ xs) (z ∷ ys) (suc i) y e at = each_at xs ys i y e.1 at

  pub each_left : (xs : List X) (ys : List Y) (i : ℕ) (x : X) → Each R xs ys → slice_get xs i ≡ Some x → (y : Y) × (slice_get ys i ≡ Some y) × R x y
  each_left [] [] i x e at = absurd cc
  each_left [] (z ∷ ys) i x e at = absurd e
  each_left (w ∷ xs) [] i x e at = absurd e
  each_left (w ∷ xs) (z ∷ ys) zero x e at = (z, refl, subst (λ (v : X). R v z) (same_Some w x at) e.0)
  each_left (w ∷ xs) (z ∷ ys) (suc i) x e at = each_left xs ys i x e.1 at

-- ---- indices

module _ {X Z : Type 0} (f : X → Z) (p : Z → Bool) where
  prefix_map : (xs : List X) → prefix_len (λ x. not (p (f x))) xs ≡ prefix_len (λ z. not (p z)) (map f xs)
  prefix_map [] = refl
  prefix_map (x ∷ xs) = ap (λ n. cond (not (p (f x))) (1 + n) 0) (prefix_map xs)

  length_map : (xs : List X) → length xs ≡ length (map f xs)
  length_map [] = refl
  length_map (x ∷ xs) = ap suc (length_map xs)

  pub position_map : (xs : List X) → position (λ x. p (f x)) xs ≡ position p (map f xs)
  position_map xs =
      ap (λ n. cond (nat_lt n (length xs)) (Some n) None) (prefix_map xs)
      ∙ ap (λ n. cond (nat_lt (prefix_len (λ z. not (p z)) (map f xs)) n) (Some (prefix_len (λ z. not (p z)) (map f xs))) None) (length_map xs)

-- ---- lists with a last item

pub snoc_split : {X : Type 0} (xs before : List X) (m ms : X) (back : List X) → xs ++ m ∷ [] ≡ before ++ ms ∷ back
    → ((before ≡ xs) × (ms ≡ m)) ⊎ ((rest : List X) × (xs ≡ before ++ ms ∷ rest))
snoc_split [] [] m ms back e = inl (refl, cc)
snoc_split [] (b ∷ []) m ms back e = absurd cc
snoc_split [] (b ∷ c ∷ bs) m ms back e = absurd cc
snoc_split (x ∷ xs) [] m ms back e = inr (xs, cc)
snoc_split {X = X} (x ∷ xs) (b ∷ bs) m ms back e =
    let heads : x ≡ b = cc in
    let tails : xs ++ m ∷ [] ≡ bs ++ ms ∷ back = cc in
    elim (snoc_split xs bs m ms back tails) [
      | inl both ↦ inl (ap (λ (z : X). z ∷ bs) (sym heads) ∙ ap (λ (zs : List X). x ∷ zs) both.0, both.1)
      | inr more ↦ inr (more.0, ap (λ (zs : List X). x ∷ zs) more.1 ∙ ap (λ (z : X). z ∷ (bs ++ ms ∷ more.0)) heads)
    ]
