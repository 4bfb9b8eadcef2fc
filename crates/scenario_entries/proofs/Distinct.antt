-- Names of which none is that of an earlier entry are distinct.
use Rattle.std.proofs.Common.{◌≡◌, ℕ, zero, suc, true, List, [], ◌∷◌, ◌++◌, map, Contains, Option, Some, None, refl, sym, ap, ◌∙◌, subst, inl, inr, append_assoc}
use Rattle.std.specs.Prelude.{slice_get, is_some}
use Rattle.std.proofs.lemmas.List.Elements.{Contains-append_right}
use Rattle.std.proofs.lemmas.Option.{same_Some}
use Rattle.mrpc_table.specs.Valid.{AreDistinct}
use Rattle.scenario_entries.proofs.PolicyLists.{none_in, there_cases, there_first, there_more}

pub get_there : {X : Type 0} (xs : List X) (i : ℕ) (x : X) → slice_get xs i ≡ Some x → Contains xs x
get_there [] i x e = absurd cc
get_there {X = X} (y ∷ ys) zero x e = subst (λ (z : X). Contains (y ∷ ys) z) (same_Some y x e) (there_first y ys)
get_there (y ∷ ys) (suc i) x e = there_more y ys x (get_there ys i x e)

pub get_map : {X Y : Type 0} (f : X → Y) (xs : List X) (i : ℕ) (x : X) → slice_get xs i ≡ Some x → slice_get (map f xs) i ≡ Some (f x)
get_map f [] i x e = absurd cc
get_map f (y ∷ ys) zero x e = ap (λ z. Some (f z)) (same_Some y x e)
get_map f (y ∷ ys) (suc i) x e = get_map f ys i x e

pub some_from : {X : Type 0} (o : Option X) → is_some o ≡ true → (x : X) × (o ≡ Some x)
some_from None e = absurd cc
some_from (Some x) e = (x, refl)

module _ {X : Type 0} (f : X → List ℕ) where
  pub there_map : (xs : List X) (x : X) → Contains xs x → Contains (map f xs) (f x)
  there_map [] x h = absurd (none_in x h)
  there_map (y ∷ ys) x h = elim (there_cases y ys x h) [
    | inl is ↦ subst (λ (z : X). Contains (map f (y ∷ ys)) (f z)) is (there_first (f y) (map f ys))
    | inr more ↦ there_more (f y) (map f ys) (f x) (there_map ys x more)
  ]

  -- of items with distinct names, each name has one item
  pub distinct_same : (xs : List X) (x y : X) → AreDistinct (map f xs) → Contains xs x → Contains xs y → f x ≡ f y → x ≡ y
  distinct_same [] x y d h k e = absurd (none_in x h)
  distinct_same (z ∷ zs) x y d h k e = elim (there_cases z zs x h) [
    | inl one ↦ elim (there_cases z zs y k) [
      | inl two ↦ sym one ∙ two
      | inr more ↦ absurd (d.0 (subst (λ (n : List ℕ). Contains (map f zs) n) (sym e ∙ ap f (sym one)) (there_map zs y more)))
    ]
    | inr more ↦ elim (there_cases z zs y k) [
      | inl two ↦ absurd (d.0 (subst (λ (n : List ℕ). Contains (map f zs) n) (e ∙ ap f (sym two)) (there_map zs x more)))
      | inr others ↦ distinct_same zs x y d.1 more others e
    ]
  ]

  -- where a list has an item with a name
  record Split (xs : List X) (name : List ℕ) : Type 0 where
    before : List X
    item : X
    back : List X
    whole : xs ≡ before ++ item ∷ back
    named : f item ≡ name

  split_there : (xs : List X) (name : List ℕ) → Contains (map f xs) name → Split xs name
  split_there [] name h = absurd (none_in name h)
  split_there (x ∷ xs) name h = elim (there_cases (f x) (map f xs) name h) [
    | inl is ↦ record { before = []; item = x; back = xs; whole = refl; named = is }
    | inr more ↦
        let s = split_there xs name more in
        record { before = x ∷ s.before; item = s.item; back = s.back; whole = ap (λ (zs : List X). x ∷ zs) s.whole; named = s.named }
  ]

  -- no item has the name of an earlier one
  abbrev pub AreNew : List X → Type 0
  AreNew xs = (before : List X) (x : X) (back : List X) → xs ≡ before ++ x ∷ back → Contains (map f before) (f x) → ⊥

  pub distinct_from : (front xs : List X) → AreNew (front ++ xs) → AreDistinct (map f xs)
  distinct_from front [] new = tt
  distinct_from front (x ∷ xs) new = (
    λ there.
        let s = split_there xs (f x) there in
        new (front ++ x ∷ s.before) s.item s.back
        (ap (λ (zs : List X). front ++ x ∷ zs) s.whole ∙ sym (append_assoc front (x ∷ s.before) (s.item ∷ s.back)))
        (subst (λ (n : List ℕ). Contains (map f (front ++ x ∷ s.before)) n) (sym s.named)
        (there_map (front ++ x ∷ s.before) x (Contains-append_right front (x ∷ s.before) x (there_first x s.before)))),
    distinct_from (front ++ x ∷ []) xs (λ before y back e h. new before y back (sym (append_assoc front (x ∷ []) xs) ∙ e) h),
  )
