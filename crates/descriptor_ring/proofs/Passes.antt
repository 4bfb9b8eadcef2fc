-- A fact of every pass, after one view has changed or a pass was added.
use Rattle.std.proofs.Common.{◌≡◌, ◌≢◌, ℕ, zero, suc, List, [], ◌∷◌, ◌++◌, length, set, sym, subst, ⊎_elim, ◌⊎◌, inl, inr, refl, ap}
use mathlib.Core.Option.{some, some-injective, some-ne-none}
use lib.ListN.{get_elem?}
use Rattle.crossbeam_queue.proofs.Lists.{at_set}

module _ {V : Type 0} where
  abbrev pub AtEach : (ℕ → V → Type 0) → List V → Type 0
  AtEach F views = (pass : ℕ) (v : V) → get_elem? views pass ≡ some v → F pass v

  pub each_set : (F : ℕ → V → Type 0) (views : List V) (pass : ℕ) (w : V) → F pass w
      → ((j : ℕ) (u : V) → j ≢ pass → get_elem? views j ≡ some u → F j u) → AtEach F (set views pass w)
  each_set F views pass w mine others j u e = ⊎_elim (λ (x : (j ≡ pass) × (w ≡ u)). subst (λ (y : ℕ × V). F y.0 y.1) (λ i. (sym x.0 i, x.1 i)) mine)
      (λ (x : (j ≢ pass) × (get_elem? views j ≡ some u)). others j u x.0 x.1) (at_set views pass j w u e)

  -- an added pass is the last
  snoc_cases : (l : List V) (a b : V) (j : ℕ) → get_elem? (l ++ a ∷ []) j ≡ some b → (get_elem? l j ≡ some b) ⊎ ((a ≡ b) × (j ≡ length l))
  snoc_cases [] a b zero e = inr (some-injective a b e, refl)
  snoc_cases [] a b (suc j) e = absurd (some-ne-none b (sym e))
  snoc_cases (x ∷ xs) a b zero e = inl e
  snoc_cases (x ∷ xs) a b (suc j) e = ⊎_elim inl (λ t. inr (t.0, ap suc t.1)) (snoc_cases xs a b j e)

  pub each_snoc_at : (F : ℕ → V → Type 0) (views : List V) (w : V) → F (length views) w → AtEach F views → AtEach F (views ++ w ∷ [])
  each_snoc_at F views w new others j u e = ⊎_elim (λ (x : get_elem? views j ≡ some u). others j u x)
      (λ (x : (w ≡ u) × (j ≡ length views)). subst (λ (y : ℕ × V). F y.0 y.1) (λ i. (sym x.1 i, x.0 i)) new) (snoc_cases views w u j e)

  -- a write to one pass leaves each other one unchanged
  pub other_pass : (views : List V) (pass other : ℕ) (w u : V) → (other ≡ pass → ⊥) → get_elem? (set views pass w) other ≡ some u → get_elem? views other ≡ some u
  other_pass views pass other w u apart e = ⊎_elim (λ (x : (other ≡ pass) × (w ≡ u)). absurd (apart x.0))
      (λ (x : (other ≢ pass) × (get_elem? views other ≡ some u)). x.1) (at_set views pass other w u e)
