-- A fact of every seat's view, after one view has changed or a seat was added.
use Rattle.std.proofs.Common.{◌≡◌, ◌≢◌, ℕ, List, [], ◌∷◌, ◌++◌, set, sym, subst, ⊎_elim}
use mathlib.Core.Option.{some}
use lib.ListN.{get_elem?}
use Rattle.atomic_table.proofs.Lists.{at_set, at_snoc}

module _ {V : Type 0} where
  abbrev pub AtEach : (ℕ → V → Type 0) → List V → Type 0
  AtEach F views = (seat : ℕ) (v : V) → get_elem? views seat ≡ some v → F seat v

  pub each_set : (F : ℕ → V → Type 0) (views : List V) (seat : ℕ) (w : V) → F seat w
      → ((j : ℕ) (u : V) → j ≢ seat → get_elem? views j ≡ some u → F j u) → AtEach F (set views seat w)
  each_set F views seat w mine others j u e = ⊎_elim (λ (x : (j ≡ seat) × (w ≡ u)). subst (λ (y : ℕ × V). F y.0 y.1) (λ i. (sym x.0 i, x.1 i)) mine)
      (λ (x : (j ≢ seat) × (get_elem? views j ≡ some u)). others j u x.0 x.1) (at_set views seat j w u e)

  pub each_snoc : (F : ℕ → V → Type 0) (views : List V) (w : V) → ((j : ℕ) → F j w) → AtEach F views → AtEach F (views ++ w ∷ [])
  each_snoc F views w new others j u e = ⊎_elim (λ (x : get_elem? views j ≡ some u). others j u x) (λ (same : w ≡ u). subst (F j) same (new j)) (at_snoc views w u j e)

  -- a write to one seat leaves each other one unchanged
  pub other_seat : (views : List V) (seat other : ℕ) (w u : V) → (other ≡ seat → ⊥) → get_elem? (set views seat w) other ≡ some u → get_elem? views other ≡ some u
  other_seat views seat other w u apart e = ⊎_elim (λ (x : (other ≡ seat) × (w ≡ u)). absurd (apart x.0))
      (λ (x : (other ≢ seat) × (get_elem? views other ≡ some u)). x.1) (at_set views seat other w u e)
