-- Words that were stored last are the words of their places, and what a reader loads of them.
use Rattle.std.proofs.Common.{◌≡◌, ℕ, suc, ◌+◌, cond, ◌==◌, List, [], ◌∷◌, ◌++◌, map, refl, sym, ap, subst, ◌∙◌, arith, inl, inr, append_assoc}
use Rattle.std.specs.Prelude.{filter, All}
use Rattle.std.specs.List.{AllByRecursion, Contains}
use Rattle.std.proofs.lemmas.Bool.{cases_Bool, eq-eqb, ne_eqb}
use Rattle.std.proofs.lemmas.List.Elements.{All-from_recursion, recursion_from_All}
use Rattle.mrpc_base.specs.Heap.{last_or, word_after}
use Rattle.graph_form.specs.Malformed.{AreReadBy}
use Rattle.graph_place.specs.Stored.{places, HaveDistinctPlaces}

abbrev Stores : Type 0
Stores = List (ℕ × ℕ)

-- the values that were stored to a place
abbrev stored : Stores → ℕ → List ℕ
stored xs p = map (λ (x : ℕ × ℕ). x.1) (filter (λ (x : ℕ × ℕ). x.0 == p) xs)

stored_append : (xs ys : Stores) (p : ℕ) → stored (xs ++ ys) p ≡ stored xs p ++ stored ys p
stored_append [] ys p = refl
stored_append (x ∷ xs) ys p =
    let rest = stored_append xs ys p in
    let both = filter (λ (x : ℕ × ℕ). x.0 == p) (xs ++ ys) in
    let front = filter (λ (x : ℕ × ℕ). x.0 == p) xs in
    elim (cases_Bool (x.0 == p)) [
      | inl holds ↦
          ap (λ b. map (λ (y : ℕ × ℕ). y.1) (cond b (x ∷ both) both)) holds ∙ ap (λ zs. x.1 ∷ zs) rest
          ∙ sym (ap (λ b. map (λ (y : ℕ × ℕ). y.1) (cond b (x ∷ front) front) ++ stored ys p) holds)
      | inr fails ↦
          ap (λ b. map (λ (y : ℕ × ℕ). y.1) (cond b (x ∷ both) both)) fails ∙ rest
          ∙ sym (ap (λ b. map (λ (y : ℕ × ℕ). y.1) (cond b (x ∷ front) front) ++ stored ys p) fails)
    ]

stored_none : (p : ℕ) (xs : Stores) → AllByRecursion (λ (x : ℕ × ℕ). p ≡ x.0 → ⊥) xs → stored xs p ≡ []
stored_none p [] h = refl
stored_none p (x ∷ xs) h =
    let others = filter (λ (y : ℕ × ℕ). y.0 == p) xs in
    ap (λ b. map (λ (y : ℕ × ℕ). y.1) (cond b (x ∷ others) others)) (ne_eqb x.0 p (λ e. h.0 (sym e))) ∙ stored_none p xs h.1

stored_one : (x : ℕ × ℕ) → stored (x ∷ []) x.0 ≡ x.1 ∷ []
stored_one x = ap (λ b. map (λ (y : ℕ × ℕ). y.1) (cond b (x ∷ []) [])) (eq-eqb x.0 x.0 refl)

last_end : (otherwise : ℕ) (ys : List ℕ) (v : ℕ) → last_or otherwise (ys ++ v ∷ []) ≡ v
last_end otherwise [] v = refl
last_end otherwise (y ∷ ys) v = last_end y ys v

differs : (p : ℕ) (ys : Stores) → (Contains (places ys) p → ⊥) → AllByRecursion (λ (y : ℕ × ℕ). p ≡ y.0 → ⊥) ys
differs p [] h = tt
differs p (y ∷ ys) h = (λ e. h (0, omega arith, sym e), differs p ys (λ c. h (suc c.0, omega (arith, c.1), c.2)))

last_here : (before : Stores) (x : ℕ × ℕ) (xs : Stores) → AllByRecursion (λ (y : ℕ × ℕ). x.0 ≡ y.0 → ⊥) xs → word_after (before ++ x ∷ xs) x.0 ≡ x.1
unfolding word_after
last_here before x xs none =
    let tail : stored (x ∷ xs) x.0 ≡ x.1 ∷ [] = stored_append (x ∷ []) xs x.0 ∙ ap (λ zs. zs ++ stored xs x.0)
    (stored_one x) ∙ ap (λ zs. x.1 ∷ zs) (stored_none x.0 xs none) in
    ap (last_or 0) (stored_append before (x ∷ xs) x.0 ∙ ap (λ zs. stored before x.0 ++ zs) tail) ∙ last_end 0 (stored before x.0) x.1

each_stands : (before xs : Stores) → HaveDistinctPlaces xs → AllByRecursion (λ (w : ℕ × ℕ). word_after (before ++ xs) w.0 ≡ w.1) xs
each_stands before [] h = tt
each_stands before (x ∷ xs) h = (
  last_here before x xs (differs x.0 xs h.0),
  subst (λ all. AllByRecursion (λ (w : ℕ × ℕ). word_after all w.0 ≡ w.1) xs) (append_assoc before (x ∷ []) xs) (each_stands (before ++ x ∷ []) xs h.1),
)

pub stand : (before xs : Stores) → HaveDistinctPlaces xs → All (λ (w : ℕ × ℕ). word_after (before ++ xs) w.0 ≡ w.1) xs
stand before xs h = All-from_recursion (λ (w : ℕ × ℕ). word_after (before ++ xs) w.0 ≡ w.1) xs (each_stands before xs h)

reads_each : (reading : ℕ → ℕ) (k : ℕ) (xs : Stores) → AllByRecursion (λ (w : ℕ × ℕ). reading w.0 ≡ w.1) xs → AreReadBy (λ k place. reading place) k xs
reads_each reading k [] h = tt
reads_each reading k (x ∷ xs) h = (sym h.0, reads_each reading (k + 1) xs h.1)

pub reads : (reading : ℕ → ℕ) (xs : Stores) → All (λ (w : ℕ × ℕ). reading w.0 ≡ w.1) xs → AreReadBy (λ k place. reading place) 1 xs
reads reading xs h = reads_each reading 1 xs (recursion_from_All (λ (w : ℕ × ℕ). reading w.0 ≡ w.1) xs h)
