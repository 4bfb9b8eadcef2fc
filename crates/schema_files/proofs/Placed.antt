-- The indices of files in an order.
use Rattle.std.proofs.Common.{◌≡◌, ℕ, ◌+◌, ◌<◌, ◌≤◌, List, [], ◌∷◌, ◌++◌, inl, inr, length, set, refl, sym, ap, ◌∙◌, subst, arith, length-set}
use Rattle.std.specs.Prelude.{slice_get, Some}
use Rattle.std.proofs.lemmas.Bool.{cases_lt}
use Rattle.std.proofs.lemmas.List.{length_push}
use Rattle.std.proofs.lemmas.Option.{slice_get_within, same_Some}
use Rattle.mrpc_table.specs.Valid.{AreDistinct}
use Rattle.schema_files.specs.Placing.{AreOrderIndices, AreSomeIndices}
use Rattle.schema_files.proofs.Lists.{get_push, get_set_same, get_set_other, once}

-- ---- the indices of the first n files of an order

pub record ArePut (order : List ℕ) (count n : ℕ) (places : List ℕ) : Type 0 where
  pub count_is : length places ≡ count
  pub put : (k i : ℕ) → k < n → slice_get order k ≡ Some i → slice_get places i ≡ Some k

pub put_none : (order : List ℕ) (count : ℕ) (places : List ℕ) → length places ≡ count → ArePut order count 0 places
put_none order count places e = record { count_is = e; put = λ k i l at. absurd (omega arith) }

pub put_more : (order : List ℕ) (count n i : ℕ) (places more : List ℕ) → AreDistinct order → i < count
    → slice_get order n ≡ Some i → more ≡ set places i n → ArePut order count n places
    → ArePut order count (n + 1) more
put_more order count n i places more distinct within at e h =
    let l : i < length places = omega (arith, h.count_is) in
    subst (ArePut order count (n + 1)) (sym e) (record {
      count_is = length-set places i n ∙ h.count_is;
      put = λ k j m a. elim (cases_lt k n) [
        | inl old ↦
            let apart : j ≡ i → ⊥ = λ s.
            let f : k ≡ n = once order k n i distinct (a ∙ ap Some s) at in
            omega arith in
            get_set_other places i j n apart ∙ h.put k j old a
        | inr new ↦
            let s : k ≡ n = omega arith in
            let g : j ≡ i = same_Some j i (sym a ∙ ap (λ (q : ℕ). slice_get order q) s ∙ at) in
            ap (λ (q : ℕ). slice_get (set places i n) q) g ∙ get_set_same places i n l ∙ ap Some (sym s)
      ];
    })

pub put_all : (order : List ℕ) (count n : ℕ) (places : List ℕ) → length order ≤ n → ArePut order count n places
    → AreOrderIndices order count places
put_all order count n places l h = record {
  count_is = h.count_is;
  back = λ k i at. h.put k i (omega (arith, slice_get_within order k i at)) at;
}

-- ---- the indices of the first n of some files

pub record ArePlacedSo (places some : List ℕ) (n : ℕ) (all : List ℕ) : Type 0 where
  pub same : length all ≡ n
  pub each : (m i k : ℕ) → slice_get some m ≡ Some i → slice_get all m ≡ Some k → slice_get places i ≡ Some k

pub placed_none : (places some all : List ℕ) → all ≡ [] → ArePlacedSo places some 0 all
placed_none places some all e = subst (ArePlacedSo places some 0) (sym e) (record {
  same = refl;
  each = λ m i k at it. absurd cc;
})

pub placed_more : (places some : List ℕ) (n i k : ℕ) (all more : List ℕ) → slice_get some n ≡ Some i
    → slice_get places i ≡ Some k → more ≡ all ++ k ∷ [] → ArePlacedSo places some n all
    → ArePlacedSo places some (n + 1) more
placed_more places some n i k all more at place e h = subst (ArePlacedSo places some (n + 1)) (sym e) (record {
  same = length_push all k ∙ ap (λ (m : ℕ). m + 1) h.same;
  each = λ m j q a it. elim (get_push all k q m it) [
    | inl old ↦ h.each m j q a old
    | inr new ↦
        let s : m ≡ n = new.0 ∙ h.same in
        let f : j ≡ i = same_Some j i (sym a ∙ ap (λ (x : ℕ). slice_get some x) s ∙ at) in
        ap (λ (x : ℕ). slice_get places x) f ∙ place ∙ ap Some new.1
  ];
})

pub placed_all : (places some : List ℕ) (n : ℕ) (all : List ℕ) → n ≡ length some → ArePlacedSo places some n all
    → AreSomeIndices places some all
placed_all places some n all e h = record { same = h.same ∙ e; each = h.each }
