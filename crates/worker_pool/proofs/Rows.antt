-- The rule of a pool on two items, which are numbers that may grow.
use Rattle.std.proofs.Common.{Box, Global, ◌≡◌, ◌≤◌, ◌+◌, ℕ, zero, suc, List, [], ◌∷◌, length, refl, sym, ap, subst, arith}
use Rattle.std.proofs.lemmas.List.FromFn.{length-range_with_len}
use Rattle.std.proofs.lemmas.List.Sorted.{IsPermutation-refl, length_permutation}
use mathlib.Core.Option.{some, some-injective, some-ne-none}
use lib.ListN.{get_elem?}
use Rattle.worker_pool.specs.declared.pass_view.PassView.{PassView}
use Rattle.worker_pool.specs.declared.pass_view.NumberedItem.{NumberedItem}
use Rattle.worker_pool.specs.Rule.{IsViewOfPool, IsLaterItem, IsPooled, hand}
use Rattle.worker_pool.proofs.Orders.{stand_once}

abbrev grows : ℕ → ℕ → Type 0
grows old new = old ≤ new

-- the original items are 7 and 8
abbrev two : List ℕ
two = 7 ∷ 8 ∷ []

-- the caller has all parts but one, and a worker has the first item in hand
abbrev passes : List (PassView ℕ)
passes = hand 1023 [] two ∷ hand 1 (0 ∷ []) two ∷ []

each : (pass : ℕ) (v : PassView ℕ) → get_elem? passes pass ≡ some v → IsViewOfPool two v
each zero v e = subst (IsViewOfPool two) (some-injective _ _ e) (record { knows = λ _. refl; idle = λ _. refl })
each (suc zero) v e = subst (IsViewOfPool two) (some-injective _ _ e) (record { knows = λ _. refl; idle = λ none. absurd (omega (arith, none)) })
each (suc (suc pass)) v e = absurd (some-ne-none v (sym e))

-- a box of each number
module _ (boxed : ℕ → Box ℕ Global) (holds : (n : ℕ) → (boxed n).value ≡ n) where
  abbrev numbered : ℕ → ℕ → NumberedItem ℕ
  numbered number item = record { number = number; item = boxed item }

  -- the second is in the queue, and has grown
  one_waits : IsPooled grows (numbered 1 9 ∷ []) passes
  one_waits = record {
    firsts = two;
    once = IsPermutation-refl (0 ∷ 1 ∷ []);
    queued = ((λ first least. let nine = holds 9 in omega (arith, least, nine)), tt);
    few = omega arith;
    parts = refl;
    passes = each;
  }

  -- a pass with all parts knows the original items
  knows : (items : List (NumberedItem ℕ)) (held : List ℕ) (rule : IsPooled grows items (hand 1024 held two ∷ [])) → two ≡ rule.firsts
  knows items held rule = (rule.passes 0 (hand 1024 held two) refl).knows (omega arith)

  -- no item is lost, and none occurs twice
  none_lost : IsPooled grows [] (hand 1024 (0 ∷ []) two ∷ []) → ⊥
  none_lost rule =
      let all : 2 ≡ length rule.firsts = ap length (knows [] (0 ∷ []) rule) in
      let held = length_permutation _ _ rule.once in
      let range = length-range_with_len 0 (length rule.firsts) in
      omega (arith, all, held, range)

  none_twice : IsPooled grows (numbered 1 9 ∷ []) (hand 1024 (1 ∷ []) two ∷ []) → ⊥
  none_twice rule =
      let all : 2 ≡ length rule.firsts = ap length (knows (numbered 1 9 ∷ []) (1 ∷ []) rule) in
      let once : 1 + 1 ≡ 1 = stand_once (length rule.firsts) (1 ∷ []) (1 ∷ []) rule.once 1 (omega (arith, all)) in
      omega (arith, once)

  -- an item in the queue is a later state of the original one with its number: no other item, and no earlier state
  none_earlier : IsLaterItem grows two (numbered 1 6) → ⊥
  none_earlier one = let least = one 8 (omega arith) in omega (arith, least)

  none_unknown : IsLaterItem grows two (numbered 2 9) → ⊥
  none_unknown one = one
