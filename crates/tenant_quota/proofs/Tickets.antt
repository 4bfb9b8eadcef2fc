-- A word and the tickets that it counts.
use Rattle.std.proofs.Common.{◌≡◌, ◌≢◌, ℕ, zero, suc, ◌+◌, ◌%◌, ◌^◌, ◌<◌, List, [], ◌∷◌, ◌++◌, length, map, cond}
use Rattle.std.proofs.Common.{refl, sym, ap, ◌∙◌, subst, length-append, eq-eqb, ne_eqb, arith}
use Rattle.std.specs.Prelude.{IsPermutation, filter, ◌==◌}
use Rattle.std.specs.List.{range_with_len}
use Rattle.std.proofs.lemmas.List.Sorted.{IsPermutation-refl, IsPermutation-trans, IsPermutation-append, length_permutation}
use Rattle.std.proofs.lemmas.List.Elements.{filter-append}
use mathlib.Core.List.{map-append}
use native.Mathlib.Nat.{mod-eq_of_lt}
use Rattle.tenant_quota.specs.Drawing.{tickets_in}
use Rattle.tenant_quota.specs.Rule.{IsTicketCount}

pub tickets-append : (window : ℕ) (xs ys : List (ℕ × ℕ)) → tickets_in window (xs ++ ys) ≡ tickets_in window xs ++ tickets_in window ys
tickets-append window xs ys =
    ap (map (λ (d : ℕ × ℕ). d.1)) (filter-append (λ (d : ℕ × ℕ). d.0 == window) xs ys)
    ∙ map-append (λ (d : ℕ × ℕ). d.1) (filter (λ (d : ℕ × ℕ). d.0 == window) xs) (filter (λ (d : ℕ × ℕ). d.0 == window) ys)

pub ticket_here : (window n : ℕ) → tickets_in window ((window, n) ∷ []) ≡ n ∷ []
ticket_here window n = ap (λ b. map (λ (d : ℕ × ℕ). d.1) (cond b ((window, n) ∷ []) [])) (eq-eqb window window refl)

pub ticket_elsewhere : (window other n : ℕ) → other ≢ window → tickets_in window ((other, n) ∷ []) ≡ []
ticket_elsewhere window other n apart = ap (λ b. map (λ (d : ℕ × ℕ). d.1) (cond b ((other, n) ∷ []) [])) (ne_eqb other window apart)

pub counts_none : IsTicketCount 0 []
counts_none = record { counted = refl; once = λ _. IsPermutation-refl [] }

-- the order of tickets doesn't matter
pub counts_moved : (word : ℕ) (xs ys : List ℕ) → IsPermutation xs ys → IsTicketCount word xs → IsTicketCount word ys
counts_moved word xs ys moved c =
    let same : length ys ≡ length xs = length_permutation xs ys moved in record {
      counted = subst (λ n. word ≡ n % 2 ^ 64) (sym same) c.counted;
      once = λ few. subst (λ n. IsPermutation (range_with_len 0 n) ys) (sym same) (IsPermutation-trans _ xs ys (c.once (subst (λ n. n < 2 ^ 64) same few)) moved);
    }

range-more : (a n : ℕ) → range_with_len a (suc n) ≡ range_with_len a n ++ (a + n) ∷ []
range-more a zero = let here : a ≡ a + 0 = omega arith in ap (λ k. k ∷ []) here
range-more a (suc n) =
    let last : (a + 1) + n ≡ a + suc n = omega arith in
    ap (λ xs. a ∷ xs) (range-more (a + 1) n ∙ ap (λ k. range_with_len (a + 1) n ++ k ∷ []) last)

mod_more : (n : ℕ) → (n % 2 ^ 64 + 1) % 2 ^ 64 ≡ (n + 1) % 2 ^ 64
mod_more n = omega arith

-- one more draw, with the word as its ticket
pub counts_more : (word : ℕ) (xs : List ℕ) → IsTicketCount word xs → IsTicketCount ((word + 1) % 2 ^ 64) (xs ++ word ∷ [])
counts_more word xs c =
    let len : length (xs ++ word ∷ []) ≡ length xs + 1 = length-append xs (word ∷ []) in record {
      counted = ap (λ n. (n + 1) % 2 ^ 64) c.counted ∙ mod_more (length xs) ∙ ap (λ n. n % 2 ^ 64) (sym len);
      once = λ few.
          let below : length xs < 2 ^ 64 = omega (arith, few, len) in
          let zeroth : length xs ≡ 0 + length xs = omega arith in
          let is : word ≡ 0 + length xs = c.counted ∙ mod-eq_of_lt below ∙ zeroth in
          let longer : length (xs ++ word ∷ []) ≡ suc (length xs) = omega (arith, len) in
          subst (λ n. IsPermutation (range_with_len 0 n) (xs ++ word ∷ [])) (sym longer)
          (subst (λ l. IsPermutation l (xs ++ word ∷ [])) (sym (range-more 0 (length xs)))
          (subst (λ n. IsPermutation (range_with_len 0 (length xs) ++ n ∷ []) (xs ++ word ∷ [])) is
          (IsPermutation-append _ _ (word ∷ []) (word ∷ []) (c.once below) (IsPermutation-refl (word ∷ [])))));
    }
