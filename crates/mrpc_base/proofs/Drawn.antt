-- One more ticket of a counter.
use Rattle.std.proofs.Common.{arith, ◌∙◌, ap, sym, subst, ◌≡◌, ◌<◌, ◌≤◌, ◌+◌, ◌-◌, ◌^◌, ℕ, zero, suc, List, [], ◌∷◌}
use Rattle.std.proofs.Common.{◌++◌, true, false, inl, inr}
use Rattle.std.specs.Prelude.{Option, Some, None, IfSome, IsSomeAnd, nat_lt, ◌⊎◌}
use Rattle.std.specs.List.{range_with_len}
use Rattle.std.proofs.lemmas.Bool.{cond-true, cond-false}
use Rattle.std.proofs.lemmas.Bool.Decides.{nat_tests}
use Rattle.mrpc_base.specs.Failures.{raised}
use Rattle.mrpc_base.specs.Quota.{tickets_of}

range-more : (a n : ℕ) → range_with_len a (suc n) ≡ range_with_len a n ++ (a + n) ∷ []
range-more a zero = let here : a ≡ a + 0 = omega arith in ap (λ k. k ∷ []) here
range-more a (suc n) =
    let last : (a + 1) + n ≡ a + suc n = omega arith in
    ap (λ xs. a ∷ xs) (range-more (a + 1) n ∙ ap (λ k. range_with_len (a + 1) n ++ k ∷ []) last)

tickets-more : (n : ℕ) → range_with_len 0 (n + 1) ≡ range_with_len 0 n ++ n ∷ []
tickets-more n =
    let more : n + 1 ≡ suc n = omega arith in
    let last : 0 + n ≡ n = omega arith in
    ap (range_with_len 0) more ∙ range-more 0 n ∙ ap (λ k. range_with_len 0 n ++ k ∷ []) last

abbrev IsMore : ℕ → Option (List ℕ) → Option (List ℕ) → Type 0
IsMore n new old = IfSome new (λ tickets. IsSomeAnd old (λ before. tickets ≡ before ++ n ∷ []))

-- below its last value a counter determines its tickets, and at that value it doesn't
tickets_told : (n : ℕ) → n < 2 ^ 64 - 1 → tickets_of n ≡ Some (range_with_len 0 n)
unfolding tickets_of
tickets_told n below = let test : nat_lt n (2 ^ 64 - 1) ≡ true = grind (arith, nat_tests) in cond-true (nat_lt n (2 ^ 64 - 1)) _ _ test

tickets_untold : (n : ℕ) → 2 ^ 64 - 1 ≤ n → tickets_of n ≡ None
unfolding tickets_of
tickets_untold n least = let test : nat_lt n (2 ^ 64 - 1) ≡ false = grind (arith, nat_tests) in cond-false (nat_lt n (2 ^ 64 - 1)) _ _ test

one_of : (n : ℕ) → (n + 1 < 2 ^ 64 - 1) ⊎ (2 ^ 64 - 1 ≤ n + 1)
one_of n = grind arith

-- after one more draw the tickets are the earlier ones followed by this one, if they are known
tickets_raised : (n : ℕ) → IsMore n (tickets_of (raised n)) (tickets_of n)
tickets_raised n =
    elim (one_of n) [
      | inl more ↦
          let now : raised n ≡ n + 1 = omega arith in
          let new : tickets_of (raised n) ≡ Some (range_with_len 0 (n + 1)) = ap tickets_of now ∙ tickets_told (n + 1) more in
          let old : tickets_of n ≡ Some (range_with_len 0 n) = tickets_told n (omega arith) in
          let P : Option (List ℕ) → Type 0 = λ o. IsMore n o (tickets_of n) in
          let Q : Option (List ℕ) → Type 0 = λ o. IsMore n (Some (range_with_len 0 (n + 1))) o in
          subst P (sym new) (subst Q (sym old) (tickets-more n))
      | inr last ↦
          let new : tickets_of (raised n) ≡ None = tickets_untold (raised n) (omega arith) in
          let P : Option (List ℕ) → Type 0 = λ o. IsMore n o (tickets_of n) in
          subst P (sym new) tt
    ]

pub tickets_drawn : (now n : ℕ) → now ≡ raised n → IfSome (tickets_of now) (λ tickets. IsSomeAnd (tickets_of n) (λ before. tickets ≡ before ++ n ∷ []))
tickets_drawn now n e = let P : ℕ → Type 0 = λ m. IsMore n (tickets_of m) (tickets_of n) in subst P (sym e) (tickets_raised n)
