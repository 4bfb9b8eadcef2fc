-- The policy that is found by the index of its name.
use Rattle.std.proofs.Common.{◌≡◌, ◌∙◌, ap, ℕ, ◌≤◌, List, Bool, true, false, Option, Some, None, refl, sym, arith, cond, length, option_map, slice_get}
use Rattle.std.specs.Prelude.{find, nat_lt, option_and_then, position}
use Rattle.std.specs.Str.{bytes_eq}
use Rattle.std.specs.List.{position_or_len}
use Rattle.std.proofs.lemmas.List.Folds.{find_at}
use Rattle.std.proofs.lemmas.Option.{slice_get_past}
use Rattle.std.proofs.lemmas.Bool.Decides.{nat_tests}
use Rattle.policy_declarations.specs.Declarations.{Declared, policy_index}
use Rattle.policy_declarations.specs.declared.declaration.NamedPolicy.{NamedPolicy}
use Rattle.audit_text.specs.Labels.{policy_under}

by_test : {X : Type 0} (b : Bool) (n : ℕ) (xs : List X) → (b ≡ false → length xs ≤ n)
    → option_and_then (slice_get xs) (cond b (Some n) None) ≡ slice_get xs n
by_test true n xs past = refl
by_test false n xs past = sym (slice_get_past xs n (past refl))

past_all : (n m : ℕ) → nat_lt n m ≡ false → m ≤ n
past_all n m is = grind (arith, nat_tests)

-- the first match is the element at the first match's index
found-at : {X : Type 0} (p : X → Bool) (xs : List X) → option_and_then (slice_get xs) (position p xs) ≡ find p xs
found-at p xs = by_test (nat_lt (position_or_len p xs) (length xs)) (position_or_len p xs) xs (past_all (position_or_len p xs) (length xs)) ∙ sym (find_at p xs)

-- the policy under a label is the one at the index of its name
pub under-place : (label : List ℕ) (d : Declared) (place : Option ℕ) (there : Option NamedPolicy)
    → policy_index d label ≡ place → option_and_then (slice_get d.policies) place ≡ there
    → policy_under label d ≡ option_map (λ p. p.policy) there
under-place label d place there is at =
    ap (option_map (λ p. p.policy)) (sym (found-at (λ p. bytes_eq p.name label) d.policies) ∙ ap (option_and_then (slice_get d.policies)) is ∙ at)
