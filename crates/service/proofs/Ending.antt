-- An iterator that returns no more items.
use Rattle.std.proofs.Common.{◌≡◌, List, [], ◌∷◌, length, Option, Some, None, arith, refl}
use Rattle.std.specs.Prelude.{MatchOption}

-- what holds of an iterator that returns no more items
pub at-end : {X : Type 0} (o : Option X) (P : Type 0) (Q : X → Type 0) → ((x : X) → o ≡ Some x → ⊥)
    → MatchOption o P Q → P
at-end None P Q never cases = cases
at-end (Some x) P Q never cases = absurd (never x refl)

pub empty-list : {X : Type 0} (xs : List X) → length xs ≡ 0 → xs ≡ []
empty-list [] none = refl
empty-list (x ∷ xs) none = absurd (omega (arith, none))
