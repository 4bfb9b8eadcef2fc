-- The policies that steps name, and those that an application and the steps on its connection name.
use Rattle.std.proofs.Common.{◌≡◌, ◌⊎◌, ◌↔◌, ℕ, List, [], ◌∷◌, ◌++◌, Contains, sym, ap, ◌∙◌, subst, inl, inr}
use Rattle.std.specs.Borrow.{Bor}
use Rattle.std.specs.Prelude.{filter_map, map}
use Rattle.std.proofs.lemmas.List.{map-append}
use Rattle.std.proofs.lemmas.List.Elements.{Contains-append_left, Contains-push, Contains-push_cases}
use Rattle.toml.specs.Data.{Members}
use Rattle.scenario.specs.Applications.{entry_conn}
use Rattle.scenario.specs.Lines.{step_policy}
use Rattle.scenario.specs.Operators.{HasPolicyName, step_lines_of}
use Rattle.scenario_lines.specs.declared.step.StepText.{StepText}
use Rattle.scenario_reader.specs.Owning.{AreStepNames, IsUsedIn}
use Rattle.scenario_reader.specs.StepLinesReading.{AreStepMeanings}
use Rattle.scenario_reader.proofs.Lists.{there_cases, there_first, there_more}
use Rattle.scenario_reader.proofs.Stepping.{Laws}
use Rattle.scenario_reader.proofs.Telling.{named_from, named_to}

pub names_are : Laws → (ms : Members) (lines names : List (List ℕ)) (told : List StepText) → lines ≡ step_lines_of ms → AreStepMeanings lines told
    → names ≡ filter_map step_policy told → AreStepNames ms names
names_are laws ms lines names told same tell is = λ name. (
  λ h.
      subst (λ (ls : List (List ℕ)). HasPolicyName ls name) same
      (named_from laws lines told name tell (subst (λ (ns : List (List ℕ)). Contains ns name) is h)),
  λ h.
      subst (λ (ns : List (List ℕ)). Contains ns name) (sym is)
      (named_to laws lines told name tell (subst (λ (ls : List (List ℕ)). HasPolicyName ls name) (sym same) h)),
)

pub names_more : (xs ys zs all : List (Bor (List ℕ))) → ys ≡ zs → all ≡ xs ++ ys
    → map (λ n. n.now) all ≡ map (λ n. n.now) xs ++ map (λ n. n.now) zs
names_more xs ys zs all same is =
    ap (λ (ns : List (Bor (List ℕ))). map (λ n. n.now) ns) (is ∙ ap (λ (ns : List (Bor (List ℕ))). xs ++ ns) same)
    ∙ map-append (λ (n : Bor (List ℕ)). n.now) xs zs

append_cases : {X : Type 0} (xs ys : List X) (x : X) → Contains (xs ++ ys) x → Contains xs x ⊎ Contains ys x
append_cases [] ys x h = inr h
append_cases (w ∷ xs) ys x h = elim (there_cases w (xs ++ ys) x h) [
  | inl is ↦ inl (subst (λ (z : _). Contains (w ∷ xs) z) is (there_first w xs))
  | inr more ↦ elim (append_cases xs ys x more) [
    | inl left ↦ inl (there_more w xs x left)
    | inr right ↦ inr right
  ]
]

pub append_right : {X : Type 0} (xs ys : List X) (x : X) → Contains ys x → Contains (xs ++ ys) x
append_right [] ys x h = h
append_right (w ∷ xs) ys x h = there_more w (xs ++ ys) x (append_right xs ys x h)

module _ (operators : List Members) (operator ms : Members) (name : List ℕ) where
  still_used : IsUsedIn operators ms name → IsUsedIn (operators ++ operator ∷ []) ms name
  still_used (inl h) = inl h
  still_used (inr (o, there, same, named)) = inr (o, Contains-append_left operators (operator ∷ []) o there, same, named)

  used_cases : IsUsedIn (operators ++ operator ∷ []) ms name
      → IsUsedIn operators ms name ⊎ ((entry_conn operator ≡ entry_conn ms) × HasPolicyName (step_lines_of operator) name)
  used_cases (inl h) = inl (inl h)
  used_cases (inr (o, there, same, named)) = elim (Contains-push_cases operators operator o there) [
    | inl before ↦ inl (inr (o, before, same, named))
    | inr is ↦ inr (ap entry_conn is ∙ same, subst (λ (m : Members). HasPolicyName (step_lines_of m) name) (sym is) named)
  ]

  module _ (names : List (List ℕ)) (so_far : Contains names name ↔ IsUsedIn operators ms name) where
    pub used_apart : (entry_conn operator ≡ entry_conn ms → ⊥) → Contains names name ↔ IsUsedIn (operators ++ operator ∷ []) ms name
    used_apart apart = (
      λ h. still_used (so_far.0 h),
      λ h. elim (used_cases h) [
        | inl before ↦ so_far.1 before
        | inr here ↦ absurd (apart here.0)
      ],
    )

    pub used_more : entry_conn operator ≡ entry_conn ms → (more : List (List ℕ)) → AreStepNames operator more
        → Contains (names ++ more) name ↔ IsUsedIn (operators ++ operator ∷ []) ms name
    used_more same more are = (
      λ h. elim (append_cases names more name h) [
        | inl before ↦ still_used (so_far.0 before)
        | inr here ↦ inr (operator, Contains-push operators operator, same, (are name).0 here)
      ],
      λ h. elim (used_cases h) [
        | inl before ↦ Contains-append_left names more name (so_far.1 before)
        | inr here ↦ append_right names more name ((are name).1 here.1)
      ],
    )
