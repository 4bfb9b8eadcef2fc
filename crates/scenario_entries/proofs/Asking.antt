-- The first reason of faults in names of policies.
use Rattle.std.proofs.Common.{◌≡◌, ℕ, ◌||◌, not, Bool, List, [], ◌∷◌, map, Contains, Option, Some, None, refl, sym, ap, subst, inl, inr}
use Rattle.std.specs.Bool.{Decides}
use Rattle.std.specs.Prelude.{is_none, is_some}
use Rattle.std.specs.List.{list_any}
use Rattle.std.proofs.lemmas.Bool.{or_cases, or_left, or_right}
use Rattle.mrpc_table.specs.Names.{IsName}
use Rattle.policy_declarations.specs.Declarations.{Declared, policy_names, policy_index}
use Rattle.policy_declarations.specs.declared.declaration.NamedPolicy.{NamedPolicy}
use Rattle.toml.specs.Data.{Members}
use Rattle.scenario.specs.Policies.{entry_names}
use Rattle.scenario.specs.Reasons.{IsSoFar, lower_ranked, reason_if}
use Rattle.scenario.specs.declared.fault.ScenarioReason.{ScenarioReason}
use Rattle.scenario.specs.declared.fault.ScenarioReason.TheVariants.{Name, Unknown}
use Rattle.scenario_entries.specs.FirstReasons.{is_not_name}
use Rattle.scenario_entries.specs.Owning.{IsNamesFault, no_name, no_policy}
use Rattle.scenario_entries.proofs.Declaring.{no_form, place_absent}
use Rattle.scenario_entries.proofs.FirstPolicyReason.{Either, Flag, flag, joined, same_reasons}
use Rattle.scenario_entries.proofs.PolicyLists.{none_in, there_cases, there_first, there_more}

any_there : {X : Type 0} (P : X → Type 0) (p : X → Bool) → ((x : X) → Decides (p x) (P x)) → (xs : List X)
    → Decides (list_any p xs) ((x : X) × Contains xs x × P x)
any_there P p d [] = (λ e. absurd cc, λ h. absurd (none_in h.0 h.1))
any_there {X = X} P p d (x ∷ xs) = (
  λ e. elim (or_cases (p x) (list_any p xs) e) [
    | inl here ↦ (x, there_first x xs, (d x).0 here)
    | inr more ↦ (let m = (any_there P p d xs).0 more in (m.0, there_more x xs m.0 m.1, m.2))
  ],
  λ h. elim (there_cases x xs h.0 h.1) [
    | inl is ↦ or_left (p x) (list_any p xs) ((d x).1 (subst (λ (y : X). P y) (sym is) h.2))
    | inr more ↦ or_right (p x) (list_any p xs) ((any_there P p d xs).1 (h.0, more, h.2))
  ],
)

pub any_map : {X Y : Type 0} (f : X → Y) (p : Y → Bool) (xs : List X) → list_any (λ x. p (f x)) xs ≡ list_any p (map f xs)
any_map f p [] = refl
any_map f p (x ∷ xs) = ap (λ b. p (f x) || b) (any_map f p xs)

none_is : {X : Type 0} (o : Option X) → not (is_some o) ≡ is_none o
none_is None = refl
none_is (Some x) = refl

module _ (d : Declared) (entries : List Members) (same : policy_names d ≡ entry_names entries) (names : List (List ℕ)) where
  abbrev Formless : Type 0
  Formless = (name : List ℕ) × Contains names name × (IsName name → ⊥)

  abbrev Missing : Type 0
  Missing = (name : List ℕ) × Contains names name × (Contains (entry_names entries) name → ⊥)

  missing : (name : List ℕ) → Decides (is_none (policy_index d name)) (Contains (entry_names entries) name → ⊥)
  missing name = subst (λ (b : Bool). Decides b (Contains (entry_names entries) name → ⊥)) (none_is (policy_index d name))
      (place_absent (λ (p : NamedPolicy). p.name) name d.policies (entry_names entries) same)

  abbrev parts : ScenarioReason → Type 0
  parts = Either (Flag Formless Name) (Flag Missing Unknown)

  from_parts : (q : ScenarioReason) → parts q → IsNamesFault entries names q
  from_parts q (inl (h, is)) = no_name h.0 h.1 h.2 is
  from_parts q (inr (h, is)) = no_policy h.0 h.1 h.2 is

  to_parts : (q : ScenarioReason) → IsNamesFault entries names q → parts q
  to_parts q (no_name name there bad is) = inl ((name, there, bad), is)
  to_parts q (no_policy name there none is) = inr ((name, there, none), is)

  pub names_first : IsSoFar (IsNamesFault entries names)
      (lower_ranked (reason_if (list_any is_not_name names) Name) (reason_if (list_any (λ n. is_none (policy_index d n)) names) Unknown))
  names_first =
      let formless = reason_if (list_any is_not_name names) Name in
      let lacks = reason_if (list_any (λ n. is_none (policy_index d n)) names) Unknown in
      same_reasons parts (IsNamesFault entries names) (lower_ranked formless lacks)
      (joined (Flag Formless Name) (Flag Missing Unknown) formless lacks
      (flag Formless Name (list_any is_not_name names) (any_there (λ (n : List ℕ). IsName n → ⊥) is_not_name no_form names))
      (flag Missing Unknown (list_any (λ n. is_none (policy_index d n)) names)
      (any_there (λ (n : List ℕ). Contains (entry_names entries) n → ⊥) (λ n. is_none (policy_index d n)) missing names)))
      from_parts to_parts
