-- Named policies, by their indices, and the faults of those that are read again.
use Rattle.std.proofs.Common.{◌≡◌, ◌⊎◌, ℕ, zero, suc, ◌<◌, Bool, true, List, [], ◌∷◌, ◌++◌, length, set, Option, Some}
use Rattle.std.proofs.Common.{None, Result, Ok, Err, refl, sym, ap, ◌∙◌, subst, inl, inr, arith}
use Rattle.std.specs.Prelude.{IfOk, slice_get}
use Rattle.std.proofs.lemmas.List.{length-set}
use Rattle.std.proofs.lemmas.List.Elements.{Contains-append_left, Contains-push, Contains-push_cases}
use Rattle.std.proofs.lemmas.Option.{same_Some}
use Rattle.mrpc_table.specs.declared.policy_lines.RuleReason.{RuleReason}
use Rattle.mrpc_table.specs.declared.table.Table.{Table}
use Rattle.engine_core.specs.declared.policy.Policy.{Policy}
use Rattle.policy_declarations.specs.Declarations.{Declared, policy_index}
use Rattle.policy_declarations.specs.declared.declaration.NamedPolicy.{NamedPolicy}
use Rattle.toml.specs.Data.{Members}
use Rattle.scenario.specs.Keys.{entry_kind}
use Rattle.scenario.specs.Policies.{IsPolicyOfKind, HasFaultyLine}
use Rattle.scenario.specs.declared.entry_words.PolicyKind.{PolicyKind}
use Rattle.scenario.specs.declared.entry_words.PolicyKind.TheVariants as kind
use Rattle.scenario_entries.specs.FirstReasons.{IsLinesMeaning, IsRuledResult}
use Rattle.scenario_entries.specs.Marking.{AreMarked, IsNamedPolicy, IsReadAgain}
use Rattle.scenario_entries.proofs.Declaring.{access_says, redact_says}
use Rattle.scenario_entries.proofs.PolicyNaming as naming

pub ok_more : {A E : Type 0} (P Q : A → Type 0) → ((a : A) → P a → Q a) → (r : Result A E) → IfOk r P → IfOk r Q
ok_more P Q more (Ok a) h = more a h
ok_more P Q more (Err e) h = tt

-- ---- marks

set_true : (xs : List Bool) (i j : ℕ) → slice_get (set xs i true) j ≡ Some true → (i ≡ j) ⊎ (slice_get xs j ≡ Some true)
set_true [] i j e = absurd cc
set_true (x ∷ xs) zero zero e = inl refl
set_true (x ∷ xs) zero (suc j) e = inr e
set_true (x ∷ xs) (suc i) zero e = inr e
set_true (x ∷ xs) (suc i) (suc j) e = elim (set_true xs i j e) [
  | inl same ↦ inl (ap suc same)
  | inr there ↦ inr there
]

set_kept : (xs : List Bool) (i j : ℕ) → slice_get xs j ≡ Some true → slice_get (set xs i true) j ≡ Some true
set_kept [] i j e = absurd cc
set_kept (x ∷ xs) zero zero e = refl
set_kept (x ∷ xs) zero (suc j) e = e
set_kept (x ∷ xs) (suc i) zero e = e
set_kept (x ∷ xs) (suc i) (suc j) e = set_kept xs i j e

set_here : (xs : List Bool) (i : ℕ) → i < length xs → slice_get (set xs i true) i ≡ Some true
set_here [] i within = absurd (omega (arith, within))
set_here (x ∷ xs) zero within = refl
set_here (x ∷ xs) (suc i) within = set_here xs i (omega (arith, within))

module _ (d : Declared) where
  pub place_within : (name : List ℕ) (place : ℕ) → policy_index d name ≡ Some place → place < length d.policies
  place_within name place e = (naming.place_is (λ (p : NamedPolicy). p.name) name d.policies place e).within

  module _ (names : List (List ℕ)) (name : List ℕ) (marks : List Bool) (so_far : AreMarked d names marks) where
    still_named : (place : ℕ) → IsNamedPolicy d names place → IsNamedPolicy d (names ++ name ∷ []) place
    still_named place h = (h.0, Contains-append_left names (name ∷ []) h.0 h.1, h.2)

    pub marks_same : policy_index d name ≡ None → AreMarked d (names ++ name ∷ []) marks
    marks_same none = record {
      long = so_far.long;
      named = λ place e. still_named place (so_far.named place e);
      marked = λ place h. elim (Contains-push_cases names name h.0 h.1) [
        | inl before ↦ so_far.marked place (h.0, before, h.2)
        | inr same ↦ absurd (let e : None ≡ Some place = sym none ∙ ap (policy_index d) same ∙ h.2 in cc)
      ];
    }

    pub marks_more : (i : ℕ) → policy_index d name ≡ Some i → AreMarked d (names ++ name ∷ []) (set marks i true)
    marks_more i found = record {
      long = length-set marks i true ∙ so_far.long;
      named = λ place e. elim (set_true marks i place e) [
        | inl same ↦ (name, Contains-push names name, found ∙ ap (λ (n : ℕ). Some n) same)
        | inr there ↦ still_named place (so_far.named place there)
      ];
      marked = λ place h. elim (Contains-push_cases names name h.0 h.1) [
        | inl before ↦ set_kept marks i place (so_far.marked place (h.0, before, h.2))
        | inr same ↦
            let is : i ≡ place = same_Some i place (sym found ∙ ap (policy_index d) same ∙ h.2) in
            let within : i < length marks = (let w = place_within name i found in let l = so_far.long in omega (arith, w, l)) in
            subst (λ (n : ℕ). slice_get (set marks i true) n ≡ Some true) is (set_here marks i within)
      ];
    }

-- ---- policies that are read again

module _ (own : Table) (tenants : List Members) (ms : Members) where
  ruled_again : (k : PolicyKind) → entry_kind ms ≡ Some k → ((p : Policy) → IsLinesMeaning k own ms (Some p) → IsPolicyOfKind own tenants ms p)
      → (r : Result Policy RuleReason) → IsRuledResult k own ms r → IsReadAgain own tenants ms r
  ruled_again k is says (Ok p) h = (says p h.0, λ why fails. h.1 why (subst (λ (o : Option PolicyKind). HasFaultyLine o own ms why) is fails))
  ruled_again k is says (Err why) h = (
    subst (λ (o : Option PolicyKind). HasFaultyLine o own ms why) (sym is) h.0,
    λ other fails. h.1 other (subst (λ (o : Option PolicyKind). HasFaultyLine o own ms other) is fails),
  )

  pub access_again : entry_kind ms ≡ Some kind.Access → (r : Result Policy RuleReason) → IsRuledResult kind.Access own ms r → IsReadAgain own tenants ms r
  access_again is = ruled_again kind.Access is (λ p h. access_says own tenants ms ⊥ (Some p) is h)

  pub redact_again : entry_kind ms ≡ Some kind.Redact → (r : Result Policy RuleReason) → IsRuledResult kind.Redact own ms r → IsReadAgain own tenants ms r
  redact_again is = ruled_again kind.Redact is (λ p h. redact_says own tenants ms ⊥ (Some p) is h)
