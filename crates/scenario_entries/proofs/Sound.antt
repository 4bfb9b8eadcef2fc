-- Declarations are valid: names are distinct, numbers are in range, and the tenants of quotas are declared.
use Rattle.std.proofs.Common.{◌≡◌, ℕ, ℤ, pos, zero, suc, ◌+◌, ◌<◌, ◌≤◌, Bool, true, List, [], ◌∷◌, ◌++◌, length}
use Rattle.std.proofs.Common.{get_or, take, drop, All, Contains, Option, Some, refl, sym, ap, ◌∙◌, subst, inl, inr}
use Rattle.std.proofs.Common.{arith}
use Rattle.std.specs.Prelude.{codes, slice_get}
use Rattle.std.proofs.lemmas.Bool.{and_parts, cases_Bool, cases_lt, false_from_ne_true, leb-true, not-false}
use Rattle.std.proofs.lemmas.List.{length-take-le}
use Rattle.std.proofs.lemmas.Option.{same_Some, slice_get-get_or, slice_get_within}
use Rattle.mrpc_table.specs.Names.{IsName, is_name_form, is_short}
use Rattle.mrpc_table.specs.Valid.{AreDistinct}
use Rattle.mrpc_table.specs.declared.table.Table.{Table}
use Rattle.policy_rate.specs.Level.{IsRate}
use Rattle.engine_core.specs.Policies.{IsPolicy, KnowsTenantOf}
use Rattle.engine_core.specs.declared.policy.Policy.{Policy}
use Rattle.engine_core.specs.declared.policy.Policy.TheVariants as policy
use Rattle.policy_declarations.specs.Declarations.{Declared, AreValidDeclarations}
use Rattle.policy_declarations.specs.declared.declaration.NamedPolicy.{NamedPolicy}
use Rattle.policy_declarations.specs.declared.declaration.Tenant.{Tenant}
use Rattle.run_plan.specs.Chains.{IsReadUnder}
use Rattle.run_plan.specs.Plans.{HasWindow}
use Rattle.toml.specs.Data.{Members, no_members}
use Rattle.scenario_lines.specs.Programs.{Each}
use Rattle.scenario_toml.specs.Values.{TheIntegerRange, integer_in, is_out, is_in_range, natural_or_zero, number_or_default, texts_at}
use Rattle.scenario.specs.Keys.{amount, burst, entry_kind, per, policy_ranges}
use Rattle.scenario.specs.Policies.{IsPolicyOfKind, IsPolicyFault, IsPolicyMeaning, IsTenantFault, IsTenantMeaning, entry_name, entry_names}
use Rattle.scenario.specs.Policies as against
use Rattle.scenario.specs.Scenarios.{IsEntryAt}
use Rattle.scenario.specs.declared.fault.ScenarioReason.TheVariants.{Known, Name, Number}
use Rattle.scenario.specs.declared.entry_words.PolicyKind.{PolicyKind}
use Rattle.scenario.specs.declared.entry_words.PolicyKind.TheVariants as kind
use Rattle.scenario_entries.specs.Entries.{AreFaultFree}
use Rattle.scenario_entries.specs.FirstReasons.{is_not_name}
use Rattle.scenario_entries.proofs.Declaring.{no_form, policies_named, tenants_named}
use Rattle.scenario_entries.proofs.Distinct.{distinct_from}
use Rattle.scenario_entries.proofs.PolicyLists.{each_at, each_left, each_length, there_first, there_more}
use Rattle.scenario_entries.proofs.Using.{policies_distinct}

-- ---- lists

split_at : {X : Type 0} (xs : List X) (i : ℕ) (x : X) → slice_get xs i ≡ Some x → xs ≡ take i xs ++ x ∷ drop (suc i) xs
split_at [] i x e = absurd cc
split_at {X = X} (y ∷ ys) zero x e = ap (λ (z : X). z ∷ ys) (same_Some y x e)
split_at {X = X} (y ∷ ys) (suc i) x e = ap (λ (zs : List X). y ∷ zs) (split_at ys i x e)

stands_at : (entries : List Members) (i : ℕ) (ms : Members) → slice_get entries i ≡ Some ms
    → IsEntryAt entries (take i entries) ms (length (take i entries) + 1)
stands_at entries i ms at = record { back = drop (suc i) entries; whole = split_at entries i ms at; is_number = refl }

all_named : (xs : List Members) → ((i : ℕ) (ms : Members) → slice_get xs i ≡ Some ms → IsName (entry_name ms)) → (k : ℕ) (n : List ℕ)
    → k < length (entry_names xs) → IsName (get_or (entry_names xs) k n)
all_named [] h k n within = absurd (omega (arith, within))
all_named (x ∷ xs) h zero n within = h 0 x refl
all_named (x ∷ xs) h (suc k) n within = all_named xs (λ i ms e. h (suc i) ms e) k n (omega (arith, within))

-- ---- tests

is_name : (word : List ℕ) → ((IsName word → ⊥) → ⊥) → IsName word
is_name word h = elim (cases_Bool (is_not_name word)) [
  | inl bad ↦ absurd (h ((no_form word).0 bad))
  | inr fine ↦ (let both = and_parts (is_name_form word) (is_short word) (not-false _ fine) in record { form = both.0; short = leb-true _ _ both.1 })
]

in_range : (least most : ℕ) (z : ℤ) → is_in_range least most z ≡ true → (least ≤ natural_or_zero z) × (natural_or_zero z ≤ most)
in_range least most (pos n) e = let both = and_parts _ _ e in (leb-true _ _ both.0, leb-true _ _ both.1)
in_range least most _ e = absurd cc

within : (r : TheIntegerRange) (ms : Members) → (is_out ms r ≡ true → ⊥) → (r.least ≤ number_or_default r ms) × (number_or_default r ms ≤ r.most)
within r ms fine =
    in_range r.least r.most (integer_in r ms) (not-false (is_in_range r.least r.most (integer_in r ms)) (false_from_ne_true (is_out ms r) fine))

module _ (T : Table) (tenants entries : List Members) (d : Declared) (none : AreFaultFree IsTenantFault tenants) (free : AreFaultFree (IsPolicyFault T tenants) entries)
    (told : Each IsTenantMeaning tenants d.tenants) (says : Each (IsPolicyMeaning T tenants) entries d.policies) where
  -- ---- tenants

  tenant_fine : (i : ℕ) (ms : Members) → slice_get tenants i ≡ Some ms → (1 ≤ number_or_default per ms) × (number_or_default per ms ≤ 86400000)
  tenant_fine i ms at =
      within per ms (λ out. none (take i tenants) ms (length (take i tenants) + 1) Number (stands_at tenants i ms at) (against.out_of_range out refl))

  few_tenants : length tenants ≤ 16
  few_tenants = elim (cases_lt 16 (length tenants)) [
    | inl more ↦
        let ms = get_or tenants 16 no_members in
        let count = length-take-le 16 tenants (omega (arith, more)) in
        absurd (none (take 16 tenants) ms (length (take 16 tenants) + 1) Number (stands_at tenants 16 ms (slice_get-get_or tenants 16 no_members more))
        (against.too_many (omega (arith, count)) refl))
    | inr few ↦ few
  ]

  tenants_new : AreDistinct (entry_names tenants)
  tenants_new = distinct_from entry_name [] tenants
      (λ before ms back e there. none before ms (length before + 1) Known (record { back = back; whole = e; is_number = refl }) (against.is_known there refl))

  tenants_have : All IsName (entry_names tenants)
  tenants_have = all_named tenants (λ i ms at. is_name (entry_name ms)
      (λ bad. none (take i tenants) ms (length (take i tenants) + 1) Name (stands_at tenants i ms at) (against.no_name bad refl)))

  window : (k : ℕ) (t : Tenant) → slice_get d.tenants k ≡ Some t → (1 ≤ t.per) × (t.per ≤ 86400000)
  window k t at =
      let entry = each_at IsTenantMeaning tenants d.tenants k t told at in
      subst (λ (n : ℕ). (1 ≤ n) × (n ≤ 86400000)) (sym entry.2.per) (tenant_fine k entry.0 entry.1)

  -- ---- policies

  policies_have : All IsName (entry_names entries)
  policies_have = all_named entries (λ i ms at. is_name (entry_name ms)
      (λ bad. free (take i entries) ms (length (take i entries) + 1) Name (stands_at entries i ms at) (against.no_name bad refl)))

  module _ (i : ℕ) (ms : Members) (at : slice_get entries i ≡ Some ms) where
    number_fine : (k : PolicyKind) (r : TheIntegerRange) → entry_kind ms ≡ Some k → Contains (policy_ranges (Some k)) r → (r.least ≤ number_or_default r ms) × (number_or_default r ms ≤ r.most)
    number_fine k r is there = within r ms (λ out. free (take i entries) ms (length (take i entries) + 1) Number (stands_at entries i ms at)
        (against.out_of_range r (subst (λ (o : Option PolicyKind). Contains (policy_ranges o) r) (sym is) there) out refl))

    rate_fine : entry_kind ms ≡ Some kind.Rate → (hold : Bool) → IsRate (record { amount = number_or_default amount ms; per = number_or_default per ms; burst = number_or_default burst ms; hold = hold })
    rate_fine is hold =
        let a = number_fine kind.Rate amount is (there_first amount (per ∷ burst ∷ [])) in
        let p = number_fine kind.Rate per is (there_more amount (per ∷ burst ∷ []) per (there_first per (burst ∷ []))) in
        let b = number_fine kind.Rate burst is (there_more amount (per ∷ burst ∷ []) burst (there_more per (burst ∷ []) burst (there_first burst []))) in
        record { amount_from = a.0; amount_to = a.1; per_from = p.0; per_to = p.1; burst_from = b.0; burst_to = b.1 }

    policy_fine : (p : Policy) → IsPolicyOfKind T tenants ms p → IsPolicy p × KnowsTenantOf (λ place. place < length d.tenants) p
    policy_fine (policy.Access p) h = (tt, tt)
    policy_fine (policy.Rate r) h = (subst IsRate (sym h.1) (rate_fine h.0 (against.holds ms)), tt)
    policy_fine (policy.Quota tenant w c) h =
        let there = slice_get_within tenants tenant h.2.0 h.2.1 in
        let count = each_length IsTenantMeaning tenants d.tenants told in (
          subst (λ (n : ℕ). (1 ≤ n) × (n ≤ 86400000)) (sym h.2.2) (tenant_fine tenant h.2.0 h.2.1),
          omega (arith, there, count),
        )
    policy_fine policy.Count h = (tt, tt)
    policy_fine (policy.Redact p) h = (tt, tt)

    policy_read : (p : Policy) → IsPolicyOfKind T tenants ms p → IsReadUnder T p
    policy_read (policy.Access p) h = (texts_at (codes "rules") ms, h.1)
    policy_read (policy.Rate r) h = tt
    policy_read (policy.Quota tenant w c) h = tt
    policy_read policy.Count h = tt
    policy_read (policy.Redact p) h = (texts_at (codes "clears") ms, h.1)

    policy_window : (p : Policy) → IsPolicyOfKind T tenants ms p → HasWindow d.tenants p
    policy_window (policy.Access p) h = tt
    policy_window (policy.Rate r) h = tt
    policy_window (policy.Quota tenant w c) h =
        let t = each_left IsTenantMeaning tenants d.tenants tenant h.2.0 told h.2.1 in
        (t.0, t.1, h.2.2 ∙ sym t.2.per)
    policy_window policy.Count h = tt
    policy_window (policy.Redact p) h = tt

  -- what holds of a policy with its entry holds of each one
  each_policy : (P : Policy → Type 0) → ((i : ℕ) (ms : Members) → slice_get entries i ≡ Some ms → (p : Policy) → IsPolicyOfKind T tenants ms p → P p)
      → All (λ (p : NamedPolicy). P p.policy) d.policies
  each_policy P h = λ k p in_list.
      let at = slice_get-get_or d.policies k p in_list in
      let entry = each_at (IsPolicyMeaning T tenants) entries d.policies k (get_or d.policies k p) says at in
      h k entry.0 entry.1 (get_or d.policies k p).policy entry.2.policy

  pub declared_sound : AreValidDeclarations d
  declared_sound = record {
    few = (let count = each_length IsTenantMeaning tenants d.tenants told in omega (arith, count, few_tenants));
    tenants_distinct = subst (λ (ns : List (List ℕ)). AreDistinct ns) (sym (tenants_named tenants d told)) tenants_new;
    policies_distinct = subst (λ (ns : List (List ℕ)). AreDistinct ns) (sym (policies_named T tenants entries d says)) (policies_distinct T tenants entries free);
    tenants_named = subst (λ (ns : List (List ℕ)). All IsName ns) (sym (tenants_named tenants d told)) tenants_have;
    policies_named = subst (λ (ns : List (List ℕ)). All IsName ns) (sym (policies_named T tenants entries d says)) policies_have;
    windows = λ k t in_list. window k (get_or d.tenants k t) (slice_get-get_or d.tenants k t in_list);
    policies = each_policy (λ (p : Policy). IsPolicy p × KnowsTenantOf (λ place. place < length d.tenants) p) policy_fine;
  }

  pub declared_read : All (λ (p : NamedPolicy). IsReadUnder T p.policy) d.policies
  declared_read = each_policy (IsReadUnder T) policy_read

  pub declared_windows : All (λ (p : NamedPolicy). HasWindow d.tenants p.policy) d.policies
  declared_windows = each_policy (HasWindow d.tenants) policy_window
