-- Tenants and policies without faults have a meaning.
use Rattle.std.proofs.Common.{◌≡◌, ◌⊎◌, ℕ, List, Contains, Option, Some, None, refl, ap, subst, inl, inr}
use Rattle.std.specs.Prelude.{codes}
use Rattle.mrpc_table.specs.declared.policy_lines.RuleReason.{RuleReason}
use Rattle.mrpc_table.specs.declared.table.Table.{Table}
use Rattle.policy_access.specs.Faults as access_faults
use Rattle.policy_access.specs.Texts as access_texts
use Rattle.policy_access.specs.Verdict.{AccessPolicy}
use Rattle.policy_redact.specs.Faults as redact_faults
use Rattle.policy_redact.specs.Texts as redact_texts
use Rattle.policy_redact.specs.declared.redact.Clear.{Clear}
use Rattle.engine_core.specs.declared.policy.Policy.{Policy}
use Rattle.engine_core.specs.declared.policy.Policy.TheVariants as policy
use Rattle.policy_declarations.specs.declared.declaration.NamedPolicy.{NamedPolicy}
use Rattle.policy_declarations.specs.declared.declaration.Tenant.{Tenant}
use Rattle.toml.specs.Data.{Members}
use Rattle.scenario_lines.specs.Programs.{Each}
use Rattle.scenario_toml.specs.Values.{number_or_default, texts_at, text_or_empty}
use Rattle.scenario.specs.Keys.{amount, burst, cap, has_policy_keys, entry_kind, per}
use Rattle.scenario.specs.Policies.{IsPolicyOfKind, HasFaultyLine, IsPolicyFault, IsPolicyMeaning, IsTenantMeaning, holds, entry_name, entry_names}
use Rattle.scenario.specs.Policies as against
use Rattle.scenario.specs.Reasons.{reason_of_policy_line}
use Rattle.scenario.specs.declared.fault.ScenarioReason.{ScenarioReason}
use Rattle.scenario.specs.declared.fault.ScenarioReason.TheVariants.{Key, Unknown}
use Rattle.scenario.specs.declared.entry_words.PolicyKind.{PolicyKind}
use Rattle.scenario.specs.declared.entry_words.PolicyKind.TheVariants as kind
use Rattle.scenario_laws.proofs.FaultyLists.{AreFree, CanBe, each_by, free_of, named_at, placed}

-- the laws of the texts of policies in use
abbrev pub AccessOrFault : Type 0
AccessOrFault =
    (T : Table) (lines : List (List ℕ)) → ((p : AccessPolicy) × access_texts.IsTextOf T lines p)
    ⊎ ((line : ℕ) × (q : RuleReason) × access_faults.IsFirstFault T lines line q)

abbrev pub RedactOrFault : Type 0
RedactOrFault =
    (T : Table) (lines : List (List ℕ)) → ((p : List Clear) × redact_texts.IsTextOf T lines p)
    ⊎ ((line : ℕ) × (q : RuleReason) × redact_faults.IsFirstFault T lines line q)

-- ---- tenants

pub tenants_say : (entries : List Members) → (tenants : List Tenant) × Each IsTenantMeaning entries tenants
tenants_say entries = each_by IsTenantMeaning entries (λ ms there. (record { name = entry_name ms; per = number_or_default per ms }, record { name = refl; per = refl }))

-- ---- policies

-- what doesn't depend on a table: a policy has a kind, and a quota's tenant is declared
pub record IsFine (tenants : List Members) (ms : Members) : Type 0 where
  pub which : PolicyKind
  pub is : entry_kind ms ≡ Some which
  pub declared : entry_kind ms ≡ Some kind.Quota → CanBe (Contains (entry_names tenants) (text_or_empty (codes "tenant") ms))

module _ (access : AccessOrFault) (redact : RedactOrFault) (tenants : List Members) where
  -- a policy whose lines have no fault under a table has a meaning under it
  by_kind : (T : Table) (ms : Members) (k : PolicyKind) → entry_kind ms ≡ Some k
      → (entry_kind ms ≡ Some kind.Quota → CanBe (Contains (entry_names tenants) (text_or_empty (codes "tenant") ms)))
      → ((why : RuleReason) → HasFaultyLine (Some k) T ms why → ⊥) → (p : Policy) × IsPolicyOfKind T tenants ms p
  by_kind T ms kind.Access is tenant fine = elim (access T (texts_at (codes "rules") ms)) [
    | inl text ↦ (policy.Access text.0, (is, text.1))
    | inr fault ↦ absurd (fine fault.1 (fault.0, fault.2))
  ]
  by_kind T ms kind.Redact is tenant fine = elim (redact T (texts_at (codes "clears") ms)) [
    | inl text ↦ (policy.Redact text.0, (is, text.1))
    | inr fault ↦ absurd (fine fault.1 (fault.0, fault.2))
  ]
  by_kind T ms kind.Rate is tenant fine = (
    policy.Rate (record { amount = number_or_default amount ms; per = number_or_default per ms; burst = number_or_default burst ms; hold = holds ms }),
    (is, refl),
  )
  by_kind T ms kind.Quota is tenant fine =
      let place = placed tenants (text_or_empty (codes "tenant") ms) (tenant is) in
      let t = named_at tenants (text_or_empty (codes "tenant") ms) place.0 place.1 in
      (policy.Quota place.0 (number_or_default per t.entry) (number_or_default cap ms), (is, place.1, (t.entry, t.at, refl), refl))
  by_kind T ms kind.Count is tenant fine = (policy.Count, is)

  pub kind_says : (T : Table) (ms : Members) → IsFine tenants ms → ((why : RuleReason) → HasFaultyLine (entry_kind ms) T ms why → ⊥)
      → (p : Policy) × IsPolicyOfKind T tenants ms p
  kind_says T ms fine free =
      by_kind T ms fine.which fine.is fine.declared (subst (λ (o : Option PolicyKind). (why : RuleReason) → HasFaultyLine o T ms why → ⊥) fine.is free)

  module _ (T : Table) (before : List Members) (ms : Members) (free : (q : ScenarioReason) → IsPolicyFault T tenants before ms q → ⊥) where
    has_kind : (o : Option PolicyKind) → entry_kind ms ≡ o → (k : PolicyKind) × (entry_kind ms ≡ Some k)
    has_kind None e = absurd (free Key (against.wrong_keys (ap (λ (k : Option PolicyKind). has_policy_keys k ms) e) refl))
    has_kind (Some k) e = (k, e)

    pub is_fine : IsFine tenants ms
    is_fine =
        let k = has_kind (entry_kind ms) refl in
        record { which = k.0; is = k.1; declared = λ quota none. free Unknown (against.no_tenant quota none refl) }

    pub policy_says : (p : NamedPolicy) × IsPolicyMeaning T tenants ms p
    policy_says =
        let p = kind_says T ms is_fine (λ why fails. free (reason_of_policy_line why) (against.in_lines why fails refl)) in
        (record { name = entry_name ms; policy = p.0 }, record { name = refl; policy = p.1 })

  module _ (T : Table) (entries : List Members)
      (free : AreFree (IsPolicyFault T tenants) entries) where
    pub are_fine : (ms : Members) → Contains entries ms → IsFine tenants ms
    are_fine ms there = (let none = free_of (IsPolicyFault T tenants) entries free ms there in is_fine T none.0 ms none.1)

    pub policies_say : (policies : List NamedPolicy) × Each (IsPolicyMeaning T tenants) entries policies
    policies_say = each_by (IsPolicyMeaning T tenants) entries
        (λ ms there. let none = free_of (IsPolicyFault T tenants) entries free ms there in policy_says T none.0 ms none.1)
