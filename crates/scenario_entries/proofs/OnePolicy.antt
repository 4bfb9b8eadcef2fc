-- Entries mean at most one list of policies, and what they mean under two tables is the same.
use Rattle.std.proofs.Common.{◌≡◌, ℕ, List, [], ◌∷◌, Some, refl, sym, ap, ◌∙◌, subst}
use Rattle.std.specs.Prelude.{codes, option_map, slice_get}
use Rattle.std.proofs.lemmas.Option.{same_Some}
use Rattle.mrpc_table.specs.declared.table.Table.{Table}
use Rattle.policy_access.specs.Texts as access_texts
use Rattle.policy_access.specs.Verdict.{AccessPolicy}
use Rattle.policy_redact.specs.Texts as redact_texts
use Rattle.policy_redact.specs.declared.redact.Clear.{Clear}
use Rattle.policy_rate.specs.declared.rate.Rate.{Rate as TheRate}
use Rattle.engine_core.specs.declared.policy.Policy.{Policy}
use Rattle.engine_core.specs.declared.policy.Policy.TheVariants as policy
use Rattle.policy_declarations.specs.declared.declaration.NamedPolicy.{NamedPolicy}
use Rattle.run_plan.specs.Chains.{HaveSameMeaning}
use Rattle.run_plan.specs.Plans.{IsOwnPolicy}
use Rattle.run_plan.specs.declared.application.OwnPolicy.{OwnPolicy}
use Rattle.toml.specs.Data.{Members}
use Rattle.scenario_lines.specs.Programs.{Each}
use Rattle.scenario_toml.specs.Values.{number_or_default, texts_at}
use Rattle.scenario.specs.Applications.{policy_tables, tenant_tables}
use Rattle.scenario.specs.Keys.{per}
use Rattle.scenario.specs.Policies.{IsPolicyOfKind, IsPolicyMeaning}
use Rattle.scenario.specs.Scenarios.{IsOwnPolicyMeaning}
use Rattle.scenario.specs.declared.entry_words.PolicyKind.TheVariants as kind
use Rattle.scenario_entries.proofs.PolicyLists.{each_left}

-- ---- one policy

quota_same : (t u w x c e : ℕ) → t ≡ u → w ≡ x → c ≡ e → policy.Quota t w c ≡ policy.Quota u x e
quota_same t u w x c e p q r = cc

-- the window is that of the tenant at an index
window_same : (tenants : List Members) (at w x : ℕ) → (t : Members) × (slice_get tenants at ≡ Some t) × (w ≡ number_or_default per t)
    → (t : Members) × (slice_get tenants at ≡ Some t) × (x ≡ number_or_default per t) → w ≡ x
window_same tenants at w x h k = h.2 ∙ ap (number_or_default per) (same_Some h.0 k.0 (sym h.1 ∙ k.1)) ∙ sym k.2

module _ (one_access : (T : Table) (lines : List (List ℕ)) (p q : AccessPolicy) → access_texts.IsTextOf T lines p → access_texts.IsTextOf T lines q → p ≡ q)
    (one_redact : (T : Table) (lines : List (List ℕ)) (p q : List Clear) → redact_texts.IsTextOf T lines p → redact_texts.IsTextOf T lines q → p ≡ q)
    (T : Table) (tenants : List Members) where
  module _ (ms : Members) where
    one_policy : (p q : Policy) → IsPolicyOfKind T tenants ms p → IsPolicyOfKind T tenants ms q → p ≡ q
    one_policy (policy.Access p) (policy.Access q) h k = ap (λ (x : AccessPolicy). policy.Access x) (one_access T (texts_at (codes "rules") ms) p q h.1 k.1)
    one_policy (policy.Access p) (policy.Rate q) h k = absurd (let e : Some kind.Access ≡ Some kind.Rate = sym h.0 ∙ k.0 in cc)
    one_policy (policy.Access p) (policy.Quota qt qw qc) h k = absurd (let e : Some kind.Access ≡ Some kind.Quota = sym h.0 ∙ k.0 in cc)
    one_policy (policy.Access p) policy.Count h k = absurd (let e : Some kind.Access ≡ Some kind.Count = sym h.0 ∙ k in cc)
    one_policy (policy.Access p) (policy.Redact q) h k = absurd (let e : Some kind.Access ≡ Some kind.Redact = sym h.0 ∙ k.0 in cc)
    one_policy (policy.Rate p) (policy.Access q) h k = absurd (let e : Some kind.Rate ≡ Some kind.Access = sym h.0 ∙ k.0 in cc)
    one_policy (policy.Rate p) (policy.Rate q) h k = ap (λ (x : TheRate). policy.Rate x) (h.1 ∙ sym k.1)
    one_policy (policy.Rate p) (policy.Quota qt qw qc) h k = absurd (let e : Some kind.Rate ≡ Some kind.Quota = sym h.0 ∙ k.0 in cc)
    one_policy (policy.Rate p) policy.Count h k = absurd (let e : Some kind.Rate ≡ Some kind.Count = sym h.0 ∙ k in cc)
    one_policy (policy.Rate p) (policy.Redact q) h k = absurd (let e : Some kind.Rate ≡ Some kind.Redact = sym h.0 ∙ k.0 in cc)
    one_policy (policy.Quota pt pw pc) (policy.Access q) h k = absurd (let e : Some kind.Quota ≡ Some kind.Access = sym h.0 ∙ k.0 in cc)
    one_policy (policy.Quota pt pw pc) (policy.Rate q) h k = absurd (let e : Some kind.Quota ≡ Some kind.Rate = sym h.0 ∙ k.0 in cc)
    one_policy (policy.Quota pt pw pc) (policy.Quota qt qw qc) h k =
        let same = same_Some pt qt (sym h.1 ∙ k.1) in
        quota_same pt qt pw qw pc qc same
        (window_same tenants qt pw qw (subst (λ (n : ℕ). (t : Members) × (slice_get tenants n ≡ Some t) × (pw ≡ number_or_default per t)) same h.2) k.2)
        (h.3 ∙ sym k.3)
    one_policy (policy.Quota pt pw pc) policy.Count h k = absurd (let e : Some kind.Quota ≡ Some kind.Count = sym h.0 ∙ k in cc)
    one_policy (policy.Quota pt pw pc) (policy.Redact q) h k = absurd (let e : Some kind.Quota ≡ Some kind.Redact = sym h.0 ∙ k.0 in cc)
    one_policy policy.Count (policy.Access q) h k = absurd (let e : Some kind.Count ≡ Some kind.Access = sym h ∙ k.0 in cc)
    one_policy policy.Count (policy.Rate q) h k = absurd (let e : Some kind.Count ≡ Some kind.Rate = sym h ∙ k.0 in cc)
    one_policy policy.Count (policy.Quota qt qw qc) h k = absurd (let e : Some kind.Count ≡ Some kind.Quota = sym h ∙ k.0 in cc)
    one_policy policy.Count policy.Count h k = refl
    one_policy policy.Count (policy.Redact q) h k = absurd (let e : Some kind.Count ≡ Some kind.Redact = sym h ∙ k.0 in cc)
    one_policy (policy.Redact p) (policy.Access q) h k = absurd (let e : Some kind.Redact ≡ Some kind.Access = sym h.0 ∙ k.0 in cc)
    one_policy (policy.Redact p) (policy.Rate q) h k = absurd (let e : Some kind.Redact ≡ Some kind.Rate = sym h.0 ∙ k.0 in cc)
    one_policy (policy.Redact p) (policy.Quota qt qw qc) h k = absurd (let e : Some kind.Redact ≡ Some kind.Quota = sym h.0 ∙ k.0 in cc)
    one_policy (policy.Redact p) policy.Count h k = absurd (let e : Some kind.Redact ≡ Some kind.Count = sym h.0 ∙ k in cc)
    one_policy (policy.Redact p) (policy.Redact q) h k = ap (λ (x : List Clear). policy.Redact x) (one_redact T (texts_at (codes "clears") ms) p q h.1 k.1)

  abbrev named : List ℕ → Policy → NamedPolicy
  named n p = record { name = n; policy = p }

  pub same_policy : (ms : Members) (p q : NamedPolicy) → IsPolicyMeaning T tenants ms p → IsPolicyMeaning T tenants ms q → p ≡ q
  same_policy ms p q h k =
      let first : named p.name p.policy ≡ named q.name p.policy = ap (λ (n : List ℕ). named n p.policy) (h.name ∙ sym k.name) in
      first ∙ ap (named q.name) (one_policy ms p.policy q.policy h.policy k.policy)

  pub same_policies : (entries : List Members) (ps qs : List NamedPolicy) → Each (IsPolicyMeaning T tenants) entries ps → Each (IsPolicyMeaning T tenants) entries qs
      → ps ≡ qs
  same_policies [] [] [] h k = refl
  same_policies [] [] (q ∷ qs) h k = absurd k
  same_policies [] (p ∷ ps) qs h k = absurd h
  same_policies (m ∷ ms) [] qs h k = absurd h
  same_policies (m ∷ ms) (p ∷ ps) [] h k = absurd k
  same_policies (m ∷ ms) (p ∷ ps) (q ∷ qs) h k =
      ap (λ (x : NamedPolicy). x ∷ ps) (same_policy m p q h.0 k.0) ∙ ap (λ (xs : List NamedPolicy). q ∷ xs) (same_policies ms ps qs h.1 k.1)

-- ---- under two tables

module _ (shared own : Table) (tenants : List Members) (ms : Members) where
  pub says_the_same : (p q : Policy) → IsPolicyOfKind shared tenants ms p → IsPolicyOfKind own tenants ms q → HaveSameMeaning shared p own q
  says_the_same (policy.Access p) (policy.Access q) h k = (texts_at (codes "rules") ms, h.1, k.1)
  says_the_same (policy.Access p) (policy.Rate q) h k = absurd (let e : Some kind.Access ≡ Some kind.Rate = sym h.0 ∙ k.0 in cc)
  says_the_same (policy.Access p) (policy.Quota qt qw qc) h k = absurd (let e : Some kind.Access ≡ Some kind.Quota = sym h.0 ∙ k.0 in cc)
  says_the_same (policy.Access p) policy.Count h k = absurd (let e : Some kind.Access ≡ Some kind.Count = sym h.0 ∙ k in cc)
  says_the_same (policy.Access p) (policy.Redact q) h k = absurd (let e : Some kind.Access ≡ Some kind.Redact = sym h.0 ∙ k.0 in cc)
  says_the_same (policy.Rate p) (policy.Access q) h k = absurd (let e : Some kind.Rate ≡ Some kind.Access = sym h.0 ∙ k.0 in cc)
  says_the_same (policy.Rate p) (policy.Rate q) h k = ap (λ (x : TheRate). policy.Rate x) (h.1 ∙ sym k.1)
  says_the_same (policy.Rate p) (policy.Quota qt qw qc) h k = absurd (let e : Some kind.Rate ≡ Some kind.Quota = sym h.0 ∙ k.0 in cc)
  says_the_same (policy.Rate p) policy.Count h k = absurd (let e : Some kind.Rate ≡ Some kind.Count = sym h.0 ∙ k in cc)
  says_the_same (policy.Rate p) (policy.Redact q) h k = absurd (let e : Some kind.Rate ≡ Some kind.Redact = sym h.0 ∙ k.0 in cc)
  says_the_same (policy.Quota pt pw pc) (policy.Access q) h k = absurd (let e : Some kind.Quota ≡ Some kind.Access = sym h.0 ∙ k.0 in cc)
  says_the_same (policy.Quota pt pw pc) (policy.Rate q) h k = absurd (let e : Some kind.Quota ≡ Some kind.Rate = sym h.0 ∙ k.0 in cc)
  says_the_same (policy.Quota pt pw pc) (policy.Quota qt qw qc) h k =
      let same = same_Some pt qt (sym h.1 ∙ k.1) in
      quota_same pt qt pw qw pc qc same
      (window_same tenants qt pw qw (subst (λ (n : ℕ). (t : Members) × (slice_get tenants n ≡ Some t) × (pw ≡ number_or_default per t)) same h.2) k.2)
      (h.3 ∙ sym k.3)
  says_the_same (policy.Quota pt pw pc) policy.Count h k = absurd (let e : Some kind.Quota ≡ Some kind.Count = sym h.0 ∙ k in cc)
  says_the_same (policy.Quota pt pw pc) (policy.Redact q) h k = absurd (let e : Some kind.Quota ≡ Some kind.Redact = sym h.0 ∙ k.0 in cc)
  says_the_same policy.Count (policy.Access q) h k = absurd (let e : Some kind.Count ≡ Some kind.Access = sym h ∙ k.0 in cc)
  says_the_same policy.Count (policy.Rate q) h k = absurd (let e : Some kind.Count ≡ Some kind.Rate = sym h ∙ k.0 in cc)
  says_the_same policy.Count (policy.Quota qt qw qc) h k = absurd (let e : Some kind.Count ≡ Some kind.Quota = sym h ∙ k.0 in cc)
  says_the_same policy.Count policy.Count h k = refl
  says_the_same policy.Count (policy.Redact q) h k = absurd (let e : Some kind.Count ≡ Some kind.Redact = sym h ∙ k.0 in cc)
  says_the_same (policy.Redact p) (policy.Access q) h k = absurd (let e : Some kind.Redact ≡ Some kind.Access = sym h.0 ∙ k.0 in cc)
  says_the_same (policy.Redact p) (policy.Rate q) h k = absurd (let e : Some kind.Redact ≡ Some kind.Rate = sym h.0 ∙ k.0 in cc)
  says_the_same (policy.Redact p) (policy.Quota qt qw qc) h k = absurd (let e : Some kind.Redact ≡ Some kind.Quota = sym h.0 ∙ k.0 in cc)
  says_the_same (policy.Redact p) policy.Count h k = absurd (let e : Some kind.Redact ≡ Some kind.Count = sym h.0 ∙ k in cc)
  says_the_same (policy.Redact p) (policy.Redact q) h k = (texts_at (codes "clears") ms, h.1, k.1)

pub is_own : (all : Members) (shared own : Table) (ps : List NamedPolicy) (p : OwnPolicy) → Each (IsPolicyMeaning shared (tenant_tables all)) (policy_tables all) ps
    → IsOwnPolicyMeaning all own p → IsOwnPolicy shared ps own p
is_own all shared own ps p says h =
    let there = each_left (IsPolicyMeaning shared (tenant_tables all)) (policy_tables all) ps p.place h.entry says h.there in
    record {
      there = there.0.policy;
      found = ap (option_map (λ (x : NamedPolicy). x.policy)) there.1;
      same = says_the_same shared own (tenant_tables all) h.entry there.0.policy p.policy there.2.policy h.policy;
    }
