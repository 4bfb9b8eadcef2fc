-- The first reasons of faults in tenants and policies are what the tests of the code return.
use Rattle.std.proofs.Common.{◌≡◌, ◌⊎◌, ◌↔◌, ℕ, ◌<◌, ◌≤◌, not, Bool, true, false, ◌&&◌, ◌||◌, List, [], ◌∷◌, length}
use Rattle.std.proofs.Common.{get_or, map, Contains, Option, Some, None, Result, Ok, Err, refl, sym, ap, ◌∙◌, subst}
use Rattle.std.proofs.Common.{inl, inr, arith, IsTrue}
use Rattle.std.specs.Bool.{Decides}
use Rattle.std.specs.Prelude.{nat_le, is_some, position, MatchOption, IfOk, IsOk}
use Rattle.std.specs.List.{list_all}
use Rattle.std.specs.Str.{bytes_eq}
use Rattle.std.proofs.lemmas.Bool.{and_parts, and_from, and_cases, or_cases, or_left, or_right, or_parts, leb-true}
use Rattle.std.proofs.lemmas.Bool.{leb-false, le-leb, not-true, not-false, not_from_false, not_from_true, both_ways}
use Rattle.std.proofs.lemmas.Bool.{cases_Bool, false_from_ne_true}
use Rattle.std.proofs.lemmas.Option.{get_or_from_slice_get, same_Some}
use Rattle.mrpc_table.specs.declared.memory.Memory.{Memory}
use Rattle.mrpc_table.specs.Names.{IsName, is_name_form, is_short}
use Rattle.mrpc_table.specs.declared.policy_lines.RuleReason.{RuleReason}
use Rattle.mrpc_table.specs.declared.table.Table.{Table}
use Rattle.engine_core.specs.declared.policy.Policy.{Policy}
use Rattle.engine_core.specs.declared.policy.Policy.TheVariants as policy
use Rattle.policy_declarations.specs.Declarations.{Declared, policy_names, policy_index, tenant_names, tenant_index}
use Rattle.policy_declarations.specs.declared.declaration.NamedPolicy.{NamedPolicy}
use Rattle.policy_declarations.specs.declared.declaration.Tenant.{Tenant}
use Rattle.toml.specs.Data.{Members}
use Rattle.scenario_lines.specs.Programs.{Each}
use Rattle.scenario_toml.specs.Values.{TheIntegerRange, has_keys, is_out, is_within_at, number_or_default}
use Rattle.scenario_entries.specs.Entries.{IsEntryRead}
use Rattle.scenario_entries.specs.FirstReasons.{IsLinesMeaning, IsLinesRead, first_head_reason, is_not_name, first_quota_reason, first_tenant_reason, quota_tenant}
use Rattle.scenario.specs.Keys.{cap, has_policy_keys, entry_kind, per, policy_ranges, tenant_keys}
use Rattle.scenario.specs.Policies.{IsPolicyOfKind, HasFaultyLine, IsPolicyFault, IsTenantFault, IsTenantMeaning, entry_name, entry_names}
use Rattle.scenario.specs.Policies as against
use Rattle.scenario.specs.Reasons.{IsSoFar, lower_ranked, reason_of_policy_line, scenario_reason_rank, reason_if}
use Rattle.scenario.specs.declared.fault.ScenarioReason.{ScenarioReason}
use Rattle.scenario.specs.declared.fault.ScenarioReason.TheVariants.{Key, Number, Name, Known, Unknown}
use Rattle.scenario.specs.declared.entry_words.PolicyKind.{PolicyKind}
use Rattle.scenario.specs.declared.entry_words.PolicyKind.TheVariants as kind
use Rattle.scenario_entries.proofs.FirstPolicyReason.{Either, Flag, flag, joined, none_flag, none_parts, same_reasons}
use Rattle.scenario_entries.proofs.PolicyLists.{each_at, each_length, each_map, none_in, position_map, there_cases, there_first, there_more}
use Rattle.scenario_entries.proofs.PolicyNaming as naming

-- ---- tests

pub no_form : (word : List ℕ) → Decides (is_not_name word) (IsName word → ⊥)
no_form word = (
  λ e name. both_ways (is_name_form word && is_short word) (not-true _ e) (and_from _ _ name.form (le-leb _ _ name.short)),
  λ none. not_from_false _ (false_from_ne_true _ (λ e. let both = and_parts _ _ e in none (record { form = both.0; short = leb-true _ _ both.1 }))),
)

-- the result of a test for a name
pub name_told : (word : List ℕ) (b : Bool) → IsTrue b ↔ IsName word → not b ≡ is_not_name word
name_told word true h = let name = h.0 refl in sym (not_from_true _ (and_from _ _ name.form (le-leb _ _ name.short)))
name_told word false h =
    sym (not_from_false _ (false_from_ne_true _ (λ e. let both = and_parts _ _ e in both_ways false refl (h.1 (record { form = both.0; short = leb-true _ _ both.1 })))))

absent : (b : Bool) → Decides (not b) (b ≡ false)
absent b = (λ e. not-true b e, λ e. not_from_false b e)

pub place_there : {X : Type 0} (f : X → List ℕ) (name : List ℕ) (xs : List X) (names : List (List ℕ)) → map f xs ≡ names
    → Decides (is_some (position (λ x. bytes_eq (f x) name) xs)) (Contains names name)
place_there f name xs names same = (
  λ e. subst (λ (ns : List (List ℕ)). Contains ns name) same (naming.there f name xs e),
  λ h. naming.found f name xs (subst (λ (ns : List (List ℕ)). Contains ns name) (sym same) h),
)

pub place_absent : {X : Type 0} (f : X → List ℕ) (name : List ℕ) (xs : List X) (names : List (List ℕ)) → map f xs ≡ names
    → Decides (not (is_some (position (λ x. bytes_eq (f x) name) xs))) (Contains names name → ⊥)
place_absent f name xs names same =
    let d = place_there f name xs names same in (
      λ e h. both_ways (is_some (position (λ x. bytes_eq (f x) name) xs)) (not-true _ e) (d.1 h),
      λ none. not_from_false _ (false_from_ne_true _ (λ e. none (d.0 e))),
    )

-- ---- tenants

many_tenants : (d : Declared) (before : List Members) (ms : Members) → length d.tenants ≡ length before
    → Decides (is_out ms per || nat_le 16 (length d.tenants)) ((is_out ms per ≡ true) ⊎ (16 ≤ length before))
many_tenants d before ms same = (
  λ e. elim (or_cases _ _ e) [
    | inl out ↦ inl out
    | inr many ↦ inr (let h = leb-true 16 (length d.tenants) many in omega (arith, h, same))
  ],
  λ h. elim h [
    | inl out ↦ or_left _ _ out
    | inr many ↦ or_right (is_out ms per) _ (le-leb 16 (length d.tenants) (omega (arith, many, same)))
  ],
)

pub tenants_named : (before : List Members) (d : Declared) → Each IsTenantMeaning before d.tenants → tenant_names d ≡ entry_names before
tenants_named before d says = sym (each_map IsTenantMeaning entry_name (λ t. t.name) (λ x y r. sym r.name) before d.tenants says)

module _ (before : List Members) (ms : Members) where
  abbrev no_keys : ScenarioReason → Type 0
  no_keys = Flag (has_keys tenant_keys ms ≡ false) Key

  abbrev too_large : ScenarioReason → Type 0
  too_large = Flag ((is_out ms per ≡ true) ⊎ (16 ≤ length before)) Number

  abbrev not_named : ScenarioReason → Type 0
  not_named = Flag (IsName (entry_name ms) → ⊥) Name

  abbrev is_there : ScenarioReason → Type 0
  is_there = Flag (Contains (entry_names before) (entry_name ms)) Known

  abbrev tenant_parts : ScenarioReason → Type 0
  tenant_parts = Either (Either (Either no_keys too_large) not_named) is_there

  from_parts : (q : ScenarioReason) → tenant_parts q → IsTenantFault before ms q
  from_parts q (inl (inl (inl h))) = against.wrong_keys h.0 h.1
  from_parts q (inl (inl (inr (inl out, is)))) = against.out_of_range out is
  from_parts q (inl (inl (inr (inr many, is)))) = against.too_many many is
  from_parts q (inl (inr h)) = against.no_name h.0 h.1
  from_parts q (inr h) = against.is_known h.0 h.1

  to_parts : (q : ScenarioReason) → IsTenantFault before ms q → tenant_parts q
  to_parts q (against.wrong_keys h is) = inl (inl (inl (h, is)))
  to_parts q (against.out_of_range h is) = inl (inl (inr (inl h, is)))
  to_parts q (against.too_many h is) = inl (inl (inr (inr h, is)))
  to_parts q (against.no_name h is) = inl (inr (h, is))
  to_parts q (against.is_known h is) = inr (h, is)

  pub tenant_is : (d : Declared) → Each IsTenantMeaning before d.tenants → IsSoFar (IsTenantFault before ms) (first_tenant_reason d ms)
  tenant_is d says =
      let keys = reason_if (not (has_keys tenant_keys ms)) Key in
      let large = reason_if (is_out ms per || nat_le 16 (length d.tenants)) Number in
      let named = reason_if (is_not_name (entry_name ms)) Name in
      let known = reason_if (is_some (tenant_index d (entry_name ms))) Known in
      same_reasons tenant_parts (IsTenantFault before ms) (first_tenant_reason d ms)
      (joined (Either (Either no_keys too_large) not_named) is_there (lower_ranked (lower_ranked keys large) named) known
      (joined (Either no_keys too_large) not_named (lower_ranked keys large) named
      (joined no_keys too_large keys large
      (flag (has_keys tenant_keys ms ≡ false) Key (not (has_keys tenant_keys ms)) (absent (has_keys tenant_keys ms)))
      (flag ((is_out ms per ≡ true) ⊎ (16 ≤ length before)) Number (is_out ms per || nat_le 16 (length d.tenants))
      (many_tenants d before ms (sym (each_length IsTenantMeaning before d.tenants says)))))
      (flag (IsName (entry_name ms) → ⊥) Name (is_not_name (entry_name ms)) (no_form (entry_name ms))))
      (flag (Contains (entry_names before) (entry_name ms)) Known (is_some (tenant_index d (entry_name ms)))
      (place_there (λ (t : Tenant). t.name) (entry_name ms) d.tenants (entry_names before) (tenants_named before d says))))
      from_parts to_parts

-- an entry without faults is a new tenant, and there is room for it
pub tenant_new : (d : Declared) (ms : Members) (t : Tenant) → first_tenant_reason d ms ≡ None → t.name ≡ entry_name ms
    → (tenant_index d t.name ≡ None) × (length d.tenants < 16)
tenant_new d ms t none name =
    let parts = none_parts _ _ none in
    let isnt = none_flag _ Known parts.1 in
    let large = none_flag _ Number (none_parts _ _ (none_parts _ _ parts.0).0).1 in
    let few = leb-false 16 (length d.tenants) (or_parts (is_out ms per) (nat_le 16 (length d.tenants)) large).1 in (
      naming.place_none (λ (u : Tenant). u.name) t.name d.tenants
          (λ h. both_ways _ isnt (naming.found (λ (u : Tenant). u.name) (entry_name ms) d.tenants (subst (λ (n : List ℕ). Contains (tenant_names d) n) name h))),
      few,
    )

-- ---- policies

pub all_within : (ms : Members) (ranges : List TheIntegerRange) → list_all (is_within_at ms) ranges ≡ true → (r : TheIntegerRange) → Contains ranges r
    → is_out ms r ≡ true → ⊥
all_within ms [] e r h out = none_in r h
all_within ms (x ∷ xs) e r h out =
    let both = and_parts (is_within_at ms x) (list_all (is_within_at ms) xs) e in
    elim (there_cases x xs r h) [
      | inl is ↦ both_ways (is_out ms x) (not-true _ both.0) (ap (is_out ms) is ∙ out)
      | inr more ↦ all_within ms xs both.1 r more out
    ]

pub one_out : (ms : Members) (ranges : List TheIntegerRange) → list_all (is_within_at ms) ranges ≡ false
    → (r : TheIntegerRange) × Contains ranges r × (is_out ms r ≡ true)
one_out ms [] e = absurd cc
one_out ms (x ∷ xs) e = elim (cases_Bool (is_out ms x)) [
  | inl out ↦ (x, there_first x xs, out)
  | inr fine ↦
      let rest : list_all (is_within_at ms) xs ≡ false =
      elim (and_cases (is_within_at ms x) (list_all (is_within_at ms) xs) e) [
        | inl bad ↦ absurd (both_ways (is_within_at ms x) bad (not_from_false _ fine))
        | inr rest ↦ rest
      ] in
      let more = one_out ms xs rest in
      (more.0, there_more x xs more.0 more.1, more.2)
]

pub policies_named : (T : Table) (tenants before : List Members) (d : Declared) → Each (against.IsPolicyMeaning T tenants) before d.policies
    → policy_names d ≡ entry_names before
policies_named T tenants before d says =
    sym (each_map (against.IsPolicyMeaning T tenants) entry_name (λ p. p.name) (λ x y r. sym r.name) before d.policies says)

abbrev pub lines_first : Result (Option Policy) RuleReason → Option ScenarioReason
lines_first (Ok lined) = None
lines_first (Err why) = Some (reason_of_policy_line why)

module _ (T : Table) (tenants before : List Members) (ms : Members) where
  module _ (k : PolicyKind) where
    abbrev out_of : ScenarioReason → Type 0
    out_of = Flag (list_all (is_within_at ms) (policy_ranges (Some k)) ≡ false) Number

    abbrev unnamed : ScenarioReason → Type 0
    unnamed = Flag (IsName (entry_name ms) → ⊥) Name

    abbrev taken : ScenarioReason → Type 0
    taken = Flag (Contains (entry_names before) (entry_name ms)) Known

    abbrev bad_name : ScenarioReason → Type 0
    bad_name = Flag (IsName (quota_tenant ms) → ⊥) Name

    abbrev no_such : ScenarioReason → Type 0
    no_such = Flag (Contains (entry_names tenants) (quota_tenant ms) → ⊥) Unknown

    abbrev of_quota : ScenarioReason → Type 0
    of_quota q = (k ≡ kind.Quota) × Either bad_name no_such q

    abbrev of_lines : ScenarioReason → Type 0
    of_lines q = (why : RuleReason) × HasFaultyLine (Some k) T ms why × (q ≡ reason_of_policy_line why)

    abbrev policy_parts : ScenarioReason → Type 0
    policy_parts = Either (Either (Either (Either out_of unnamed) taken) of_quota) of_lines

    module _ (is_kind : entry_kind ms ≡ Some k) (keys : has_policy_keys (Some k) ms ≡ true) where
      out_from : list_all (is_within_at ms) (policy_ranges (Some k)) ≡ false → (q : ScenarioReason) → q ≡ Number → IsPolicyFault T tenants before ms q
      out_from bad q is =
          let r = one_out ms (policy_ranges (Some k)) bad in
          against.out_of_range r.0 (subst (λ (o : Option PolicyKind). Contains (policy_ranges o) r.0) (sym is_kind) r.1) r.2 is

      from_policy : (q : ScenarioReason) → policy_parts q → IsPolicyFault T tenants before ms q
      from_policy q (inl (inl (inl (inl h)))) = out_from h.0 q h.1
      from_policy q (inl (inl (inl (inr h)))) = against.no_name h.0 h.1
      from_policy q (inl (inl (inr h))) = against.is_known h.0 h.1
      from_policy q (inl (inr (quota, inl h))) = against.no_tenant_name (is_kind ∙ ap (λ (x : PolicyKind). Some x) quota) h.0 h.1
      from_policy q (inl (inr (quota, inr h))) = against.no_tenant (is_kind ∙ ap (λ (x : PolicyKind). Some x) quota) h.0 h.1
      from_policy q (inr (why, fails, is)) = against.in_lines why (subst (λ (o : Option PolicyKind). HasFaultyLine o T ms why) (sym is_kind) fails) is

      to_policy : (q : ScenarioReason) → IsPolicyFault T tenants before ms q → policy_parts q
      to_policy q (against.wrong_keys h is) =
          absurd (both_ways (has_policy_keys (Some k) ms) (subst (λ (o : Option PolicyKind). has_policy_keys o ms ≡ false) is_kind h) keys)
      to_policy q (against.out_of_range r there out is) =
          inl (inl (inl (inl (
            false_from_ne_true _ (λ all. all_within ms (policy_ranges (Some k)) all r
                (subst (λ (o : Option PolicyKind). Contains (policy_ranges o) r) is_kind there) out),
            is,
          ))))
      to_policy q (against.no_name h is) = inl (inl (inl (inr (h, is))))
      to_policy q (against.no_tenant_name quota h is) = inl (inr (same_Some _ _ (sym is_kind ∙ quota), inl (h, is)))
      to_policy q (against.is_known h is) = inl (inl (inr (h, is)))
      to_policy q (against.no_tenant quota h is) = inl (inr (same_Some _ _ (sym is_kind ∙ quota), inr (h, is)))
      to_policy q (against.in_lines why fails is) = inr (why, subst (λ (o : Option PolicyKind). HasFaultyLine o T ms why) is_kind fails, is)

  quota_is : (k : PolicyKind) (d : Declared) → Each IsTenantMeaning tenants d.tenants → IsSoFar (of_quota k) (first_quota_reason k d ms)
  quota_is kind.Access d says = λ q h. absurd (let e = h.0 in cc)
  quota_is kind.Rate d says = λ q h. absurd (let e = h.0 in cc)
  quota_is kind.Count d says = λ q h. absurd (let e = h.0 in cc)
  quota_is kind.Redact d says = λ q h. absurd (let e = h.0 in cc)
  quota_is kind.Quota d says =
      let named = reason_if (is_not_name (quota_tenant ms)) Name in
      let there = reason_if (not (is_some (tenant_index d (quota_tenant ms)))) Unknown in
      same_reasons (Either (bad_name kind.Quota) (no_such kind.Quota)) (of_quota kind.Quota) (lower_ranked named there)
      (joined (bad_name kind.Quota) (no_such kind.Quota) named there
      (flag (IsName (quota_tenant ms) → ⊥) Name (is_not_name (quota_tenant ms)) (no_form (quota_tenant ms)))
      (flag (Contains (entry_names tenants) (quota_tenant ms) → ⊥) Unknown (not (is_some (tenant_index d (quota_tenant ms))))
      (place_absent (λ (t : Tenant). t.name) (quota_tenant ms) d.tenants (entry_names tenants) (tenants_named tenants d says))))
      (λ q h. (refl, h)) (λ q h. h.1)

  lines_is : (k : PolicyKind) (r : Result (Option Policy) RuleReason) → IsLinesRead k T ms r → IsSoFar (of_lines k) (lines_first r)
  lines_is k (Ok lined) h = λ q l. h.1 l.0 l.1
  lines_is k (Err why) h = record {
    stands = (why, h.0, refl);
    first = λ other l. (let e = ap scenario_reason_rank l.2 in let same = ap (λ (w : RuleReason). scenario_reason_rank (reason_of_policy_line w)) (h.1 l.0 l.1) in omega (arith, e, same));
  }

  head_is : (k : PolicyKind) (d : Declared) → Each IsTenantMeaning tenants d.tenants → policy_names d ≡ entry_names before
      → IsSoFar (Either (Either (Either (out_of k) (unnamed k)) (taken k)) (of_quota k)) (first_head_reason d k ms)
  head_is k d says names =
      let within = list_all (is_within_at ms) (policy_ranges (Some k)) in
      let large = reason_if (not within) Number in
      let named = reason_if (is_not_name (entry_name ms)) Name in
      let known = reason_if (is_some (policy_index d (entry_name ms))) Known in
      joined (Either (Either (out_of k) (unnamed k)) (taken k)) (of_quota k) (lower_ranked (lower_ranked large named) known) (first_quota_reason k d ms)
      (joined (Either (out_of k) (unnamed k)) (taken k) (lower_ranked large named) known
      (joined (out_of k) (unnamed k) large named
      (flag (within ≡ false) Number (not within) (absent within))
      (flag (IsName (entry_name ms) → ⊥) Name (is_not_name (entry_name ms)) (no_form (entry_name ms))))
      (flag (Contains (entry_names before) (entry_name ms)) Known (is_some (policy_index d (entry_name ms)))
      (place_there (λ (p : NamedPolicy). p.name) (entry_name ms) d.policies (entry_names before) names)))
      (quota_is k d says)

  pub policy_is : (k : PolicyKind) → entry_kind ms ≡ Some k → has_policy_keys (Some k) ms ≡ true → (d : Declared)
      → Each IsTenantMeaning tenants d.tenants → policy_names d ≡ entry_names before → (r : Result (Option Policy) RuleReason)
      → IsLinesRead k T ms r → IsSoFar (IsPolicyFault T tenants before ms) (lower_ranked (first_head_reason d k ms) (lines_first r))
  policy_is k is_kind keys d says names r read =
      same_reasons (policy_parts k) (IsPolicyFault T tenants before ms) (lower_ranked (first_head_reason d k ms) (lines_first r))
      (joined (Either (Either (Either (out_of k) (unnamed k)) (taken k)) (of_quota k)) (of_lines k) (first_head_reason d k ms) (lines_first r)
      (head_is k d says names) (lines_is k r read))
      (from_policy k is_kind keys) (to_policy k is_kind keys)

-- ---- what policies mean

module _ (T : Table) (tenants : List Members) (ms : Members) (Q : Type 0) where
  pub access_says : (lined : Option Policy) → entry_kind ms ≡ Some kind.Access → IsLinesMeaning kind.Access T ms lined → MatchOption lined Q (IsPolicyOfKind T tenants ms)
  access_says None e h = absurd h
  access_says (Some (policy.Access p)) e h = (e, h)
  access_says (Some (policy.Rate r)) e h = absurd h
  access_says (Some (policy.Quota t w c)) e h = absurd h
  access_says (Some policy.Count) e h = absurd h
  access_says (Some (policy.Redact p)) e h = absurd h

  pub redact_says : (lined : Option Policy) → entry_kind ms ≡ Some kind.Redact → IsLinesMeaning kind.Redact T ms lined → MatchOption lined Q (IsPolicyOfKind T tenants ms)
  redact_says None e h = absurd h
  redact_says (Some (policy.Access p)) e h = absurd h
  redact_says (Some (policy.Rate r)) e h = absurd h
  redact_says (Some (policy.Quota t w c)) e h = absurd h
  redact_says (Some policy.Count) e h = absurd h
  redact_says (Some (policy.Redact p)) e h = (e, h)

-- a tenant found among the declared ones has the same index among the entries
pub tenant_at : (tenants : List Members) (ts : List Tenant) (word : List ℕ) (i : ℕ) → Each IsTenantMeaning tenants ts
    → position (λ t. bytes_eq t.name word) ts ≡ Some i → position (λ t. bytes_eq (entry_name t) word) tenants ≡ Some i
tenant_at tenants ts word i says found =
    position_map entry_name (λ n. bytes_eq n word) tenants
    ∙ ap (position (λ n. bytes_eq n word)) (each_map IsTenantMeaning entry_name (λ t. t.name) (λ x y r. sym r.name) tenants ts says)
    ∙ sym (position_map (λ (t : Tenant). t.name) (λ n. bytes_eq n word) ts) ∙ found

-- a policy without faults is new
pub policy_new : (d : Declared) (k : PolicyKind) (ms : Members) → first_head_reason d k ms ≡ None → policy_index d (entry_name ms) ≡ None
policy_new d k ms none =
    let isnt = none_flag (is_some (policy_index d (entry_name ms))) Known (none_parts _ _ (none_parts _ _ none).0).1 in
    naming.place_none (λ (p : NamedPolicy). p.name) (entry_name ms) d.policies
    (λ h. both_ways _ isnt (naming.found (λ (p : NamedPolicy). p.name) (entry_name ms) d.policies h))

-- and its tenant is declared
pub tenant_found : (d : Declared) (ms : Members) → first_head_reason d kind.Quota ms ≡ None → tenant_index d (quota_tenant ms) ≡ None → ⊥
tenant_found d ms none absent =
    let isnt = none_flag (not (is_some (tenant_index d (quota_tenant ms)))) Unknown (none_parts _ _ (none_parts _ _ none).1).1 in
    both_ways (is_some (tenant_index d (quota_tenant ms))) (ap is_some absent) (not-false _ isnt)

-- a quota whose tenant is found
pub quota_says : (T : Table) (tenants : List Members) (ms : Members) (ts : List Tenant) (i window most : ℕ) → entry_kind ms ≡ Some kind.Quota
    → Each IsTenantMeaning tenants ts → position (λ t. bytes_eq t.name (quota_tenant ms)) ts ≡ Some i → (d : Tenant) → window ≡ (get_or ts i d).per
    → most ≡ number_or_default cap ms → IsPolicyOfKind T tenants ms (policy.Quota i window most)
quota_says T tenants ms ts i window most is says found d of_tenant of_cap =
    let here = naming.place_is (λ (t : Tenant). t.name) (quota_tenant ms) ts i found in
    let entry = each_at IsTenantMeaning tenants ts i here.item says here.at in (
      is,
      tenant_at tenants ts (quota_tenant ms) i says found,
      (entry.0, entry.1, of_tenant ∙ ap (λ (t : Tenant). t.per) (get_or_from_slice_get ts i here.item d here.at) ∙ entry.2.per),
      of_cap,
    )

pub none_more : (o : Option Policy) (P Q : Type 0) (R : Policy → Type 0) → (P → Q) → MatchOption o P R → MatchOption o Q R
none_more None P Q R f h = f h
none_more (Some p) P Q R f h = h

pub earlier_none : (x : Option ScenarioReason) → lower_ranked x None ≡ x
earlier_none None = refl
earlier_none (Some q) = refl

-- the named policy, if it has no fault
pub named_new : (d : Declared) (ms : Members) (r : Result (Result NamedPolicy ScenarioReason) Memory) → IfOk r (λ x. IfOk x (λ p. p.name ≡ entry_name ms))
    → policy_index d (entry_name ms) ≡ None → IfOk r (λ x. IfOk x (λ p. policy_index d p.name ≡ None))
named_new d ms (Ok (Ok p)) name none = ap (policy_index d) name ∙ none
named_new d ms (Ok (Err q)) name none = tt
named_new d ms (Err m) name none = tt

pub named_read : (T : Table) (tenants before : List Members) (ms : Members) (r : Result (Result NamedPolicy ScenarioReason) Memory)
    → ((q : ScenarioReason) → IsPolicyFault T tenants before ms q → ⊥)
    → IfOk r (λ x. IfOk x (against.IsPolicyMeaning T tenants ms) × IsOk x)
    → IfOk r (IsEntryRead (IsPolicyFault T tenants before ms) (against.IsPolicyMeaning T tenants ms))
named_read T tenants before ms (Ok (Ok p)) free h = (free, h.0)
named_read T tenants before ms (Ok (Err q)) free h = absurd (let e : false ≡ true = h.1 in cc)
named_read T tenants before ms (Err m) free h = tt
