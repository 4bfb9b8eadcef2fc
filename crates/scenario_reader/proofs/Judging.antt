-- The faults of an application in its policy for deliveries, in its links, and in its names.
use Rattle.std.proofs.Common.{◌≡◌, ℕ, ◌==◌, true, false, List, [], ◌∷◌, map, Contains, Option, Some, None, refl, sym, ap, ◌∙◌, subst, inl, inr}
use Rattle.std.specs.Bool.{Decides}
use Rattle.std.specs.Prelude.{option_and_then, slice_get}
use Rattle.std.specs.List.{list_any}
use Rattle.std.proofs.lemmas.Bool.{eq-eqb, eqb-true, not-true, not_from_false, or_cases, or_left, or_right}
use Rattle.std.proofs.lemmas.Option.{same_Some}
use Rattle.mrpc_table.specs.Valid.{AreDistinct}
use Rattle.mrpc_table.specs.declared.table.Table.{Table}
use Rattle.engine_core.specs.declared.policy.Policy.{Policy}
use Rattle.engine_core.specs.declared.policy.Policy.TheVariants as policy
use Rattle.policy_declarations.specs.Declarations.{Declared, policy_names, policy_index}
use Rattle.policy_declarations.specs.declared.declaration.NamedPolicy.{NamedPolicy}
use Rattle.toml.specs.Data.{Members}
use Rattle.scenario.specs.Applications.{entry_conn, entry_conns}
use Rattle.scenario.specs.Keys.{entry_kind}
use Rattle.scenario.specs.Policies.{IsPolicyOfKind, IsPolicyMeaning, entry_name}
use Rattle.scenario.specs.declared.entry_words.PolicyKind.{PolicyKind}
use Rattle.scenario.specs.declared.entry_words.PolicyKind.TheVariants as kind
use Rattle.scenario_lines.specs.Programs.{Each}
use Rattle.scenario_entries.specs.AppConnections.{IsAppConnectionOf, has_app_connection}
use Rattle.scenario_entries.specs.declared.link.AppConnection.{AppConnection}
use Rattle.scenario_reader.specs.Joining.{is_access, is_on_end, judges_no_access, is_not_inbound_policy}
use Rattle.scenario_reader.proofs.Lists.{each_at, each_map, each_of, none_in, there_cases, there_first, there_more}
use Rattle.scenario_reader.proofs.Naming as naming
use Rattle.scenario_reader.proofs.Telling.{get_there, named_found}

-- ---- numbers

pub on_end : (conn : ℕ) (ends : List ℕ) → Decides (is_on_end ends conn) (Contains ends conn)
on_end conn [] = (λ e. absurd cc, λ h. absurd (none_in conn h))
on_end conn (x ∷ xs) = (
  λ e. elim (or_cases (x == conn) (is_on_end xs conn) e) [
    | inl is ↦ subst (λ (m : ℕ). Contains (x ∷ xs) m) (eqb-true x conn is) (there_first x xs)
    | inr more ↦ there_more x xs conn ((on_end conn xs).0 more)
  ],
  λ h. elim (there_cases x xs conn h) [
    | inl is ↦ or_left (x == conn) _ (eq-eqb x conn is)
    | inr more ↦ or_right (x == conn) _ ((on_end conn xs).1 more)
  ],
)

pub any_equal : {X : Type 0} (f : X → ℕ) (n : ℕ) (xs : List X) → Decides (list_any (λ x. f x == n) xs) (Contains (map f xs) n)
any_equal f n [] = (λ e. absurd cc, λ h. absurd (none_in n h))
any_equal f n (x ∷ xs) = (
  λ e. elim (or_cases (f x == n) (list_any (λ x. f x == n) xs) e) [
    | inl is ↦ subst (λ (m : ℕ). Contains (f x ∷ map f xs) m) (eqb-true (f x) n is) (there_first (f x) (map f xs))
    | inr more ↦ there_more (f x) (map f xs) n ((any_equal f n xs).0 more)
  ],
  λ h. elim (there_cases (f x) (map f xs) n h) [
    | inl is ↦ or_left (f x == n) _ (eq-eqb (f x) n is)
    | inr more ↦ or_right (f x == n) _ ((any_equal f n xs).1 more)
  ],
)

pub port_there : (apps : List Members) (ports : List AppConnection) (n : ℕ) → Each IsAppConnectionOf apps ports → Decides (has_app_connection ports n) (Contains (entry_conns apps) n)
port_there apps ports n says =
    let same = each_map IsAppConnectionOf entry_conn (λ (p : AppConnection). p.conn) (λ x y r. sym r.conn) apps ports says in
    let d = any_equal (λ (p : AppConnection). p.conn) n ports in (
      λ e. subst (λ (ns : List ℕ). Contains ns n) (sym same) (d.0 e),
      λ h. d.1 (subst (λ (ns : List ℕ). Contains ns n) same h),
    )

-- ---- policies of another kind

no_kind : (k : PolicyKind) (ms : Members) → (k ≡ kind.Access → ⊥) → entry_kind ms ≡ Some k → entry_kind ms ≡ Some kind.Access → ⊥
no_kind k ms apart is same = apart (same_Some k kind.Access (sym is ∙ same))

other_kind : (T : Table) (tenants : List Members) (ms : Members) (p : Policy) → IsPolicyOfKind T tenants ms p → is_access p ≡ false
    → entry_kind ms ≡ Some kind.Access → ⊥
other_kind T tenants ms (policy.Access p) says e same = absurd cc
other_kind T tenants ms (policy.Rate r) says e same = no_kind kind.Rate ms (λ x. absurd cc) says.0 same
other_kind T tenants ms (policy.Quota t w c) says e same = no_kind kind.Quota ms (λ x. absurd cc) says.0 same
other_kind T tenants ms policy.Count says e same = no_kind kind.Count ms (λ x. absurd cc) says same
other_kind T tenants ms (policy.Redact p) says e same = no_kind kind.Redact ms (λ x. absurd cc) says.0 same

its_kind : (T : Table) (tenants : List Members) (ms : Members) (p : Policy) → IsPolicyOfKind T tenants ms p → (entry_kind ms ≡ Some kind.Access → ⊥)
    → is_access p ≡ false
its_kind T tenants ms (policy.Access p) says apart = absurd (apart says.0)
its_kind T tenants ms (policy.Rate r) says apart = refl
its_kind T tenants ms (policy.Quota t w c) says apart = refl
its_kind T tenants ms policy.Count says apart = refl
its_kind T tenants ms (policy.Redact p) says apart = refl

module _ (T : Table) (tenants entries : List Members) (d : Declared) (says : Each (IsPolicyMeaning T tenants) entries d.policies)
    (distinct : AreDistinct (policy_names d)) where
  -- a policy that isn't an access policy has the name
  pub record IsOther (inbound : Option (List ℕ)) : Type 0 where
    pub p : Members
    pub there : Contains entries p
    pub named : inbound ≡ Some (entry_name p)
    pub kind : entry_kind p ≡ Some kind.Access → ⊥

  no_access_by : (o : Option NamedPolicy) → judges_no_access o ≡ true → (p : NamedPolicy) × (o ≡ Some p) × (is_access p.policy ≡ false)
  no_access_by None e = absurd cc
  no_access_by (Some p) e = (p, refl, not-true (is_access p.policy) e)

  other_from : (inbound : Option (List ℕ)) → is_not_inbound_policy d (option_and_then (policy_index d) inbound) ≡ true → IsOther inbound
  other_from None e = absurd cc
  other_from (Some name) e = go (policy_index d name) refl e where
    go : (place : Option ℕ) → policy_index d name ≡ place → is_not_inbound_policy d place ≡ true → IsOther (Some name)
    go None is k = absurd cc
    go (Some place) is k =
        let one = no_access_by (slice_get d.policies place) k in
        let at = each_at (IsPolicyMeaning T tenants) entries d.policies place one.0 says one.1 in
        let found = naming.place_is (λ (q : NamedPolicy). q.name) name d.policies place is in
        let same : found.item ≡ one.0 = same_Some found.item one.0 (sym found.at ∙ one.1) in
        record {
          p = at.0;
          there = get_there entries place at.0 at.1;
          named = ap (λ (n : List ℕ). Some n) (sym found.same ∙ ap (λ (q : NamedPolicy). q.name) same ∙ at.2.name);
          kind = other_kind T tenants at.0 one.0.policy at.2.policy one.2;
        }

  other_by : (o : Option NamedPolicy) (p : NamedPolicy) → o ≡ Some p → is_access p.policy ≡ false → judges_no_access o ≡ true
  other_by o p is e = ap judges_no_access is ∙ not_from_false (is_access p.policy) e

  other_to : (inbound : Option (List ℕ)) → IsOther inbound → is_not_inbound_policy d (option_and_then (policy_index d) inbound) ≡ true
  other_to inbound h =
      let np = each_of (IsPolicyMeaning T tenants) entries d.policies h.p says h.there in
      let found = named_found d (entry_name h.p) np.0 distinct np.1 np.2.name in
      ap (λ (o : Option (List ℕ)). is_not_inbound_policy d (option_and_then (policy_index d) o)) h.named
      ∙ other_by (option_and_then (slice_get d.policies) (policy_index d (entry_name h.p))) np.0 found
      (its_kind T tenants h.p np.0.policy np.2.policy h.kind)

  pub other_decides : (inbound : Option (List ℕ)) → Decides (is_not_inbound_policy d (option_and_then (policy_index d) inbound)) (IsOther inbound)
  other_decides inbound = (other_from inbound, other_to inbound)
