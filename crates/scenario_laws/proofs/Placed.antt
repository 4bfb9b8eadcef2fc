-- Policies that an application uses exist, as they judge on its connection, and have their sorts under the plan's
-- table.
use Rattle.std.proofs.Common.{◌≡◌, ℕ, ◌==◌, List, All, Contains, Option, Some, None, option_map, refl, sym, ap, ◌∙◌, bytes_eq, get_or}
use Rattle.std.specs.Prelude.{codes, slice_get}
use Rattle.std.proofs.lemmas.Bool.{eq-eqb, eqb-true}
use Rattle.std.proofs.lemmas.List.Elements.{All-contains}
use Rattle.std.proofs.lemmas.List.Quantifiers.{position-Some}
use Rattle.std.proofs.lemmas.Option.{same_Some, slice_get-get_or}
use Rattle.std.proofs.lemmas.Slice.Eq.{bytes_eq-Decides}
use Rattle.mrpc_table.specs.declared.table.Table.{Table}
use Rattle.engine_core.specs.declared.policy.Policy.{Policy}
use Rattle.engine_core.specs.declared.policy.Policy.TheVariants as policy
use Rattle.policy_declarations.specs.declared.declaration.NamedPolicy.{NamedPolicy}
use Rattle.run_plan.specs.Chains.{policy_at, policy_by}
use Rattle.run_plan.specs.Plans.{IsInbound, IsOwnPolicy}
use Rattle.run_plan.specs.declared.application.Application.{Application}
use Rattle.run_plan.specs.declared.application.OwnPolicy.{OwnPolicy}
use Rattle.run_plan.specs.declared.application.OwnSchema.{OwnSchema}
use Rattle.run_plan.specs.declared.plan.Plan.{Plan}
use Rattle.toml.specs.Data.{Members, no_members}
use Rattle.scenario_lines.specs.Programs.{Each}
use Rattle.scenario_toml.specs.Values.{text_at}
use Rattle.scenario.specs.Applications.{IsAppFault, policies_named_in, policy_tables, tenant_tables}
use Rattle.scenario.specs.Applications as against
use Rattle.scenario.specs.Keys.{entry_kind}
use Rattle.scenario.specs.Policies.{IsPolicyOfKind, IsPolicyMeaning, entry_name}
use Rattle.scenario.specs.Scenarios.{IsAppMeaning, IsUsed, IsOwnPolicyMeaning, IsOwnMeaning, IsOwnSchemaMeaning, by_app, policy_entry_index}
use Rattle.scenario.specs.declared.fault.ScenarioReason.{ScenarioReason}
use Rattle.scenario.specs.declared.fault.ScenarioReason.TheVariants.{OtherKind}
use Rattle.scenario.specs.declared.entry_words.PolicyKind.{PolicyKind}
use Rattle.scenario.specs.declared.entry_words.PolicyKind.TheVariants as kind
use Rattle.scenario_laws.proofs.Lists.{each_at, found_some, found_there, get_there, there_unmap}
use Rattle.scenario_laws.proofs.Sorts.{access, is_access_sort, same_sort, sort_of}

-- ---- entries of policies

-- if a name has an index, the entry there has the name
record IsPlaced (all : Members) (name : List ℕ) (place : ℕ) : Type 0 where
  entry : Members
  at : slice_get (policy_tables all) place ≡ Some entry
  named : entry_name entry ≡ name

is_placed : (all : Members) (name : List ℕ) (place : ℕ) → policy_entry_index all name ≡ Some place → IsPlaced all name place
is_placed all name place e =
    let h = position-Some (λ (ms : Members). bytes_eq (entry_name ms) name) (policy_tables all) place no_members e in
    record {
      entry = get_or (policy_tables all) place no_members;
      at = slice_get-get_or (policy_tables all) place no_members h.0;
      named = (bytes_eq-Decides (entry_name (get_or (policy_tables all) place no_members)) name).0 h.1;
    }

is_access_kind : (o : Option PolicyKind) → ((o ≡ Some kind.Access → ⊥) → ⊥) → o ≡ Some kind.Access
is_access_kind (Some kind.Access) h = refl
is_access_kind (Some kind.Rate) h = absurd (h (λ e. cc))
is_access_kind (Some kind.Quota) h = absurd (h (λ e. cc))
is_access_kind (Some kind.Count) h = absurd (h (λ e. cc))
is_access_kind (Some kind.Redact) h = absurd (h (λ e. cc))
is_access_kind None h = absurd (h (λ e. cc))

access_says : (T : Table) (tenants : List Members) (ms : Members) (p : Policy) → IsPolicyOfKind T tenants ms p → entry_kind ms ≡ Some kind.Access → sort_of p ≡ access
access_says T tenants ms (policy.Access p) h e = refl
access_says T tenants ms (policy.Rate r) h e = absurd (let no : Some kind.Rate ≡ Some kind.Access = sym h.0 ∙ e in cc)
access_says T tenants ms (policy.Quota t w c) h e = absurd (let no : Some kind.Quota ≡ Some kind.Access = sym h.0 ∙ e in cc)
access_says T tenants ms policy.Count h e = absurd (let no : Some kind.Count ≡ Some kind.Access = sym h ∙ e in cc)
access_says T tenants ms (policy.Redact p) h e = absurd (let no : Some kind.Redact ≡ Some kind.Access = sym h.0 ∙ e in cc)

-- a policy is at an index, and one of its sort judges there on the connection of an application
pub record IsHad (policies : List NamedPolicy) (own : Option OwnSchema) (place : ℕ) : Type 0 where
  pub p : NamedPolicy
  pub at : slice_get policies place ≡ Some p
  pub judge : Policy
  pub judges : policy_by policies own place ≡ Some judge
  pub sorts : sort_of p.policy ≡ sort_of judge

module _ (all : Members) (shared : Table) (policies : List NamedPolicy)
    (says : Each (IsPolicyMeaning shared (tenant_tables all)) (policy_tables all) policies)
    (own_is : (own : Table) (read : List OwnPolicy) → All (IsOwnPolicyMeaning all own) read → All (IsOwnPolicy shared policies own) read) where
  -- the policy at the index of a name has the name
  pub record IsNamedAt (name : List ℕ) (place : ℕ) : Type 0 where
    pub entry : Members
    pub at : slice_get (policy_tables all) place ≡ Some entry
    pub named : entry_name entry ≡ name
    pub p : NamedPolicy
    pub there : slice_get policies place ≡ Some p
    pub said : IsPolicyMeaning shared (tenant_tables all) entry p

  pub named_at : (name : List ℕ) (place : ℕ) → policy_entry_index all name ≡ Some place → IsNamedAt name place
  named_at name place e =
      let h = is_placed all name place e in
      let p = each_at (IsPolicyMeaning shared (tenant_tables all)) (policy_tables all) policies place h.entry says h.at in
      record { entry = h.entry; at = h.at; named = h.named; p = p.0; there = p.1; said = p.2 }

  own_had : (ms : Members) (text : List ℕ) (own : OwnSchema) (name : List ℕ) (place : ℕ) → IsOwnSchemaMeaning all ms text own → IsUsed all ms place
      → policy_entry_index all name ≡ Some place → IsHad policies (Some own) place
  own_had ms text own name place read used e =
      let in_list = there_unmap (λ (p : OwnPolicy). p.place) own.policies place ((read.used place).1 used) in
      let found = found_some (λ (p : OwnPolicy). p.place == place) own.policies in_list.0 in_list.1 (eq-eqb in_list.0.place place in_list.2) in
      let there = found_there (λ (p : OwnPolicy). p.place == place) own.policies found.0 found.1 in
      let is = All-contains (IsOwnPolicy shared policies own.table) own.policies found.0 (own_is own.table own.policies read.policies) there.0 in
      let at = named_at name place e in
      let same : policy_at policies place ≡ Some is.there = ap (policy_at policies) (sym (eqb-true found.0.place place there.1)) ∙ is.found in
      let one : at.p.policy ≡ is.there = same_Some at.p.policy is.there (sym (ap (option_map (λ (x : NamedPolicy). x.policy)) at.there) ∙ same) in
      record {
        p = at.p;
        at = at.there;
        judge = found.0.policy;
        judges = ap (option_map (λ (x : OwnPolicy). x.policy)) found.1;
        sorts = ap sort_of one ∙ same_sort shared is.there own.table found.0.policy is.same;
      }

  had_by : (ms : Members) (text : Option (List ℕ)) (own : Option OwnSchema) (name : List ℕ) (place : ℕ) → IsOwnMeaning all ms text own → IsUsed all ms place
      → policy_entry_index all name ≡ Some place → IsHad policies own place
  had_by ms None None name place read used e =
      let at = named_at name place e in
      record {
        p = at.p;
        at = at.there;
        judge = at.p.policy;
        judges = ap (option_map (λ (x : NamedPolicy). x.policy)) at.there;
        sorts = refl;
      }
  had_by ms (Some text) (Some own) name place read used e = own_had ms text own name place read used e
  had_by ms None (Some own) name place read used e = absurd read
  had_by ms (Some text) None name place read used e = absurd read

  pub is_had : (ms : Members) (app : Application) (name : List ℕ) (place : ℕ) → IsAppMeaning all ms app → IsUsed all ms place
      → policy_entry_index all name ≡ Some place → IsHad policies app.own place
  is_had ms app name place is used e = had_by ms (text_at (codes "schema") ms) app.own name place is.own used e

  -- ---- what judges deliveries

  pub inbound_by : (plan : Plan) (ms : Members) (app : Application) (before : List Members) → plan.declared.policies ≡ policies → IsAppMeaning all ms app
      → ((q : ScenarioReason) → IsAppFault all policies before ms q → ⊥) → (place : ℕ) (name : List ℕ)
      → text_at (codes "inbound") ms ≡ Some name → policy_entry_index all name ≡ Some place → Contains (policies_named_in ms) name → IsInbound plan app place
  inbound_by plan ms app before same is free place name text e named =
      let had = is_had ms app name place is (by_app name named e) e in
      let at = named_at name place e in
      let access_kind = is_access_kind (entry_kind at.entry) (λ other. free OtherKind (against.is_other at.entry
      (get_there (policy_tables all) place at.entry at.at) (text ∙ ap (λ (n : List ℕ). Some n) (sym at.named)) other refl)) in
      let one : had.p ≡ at.p = same_Some had.p at.p (sym had.at ∙ at.there) in
      let sorts = sym had.sorts ∙ ap (λ (x : NamedPolicy). sort_of x.policy) one ∙ access_says shared (tenant_tables all) at.entry at.p.policy at.said.policy access_kind in
      record {
        there = had.judge;
        found = ap (λ (ps : List NamedPolicy). policy_by ps app.own place) same ∙ had.judges;
        access = is_access_sort had.judge sorts;
      }
