-- The policies of an application's own schema are one list: their indices are unique, and so is the policy at each.
use Rattle.std.proofs.Common.{◌≡◌, ℕ, ◌<◌, List, [], ◌∷◌, map, Contains, Option, Some, None, refl, sym, ap, ◌∙◌, subst, inl, inr, arith}
use Rattle.std.specs.Prelude.{slice_get}
use Rattle.std.proofs.lemmas.List.Elements.{All-contains}
use Rattle.std.proofs.lemmas.Option.{same_Some}
use Rattle.mrpc_table.specs.Valid.{IsAscendingBy}
use Rattle.mrpc_table.specs.declared.table.Table.{Table}
use Rattle.engine_core.specs.declared.policy.Policy.{Policy}
use Rattle.policy_declarations.specs.declared.declaration.NamedPolicy.{NamedPolicy}
use Rattle.run_plan.specs.declared.application.OwnPolicy.{OwnPolicy}
use Rattle.run_plan.specs.declared.application.OwnSchema.{OwnSchema}
use Rattle.toml.specs.Data.{Members}
use Rattle.scenario_lines.specs.Programs.{Each}
use Rattle.scenario.specs.Applications.{HasTable, policy_tables, tenant_tables}
use Rattle.scenario.specs.Policies.{IsPolicyOfKind, IsPolicyMeaning, entry_name}
use Rattle.scenario.specs.Scenarios.{IsOwnPolicyMeaning, IsOwnMeaning, IsOwnSchemaMeaning}
use Rattle.scenario_laws.proofs.Lists.{none_in, there_cases, there_first, there_more}

abbrev pub OneTable : Type 0
OneTable = (text : List ℕ) (T U : Table) → HasTable text T → HasTable text U → T ≡ U

abbrev pub OneDeclaration : Type 0
OneDeclaration =
    (T : Table) (tenants entries : List Members) (policies others : List NamedPolicy) → Each (IsPolicyMeaning T tenants) entries policies
    → Each (IsPolicyMeaning T tenants) entries others → policies ≡ others

-- ---- indices

abbrev Ascend : List OwnPolicy → Type 0
Ascend ps = IsAscendingBy (λ p q. p.place < q.place) ps

abbrev places : List OwnPolicy → List ℕ
places ps = map (λ p. p.place) ps

above : (p : OwnPolicy) (ps : List OwnPolicy) → Ascend (p ∷ ps) → (n : ℕ) → Contains (places ps) n → p.place < n
above p [] a n h = absurd (none_in n h)
above p (q ∷ ps) a n h = elim (there_cases q.place (places ps) n h) [
  | inl same ↦ (let first = a.0 in omega (arith, first, same))
  | inr more ↦ (let first = a.0 in let later = above q ps a.1 n more in omega (arith, first, later))
]

behind : (p : OwnPolicy) (ps : List OwnPolicy) → Ascend (p ∷ ps) → Ascend ps
behind p [] a = tt
behind p (q ∷ ps) a = a.1

-- ---- policies

module _ (declaration : OneDeclaration) (all : Members) (own : Table) where
  abbrev named : Members → Policy → NamedPolicy
  named entry p = record { name = entry_name entry; policy = p }

  kind_one : (entry : Members) (p q : Policy) → IsPolicyOfKind own (tenant_tables all) entry p → IsPolicyOfKind own (tenant_tables all) entry q → p ≡ q
  kind_one entry p q h k =
      let lists = declaration own (tenant_tables all) (entry ∷ []) (named entry p ∷ []) (named entry q ∷ [])
      (record { name = refl; policy = h }, tt) (record { name = refl; policy = k }, tt) in
      let same : named entry p ≡ named entry q = cc in
      ap (λ (x : NamedPolicy). x.policy) same

  policy_one : (p q : OwnPolicy) → IsOwnPolicyMeaning all own p → IsOwnPolicyMeaning all own q → p.place ≡ q.place → p ≡ q
  policy_one p q h k place =
      let entry : h.entry ≡ k.entry = same_Some h.entry k.entry (sym h.there ∙ ap (slice_get (policy_tables all)) place ∙ k.there) in
      let policy = kind_one k.entry p.policy q.policy (subst (λ (m : Members). IsPolicyOfKind own (tenant_tables all) m p.policy) entry h.policy) k.policy in
      let made : ℕ → Policy → OwnPolicy = λ n x. record { place = n; policy = x } in
      ap (λ (n : ℕ). made n p.policy) place ∙ ap (made q.place) policy

  first_place : (p q : OwnPolicy) (ps qs : List OwnPolicy) → Ascend (p ∷ ps) → Ascend (q ∷ qs) → Contains (places (q ∷ qs)) p.place
      → Contains (places (p ∷ ps)) q.place → p.place ≡ q.place
  first_place p q ps qs a b to from = elim (there_cases q.place (places qs) p.place to) [
    | inl same ↦ sym same
    | inr more ↦ elim (there_cases p.place (places ps) q.place from) [
      | inl same ↦ same
      | inr less ↦ (let one = above q qs b p.place more in let other = above p ps a q.place less in absurd (omega (arith, one, other)))
    ]
  ]

  same_owns : (ps qs : List OwnPolicy) → Ascend ps → Ascend qs → ((n : ℕ) → Contains (places ps) n → Contains (places qs) n)
      → ((n : ℕ) → Contains (places qs) n → Contains (places ps) n) → ((p : OwnPolicy) → Contains ps p → IsOwnPolicyMeaning all own p)
      → ((q : OwnPolicy) → Contains qs q → IsOwnPolicyMeaning all own q) → ps ≡ qs
  same_owns [] [] a b to from h k = refl
  same_owns [] (q ∷ qs) a b to from h k = absurd (none_in q.place (from q.place (there_first q.place (places qs))))
  same_owns (p ∷ ps) [] a b to from h k = absurd (none_in p.place (to p.place (there_first p.place (places ps))))
  same_owns (p ∷ ps) (q ∷ qs) a b to from h k =
      let place = first_place p q ps qs a b (to p.place (there_first p.place (places ps))) (from q.place (there_first q.place (places qs))) in
      let rest = same_owns ps qs (behind p ps a) (behind q qs b)
      (λ n there. elim (there_cases q.place (places qs) n (to n (there_more p.place (places ps) n there))) [
        | inl same ↦ (let past = above p ps a n there in absurd (omega (arith, past, place, same)))
        | inr more ↦ more
      ])
      (λ n there. elim (there_cases p.place (places ps) n (from n (there_more q.place (places qs) n there))) [
        | inl same ↦ (let past = above q qs b n there in absurd (omega (arith, past, place, same)))
        | inr more ↦ more
      ])
      (λ x there. h x (there_more p ps x there))
      (λ x there. k x (there_more q qs x there)) in
      ap (λ (x : OwnPolicy). x ∷ ps) (policy_one p q (h p (there_first p ps)) (k q (there_first q qs)) place) ∙ ap (λ (xs : List OwnPolicy). q ∷ xs) rest

-- ---- schemas

module _ (table : OneTable) (declaration : OneDeclaration) (all ms : Members) where
  schema_one : (text : List ℕ) (a b : OwnSchema) → IsOwnSchemaMeaning all ms text a → IsOwnSchemaMeaning all ms text b → a ≡ b
  schema_one text a b h k =
      let tables = table text a.table b.table h.table k.table in
      let policies = same_owns declaration all b.table a.policies b.policies h.ascend k.ascend
      (λ n there. (k.used n).1 ((h.used n).0 there))
      (λ n there. (h.used n).1 ((k.used n).0 there))
      (λ p there. subst (λ (T : Table). IsOwnPolicyMeaning all T p) tables (All-contains (IsOwnPolicyMeaning all a.table) a.policies p h.policies there))
      (λ p there. All-contains (IsOwnPolicyMeaning all b.table) b.policies p k.policies there) in
      let made : Table → List OwnPolicy → OwnSchema = λ T ps. record { table = T; policies = ps } in
      ap (λ (T : Table). made T a.policies) tables ∙ ap (made b.table) policies

  pub own_one : (text : Option (List ℕ)) (a b : Option OwnSchema) → IsOwnMeaning all ms text a → IsOwnMeaning all ms text b → a ≡ b
  own_one None None None h k = refl
  own_one None None (Some b) h k = absurd k
  own_one None (Some a) b h k = absurd h
  own_one (Some text) None b h k = absurd h
  own_one (Some text) (Some a) None h k = absurd k
  own_one (Some text) (Some a) (Some b) h k = ap (λ (x : OwnSchema). Some x) (schema_one text a b h k)
