-- The faults of a whole scenario, list by list.
use Rattle.std.proofs.Common.{◌≡◌, nat_lt, ℕ, ◌+◌, ◌<◌, List, [], ◌∷◌, ◌++◌, length, refl, sym, ap, ◌∙◌, subst, inl, inr, arith}
use Rattle.std.proofs.lemmas.Bool.{cases_Bool, ltb-false, ltb-true}
use Rattle.mrpc_table.specs.declared.table.Table.{Table}
use Rattle.policy_declarations.specs.declared.declaration.NamedPolicy.{NamedPolicy}
use Rattle.toml.specs.Data.{Members}
use Rattle.scenario.specs.Applications.{IsAppFault, HasTable, IsLinkFault, app_tables, link_tables, operator_tables, policy_tables, tenant_tables}
use Rattle.scenario.specs.Operators.{IsOperatorFault}
use Rattle.scenario.specs.Policies.{IsPolicyFault, IsTenantFault}
use Rattle.scenario.specs.Reasons.{IsFirstScenarioReason, list_of_entry, number_of_entry, scenario_reason_rank}
use Rattle.scenario.specs.Scenarios.{AreDeclared, IsFaultOfEntry, IsEntryBefore, IsFirstFaultyEntry, IsEntryAt, IsTopKeyFault, schema_of}
use Rattle.scenario.specs.Scenarios as whole
use Rattle.scenario.specs.declared.fault.FaultyEntry.{FaultyEntry}
use Rattle.scenario.specs.declared.fault.FaultyEntry.TheVariants as entry
use Rattle.scenario.specs.declared.fault.ScenarioFault.{ScenarioFault}
use Rattle.scenario.specs.declared.fault.ScenarioFault.TheVariants as fault
use Rattle.scenario.specs.declared.fault.ScenarioReason.{ScenarioReason}
use Rattle.scenario_entries.specs.Entries.{AreFaultFree, IsListFault}
use Rattle.scenario_reader.specs.TopLevel.{IsFaultFreeBefore, IsFirstFaultOfScenario, IsTopFault}

-- ---- lists

module _ {X : Type 0} where
  split_same : (before others : List X) (x y : X) (back rest : List X) → before ++ x ∷ back ≡ others ++ y ∷ rest → length before ≡ length others
      → (before ≡ others) × (x ≡ y)
  split_same [] [] x y back rest e n = (refl, cc)
  split_same [] (o ∷ others) x y back rest e n = absurd (omega (arith, n))
  split_same (b ∷ before) [] x y back rest e n = absurd (omega (arith, n))
  split_same (b ∷ before) (o ∷ others) x y back rest e n =
      let heads : b ≡ o = cc in
      let tails : before ++ x ∷ back ≡ others ++ y ∷ rest = cc in
      let r = split_same before others x y back rest tails (omega (arith, n)) in
      (ap (λ (z : X). z ∷ before) heads ∙ ap (λ (zs : List X). o ∷ zs) r.0, r.1)

  split_before : (before others : List X) (x y : X) (back rest : List X) → before ++ x ∷ back ≡ others ++ y ∷ rest → length before < length others
      → (more : List X) × (others ≡ before ++ x ∷ more)
  split_before [] [] x y back rest e n = absurd (omega (arith, n))
  split_before [] (o ∷ others) x y back rest e n = (others, ap (λ (z : X). z ∷ others) (let same : o ≡ x = cc in same))
  split_before (b ∷ before) [] x y back rest e n = absurd (omega (arith, n))
  split_before (b ∷ before) (o ∷ others) x y back rest e n =
      let heads : o ≡ b = cc in
      let tails : before ++ x ∷ back ≡ others ++ y ∷ rest = cc in
      let r = split_before before others x y back rest tails (omega (arith, n)) in
      (r.0, ap (λ (z : X). z ∷ others) heads ∙ ap (λ (zs : List X). b ∷ zs) r.1)

-- two entries with one number are equal, and one with a lesser number precedes the other
same_place : (entries before others : List Members) (x y : Members) (n : ℕ) → IsEntryAt entries before x n → IsEntryAt entries others y n
    → (before ≡ others) × (x ≡ y)
same_place entries before others x y n a b =
    let i = a.is_number in let j = b.is_number in
    split_same before others x y a.back b.back (sym a.whole ∙ b.whole) (omega (arith, i, j))

stands_before : (entries before others : List Members) (x y : Members) (m n : ℕ) → IsEntryAt entries before x m → IsEntryAt entries others y n
    → m < n → IsEntryAt others before x m
stands_before entries before others x y m n a b less =
    let i = a.is_number in let j = b.is_number in
    let r = split_before before others x y a.back b.back (sym a.whole ∙ b.whole) (omega (arith, i, j, less)) in
    record { back = r.0; whole = r.1; is_number = a.is_number }

-- ---- one list of entries

module _ (all : Members) (list : ℕ) (place : ℕ → FaultyEntry) (entries : List Members) (Against : List Members → Members → ScenarioReason → Type 0)
    (of_list : (n : ℕ) → list_of_entry (place n) ≡ list) (of_number : (n : ℕ) → number_of_entry (place n) ≡ n)
    (from : (before : List Members) (ms : Members) (n : ℕ) (q : ScenarioReason) → IsEntryAt entries before ms n → Against before ms q
    → IsFaultOfEntry all (place n) q)
    (to : (at : FaultyEntry) (q : ScenarioReason) → list_of_entry at ≡ list → IsFaultOfEntry all at q
    → (before : List Members) × (ms : Members) × IsEntryAt entries before ms (number_of_entry at) × Against before ms q) where
  pub list_free : IsFaultFreeBefore all list → AreFaultFree Against entries → IsFaultFreeBefore all (list + 1)
  list_free below free at q less h = elim (cases_Bool (nat_lt (list_of_entry at) list)) [
    | inl e ↦ below at q (ltb-true (list_of_entry at) list e) h
    | inr e ↦
        let m = ltb-false (list_of_entry at) list e in
        let same : list_of_entry at ≡ list = omega (arith, m, less) in
        let s = to at q same h in
        free s.0 s.1 (number_of_entry at) q s.2 s.3
  ]

  pub list_fault : IsFaultFreeBefore all list → (f : ScenarioFault) → IsListFault place Against entries f → IsFirstFaultOfScenario all f
  list_fault below fault.Memory h = tt
  list_fault below (fault.At at q) (n, is, first) =
      subst (λ (e : FaultyEntry). IsFirstFaultyEntry all e q) (sym is) (record {
        stands = from first.before first.ms n q first.stands first.first.stands;
        first_entry = earlier_entry;
        first_reason = earlier_reason;
      })
    where
      earlier_entry : (other : FaultyEntry) (r : ScenarioReason) → IsEntryBefore other (place n) → IsFaultOfEntry all other r → ⊥
      earlier_entry other r (inl less) h = below other r (let l = of_list n in omega (arith, less, l)) h
      earlier_entry other r (inr (same, less)) h =
          let s = to other r (same ∙ of_list n) h in
          let m = of_number n in
          first.free s.0 s.1 (number_of_entry other) r
          (stands_before entries s.0 first.before s.1 first.ms (number_of_entry other) n s.2 first.stands (omega (arith, less, m))) s.3

      earlier_reason : (r : ScenarioReason) → scenario_reason_rank r < scenario_reason_rank q → IsFaultOfEntry all (place n) r → ⊥
      earlier_reason r less h =
          let s = to (place n) r (of_list n) h in
          let m = of_number n in
          let both = same_place entries s.0 first.before s.1 first.ms n (subst (λ (k : ℕ). IsEntryAt entries s.0 s.1 k) m s.2) first.stands in
          let here = subst (λ (xs : List Members). Against xs first.ms r) both.0 (subst (λ (x : Members). Against s.0 x r) both.1 s.3) in
          let low = first.first.first r here in
          absurd (omega (arith, low, less))

-- ---- the top table

pub top_free : (all : Members) → ((q : ScenarioReason) → IsTopKeyFault all q → ⊥) → IsFaultFreeBefore all 1
top_free all none at q less (whole.top is h) = none q h
top_free all none at q less (whole.tenant before ms n is stands h) = absurd (let e = ap list_of_entry is in omega (arith, e, less))
top_free all none at q less (whole.policy before ms n T is stands has h) = absurd (let e = ap list_of_entry is in omega (arith, e, less))
top_free all none at q less (whole.app before ms n d is stands has h) = absurd (let e = ap list_of_entry is in omega (arith, e, less))
top_free all none at q less (whole.link before ms n is stands h) = absurd (let e = ap list_of_entry is in omega (arith, e, less))
top_free all none at q less (whole.operator before ms n d is stands has h) = absurd (let e = ap list_of_entry is in omega (arith, e, less))

top_first : (all : Members) (q : ScenarioReason) → IsFirstScenarioReason (IsTopKeyFault all) q → IsFirstFaultyEntry all entry.Top q
top_first all q first = record { stands = whole.top refl first.stands; first_entry = none_before; first_reason = none_lower } where
  none_before : (other : FaultyEntry) (r : ScenarioReason) → IsEntryBefore other entry.Top → IsFaultOfEntry all other r → ⊥
  none_before other r (inl less) h = absurd (omega (arith, less))
  none_before other r (inr (same, less)) h = absurd (omega (arith, less))

  none_lower : (r : ScenarioReason) → scenario_reason_rank r < scenario_reason_rank q → IsFaultOfEntry all entry.Top r → ⊥
  none_lower r less (whole.top is h) = (let low = first.first r h in absurd (omega (arith, low, less)))
  none_lower r less (whole.tenant before ms n is stands h) = absurd (let e = ap list_of_entry is in omega (arith, e))
  none_lower r less (whole.policy before ms n T is stands has h) = absurd (let e = ap list_of_entry is in omega (arith, e))
  none_lower r less (whole.app before ms n d is stands has h) = absurd (let e = ap list_of_entry is in omega (arith, e))
  none_lower r less (whole.link before ms n is stands h) = absurd (let e = ap list_of_entry is in omega (arith, e))
  none_lower r less (whole.operator before ms n d is stands has h) = absurd (let e = ap list_of_entry is in omega (arith, e))

pub top_fault : (all : Members) (f : ScenarioFault) → IsTopFault all f → IsFirstFaultOfScenario all f
top_fault all fault.Memory h = tt
top_fault all (fault.At at q) (is, first) = subst (λ (e : FaultyEntry). IsFirstFaultyEntry all e q) (sym is) (top_first all q first)

-- ---- the lists

module _ (all : Members) where
  tenant_to : (at : FaultyEntry) (q : ScenarioReason) → list_of_entry at ≡ 1 → IsFaultOfEntry all at q
      → (before : List Members) × (ms : Members) × IsEntryAt (tenant_tables all) before ms (number_of_entry at) × IsTenantFault before ms q
  tenant_to at q l (whole.top is h) = absurd (let e = ap list_of_entry is in omega (arith, e, l))
  tenant_to at q l (whole.tenant before ms n is stands h) =
      (before, ms, subst (λ (m : ℕ). IsEntryAt (tenant_tables all) before ms m) (sym (ap number_of_entry is)) stands, h)
  tenant_to at q l (whole.policy before ms n T is stands has h) = absurd (let e = ap list_of_entry is in omega (arith, e, l))
  tenant_to at q l (whole.app before ms n d is stands has h) = absurd (let e = ap list_of_entry is in omega (arith, e, l))
  tenant_to at q l (whole.link before ms n is stands h) = absurd (let e = ap list_of_entry is in omega (arith, e, l))
  tenant_to at q l (whole.operator before ms n d is stands has h) = absurd (let e = ap list_of_entry is in omega (arith, e, l))

  pub tenants_free : IsFaultFreeBefore all 1 → AreFaultFree IsTenantFault (tenant_tables all) → IsFaultFreeBefore all 2
  tenants_free = list_free all 1 (λ n. entry.Tenant n) (tenant_tables all) IsTenantFault (λ n. refl) (λ n. refl)
      (λ before ms n q stands h. whole.tenant before ms n refl stands h) tenant_to

  pub tenants_fault : IsFaultFreeBefore all 1 → (f : ScenarioFault) → IsListFault (λ n. entry.Tenant n) IsTenantFault (tenant_tables all) f → IsFirstFaultOfScenario all f
  tenants_fault = list_fault all 1 (λ n. entry.Tenant n) (tenant_tables all) IsTenantFault (λ n. refl) (λ n. refl)
      (λ before ms n q stands h. whole.tenant before ms n refl stands h) tenant_to

  link_to : (at : FaultyEntry) (q : ScenarioReason) → list_of_entry at ≡ 4 → IsFaultOfEntry all at q
      → (before : List Members) × (ms : Members) × IsEntryAt (link_tables all) before ms (number_of_entry at) × IsLinkFault all before ms q
  link_to at q l (whole.top is h) = absurd (let e = ap list_of_entry is in omega (arith, e, l))
  link_to at q l (whole.tenant before ms n is stands h) = absurd (let e = ap list_of_entry is in omega (arith, e, l))
  link_to at q l (whole.policy before ms n T is stands has h) = absurd (let e = ap list_of_entry is in omega (arith, e, l))
  link_to at q l (whole.app before ms n d is stands has h) = absurd (let e = ap list_of_entry is in omega (arith, e, l))
  link_to at q l (whole.link before ms n is stands h) =
      (before, ms, subst (λ (m : ℕ). IsEntryAt (link_tables all) before ms m) (sym (ap number_of_entry is)) stands, h)
  link_to at q l (whole.operator before ms n d is stands has h) = absurd (let e = ap list_of_entry is in omega (arith, e, l))

  pub links_free : IsFaultFreeBefore all 4 → AreFaultFree (IsLinkFault all) (link_tables all) → IsFaultFreeBefore all 5
  links_free = list_free all 4 (λ n. entry.Link n) (link_tables all) (IsLinkFault all) (λ n. refl) (λ n. refl)
      (λ before ms n q stands h. whole.link before ms n refl stands h) link_to

  pub links_fault : IsFaultFreeBefore all 4 → (f : ScenarioFault) → IsListFault (λ n. entry.Link n) (IsLinkFault all) (link_tables all) f → IsFirstFaultOfScenario all f
  links_fault = list_fault all 4 (λ n. entry.Link n) (link_tables all) (IsLinkFault all) (λ n. refl) (λ n. refl)
      (λ before ms n q stands h. whole.link before ms n refl stands h) link_to

  module _ (shared : Table) (has_table : HasTable (schema_of all) shared) (one : (U : Table) → HasTable (schema_of all) U → U ≡ shared) where
    policy_to : (at : FaultyEntry) (q : ScenarioReason) → list_of_entry at ≡ 2 → IsFaultOfEntry all at q
        → (before : List Members) × (ms : Members) × IsEntryAt (policy_tables all) before ms (number_of_entry at) × IsPolicyFault shared (tenant_tables all) before ms q
    policy_to at q l (whole.top is h) = absurd (let e = ap list_of_entry is in omega (arith, e, l))
    policy_to at q l (whole.tenant before ms n is stands h) = absurd (let e = ap list_of_entry is in omega (arith, e, l))
    policy_to at q l (whole.policy before ms n T is stands has h) = (
      before,
      ms,
      subst (λ (m : ℕ). IsEntryAt (policy_tables all) before ms m) (sym (ap number_of_entry is)) stands,
      subst (λ (U : Table). IsPolicyFault U (tenant_tables all) before ms q) (one T has) h,
    )
    policy_to at q l (whole.app before ms n d is stands has h) = absurd (let e = ap list_of_entry is in omega (arith, e, l))
    policy_to at q l (whole.link before ms n is stands h) = absurd (let e = ap list_of_entry is in omega (arith, e, l))
    policy_to at q l (whole.operator before ms n d is stands has h) = absurd (let e = ap list_of_entry is in omega (arith, e, l))

    pub policys_free : IsFaultFreeBefore all 2 → AreFaultFree (IsPolicyFault shared (tenant_tables all)) (policy_tables all) → IsFaultFreeBefore all 3
    policys_free = list_free all 2 (λ n. entry.Policy n) (policy_tables all) (IsPolicyFault shared (tenant_tables all)) (λ n. refl) (λ n. refl)
        (λ before ms n q stands h. whole.policy before ms n shared refl stands has_table h) policy_to

    pub policys_fault : IsFaultFreeBefore all 2 → (f : ScenarioFault) → IsListFault (λ n. entry.Policy n) (IsPolicyFault shared (tenant_tables all)) (policy_tables all) f → IsFirstFaultOfScenario all f
    policys_fault = list_fault all 2 (λ n. entry.Policy n) (policy_tables all) (IsPolicyFault shared (tenant_tables all)) (λ n. refl) (λ n. refl)
        (λ before ms n q stands h. whole.policy before ms n shared refl stands has_table h) policy_to

  module _ (declared : List NamedPolicy) (are : AreDeclared all declared) (one : (e : List NamedPolicy) → AreDeclared all e → e ≡ declared) where
    app_to : (at : FaultyEntry) (q : ScenarioReason) → list_of_entry at ≡ 3 → IsFaultOfEntry all at q
        → (before : List Members) × (ms : Members) × IsEntryAt (app_tables all) before ms (number_of_entry at) × IsAppFault all declared before ms q
    app_to at q l (whole.top is h) = absurd (let e = ap list_of_entry is in omega (arith, e, l))
    app_to at q l (whole.tenant before ms n is stands h) = absurd (let e = ap list_of_entry is in omega (arith, e, l))
    app_to at q l (whole.policy before ms n T is stands has h) = absurd (let e = ap list_of_entry is in omega (arith, e, l))
    app_to at q l (whole.app before ms n d is stands has h) = (
      before,
      ms,
      subst (λ (m : ℕ). IsEntryAt (app_tables all) before ms m) (sym (ap number_of_entry is)) stands,
      subst (λ (e : List NamedPolicy). IsAppFault all e before ms q) (one d has) h,
    )
    app_to at q l (whole.link before ms n is stands h) = absurd (let e = ap list_of_entry is in omega (arith, e, l))
    app_to at q l (whole.operator before ms n d is stands has h) = absurd (let e = ap list_of_entry is in omega (arith, e, l))

    pub apps_free : IsFaultFreeBefore all 3 → AreFaultFree (IsAppFault all declared) (app_tables all) → IsFaultFreeBefore all 4
    apps_free = list_free all 3 (λ n. entry.App n) (app_tables all) (IsAppFault all declared) (λ n. refl) (λ n. refl)
        (λ before ms n q stands h. whole.app before ms n declared refl stands are h) app_to

    pub apps_fault : IsFaultFreeBefore all 3 → (f : ScenarioFault) → IsListFault (λ n. entry.App n) (IsAppFault all declared) (app_tables all) f → IsFirstFaultOfScenario all f
    apps_fault = list_fault all 3 (λ n. entry.App n) (app_tables all) (IsAppFault all declared) (λ n. refl) (λ n. refl)
        (λ before ms n q stands h. whole.app before ms n declared refl stands are h) app_to

    operator_to : (at : FaultyEntry) (q : ScenarioReason) → list_of_entry at ≡ 5 → IsFaultOfEntry all at q
        → (before : List Members) × (ms : Members) × IsEntryAt (operator_tables all) before ms (number_of_entry at) × IsOperatorFault all declared before ms q
    operator_to at q l (whole.top is h) = absurd (let e = ap list_of_entry is in omega (arith, e, l))
    operator_to at q l (whole.tenant before ms n is stands h) = absurd (let e = ap list_of_entry is in omega (arith, e, l))
    operator_to at q l (whole.policy before ms n T is stands has h) = absurd (let e = ap list_of_entry is in omega (arith, e, l))
    operator_to at q l (whole.app before ms n d is stands has h) = absurd (let e = ap list_of_entry is in omega (arith, e, l))
    operator_to at q l (whole.link before ms n is stands h) = absurd (let e = ap list_of_entry is in omega (arith, e, l))
    operator_to at q l (whole.operator before ms n d is stands has h) = (
      before,
      ms,
      subst (λ (m : ℕ). IsEntryAt (operator_tables all) before ms m) (sym (ap number_of_entry is))
          stands,
      subst (λ (e : List NamedPolicy). IsOperatorFault all e before ms q) (one d has) h,
    )

    pub operators_free : IsFaultFreeBefore all 5 → AreFaultFree (IsOperatorFault all declared) (operator_tables all) → IsFaultFreeBefore all 6
    operators_free = list_free all 5 (λ n. entry.Operator n) (operator_tables all) (IsOperatorFault all declared) (λ n. refl) (λ n. refl)
        (λ before ms n q stands h. whole.operator before ms n declared refl stands are h) operator_to

    pub operators_fault : IsFaultFreeBefore all 5 → (f : ScenarioFault) → IsListFault (λ n. entry.Operator n) (IsOperatorFault all declared) (operator_tables all) f → IsFirstFaultOfScenario all f
    operators_fault = list_fault all 5 (λ n. entry.Operator n) (operator_tables all) (IsOperatorFault all declared) (λ n. refl) (λ n. refl)
        (λ before ms n q stands h. whole.operator before ms n declared refl stands are h) operator_to
