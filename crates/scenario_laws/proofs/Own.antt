-- The policies that an application uses under its own schema can't be without a meaning.
use Rattle.std.proofs.Common.{◌≡◌, ℕ, zero, suc, ◌+◌, ◌<◌, ◌≤◌, List, [], ◌∷◌, length, get_or, map, All, Contains}
use Rattle.std.proofs.Common.{Option, Some, None, refl, sym, ◌∙◌, subst, inl, inr, arith}
use Rattle.std.specs.Prelude.{codes}
use Rattle.std.proofs.lemmas.Bool.{cases_eq}
use Rattle.std.proofs.lemmas.List.Elements.{Contains-get_or}
use Rattle.mrpc_table.specs.Valid.{IsAscendingBy}
use Rattle.mrpc_table.specs.declared.policy_lines.RuleReason.{RuleReason}
use Rattle.mrpc_table.specs.declared.table.Table.{Table}
use Rattle.policy_declarations.specs.declared.declaration.NamedPolicy.{NamedPolicy}
use Rattle.run_plan.specs.declared.application.OwnPolicy.{OwnPolicy}
use Rattle.run_plan.specs.declared.application.OwnSchema.{OwnSchema}
use Rattle.toml.specs.Data.{Members}
use Rattle.scenario_toml.specs.Values.{text_at}
use Rattle.scenario.specs.Applications.{IsAppFault, HasFaultUnderOwn, HasTable, app_tables, policies_named_in, operator_tables, policy_tables, tenant_tables}
use Rattle.scenario.specs.Applications as against_app
use Rattle.scenario.specs.Keys.{entry_kind}
use Rattle.scenario.specs.Operators.{HasPolicyName, IsOperatorFault, step_lines_of}
use Rattle.scenario.specs.Operators as against_operator
use Rattle.scenario.specs.Policies.{HasFaultyLine, entry_name}
use Rattle.scenario.specs.Reasons.{reason_of_policy_line}
use Rattle.scenario.specs.Scenarios.{IsUsed, IsOwnPolicyMeaning, IsOwnMeaning, IsOwnSchemaMeaning, by_app, by_step, policy_entry_index}
use Rattle.scenario.specs.declared.fault.ScenarioReason.{ScenarioReason}
use Rattle.scenario.specs.declared.fault.ScenarioReason.TheVariants.{Schema}
use Rattle.scenario_laws.proofs.FaultyLists.{AreFree, CanBe, free_of, get_there, named_at, none_in, there_cases, there_first, there_more}
use Rattle.scenario_laws.proofs.Policies.{AccessOrFault, IsFine, RedactOrFault, kind_says}

-- ---- indices that are picked

abbrev places : List OwnPolicy → List ℕ
places ps = map (λ p. p.place) ps

abbrev Ascend : List OwnPolicy → Type 0
Ascend ps = IsAscendingBy (λ p q. p.place < q.place) ps

ascend_more : (p : OwnPolicy) (ps : List OwnPolicy) → Ascend ps → ((n : ℕ) → Contains (places ps) n → p.place < n) → Ascend (p ∷ ps)
ascend_more p [] ascend low = tt
ascend_more p (q ∷ ps) ascend low = (low q.place (there_first q.place (places ps)), ascend)

all_by : {X : Type 0} (P : X → Type 0) (xs : List X) → ((x : X) → Contains xs x → P x) → All P xs
all_by P xs h = λ k d within. h (get_or xs k d) (Contains-get_or xs k d within)

-- those in use of this many indices from an index on, each with its meaning
record Picked (Used : ℕ → Type 0) (Says : OwnPolicy → Type 0) (at count : ℕ) (ps : List OwnPolicy) : Type 0 where
  used : (n : ℕ) → Contains (places ps) n → Used n
  above : (n : ℕ) → Contains (places ps) n → at ≤ n
  there : (n : ℕ) → Used n → at ≤ n → n < at + count → Contains (places ps) n
  ascend : Ascend ps
  says : (p : OwnPolicy) → Contains ps p → Says p

module _ (Used : ℕ → Type 0) (Says : OwnPolicy → Type 0) (makes : (n : ℕ) → Used n → (p : OwnPolicy) × (p.place ≡ n) × Says p) where
  picked_none : (at : ℕ) → Picked Used Says at 0 []
  picked_none at = record {
    used = λ n h. absurd (none_in n h);
    above = λ n h. absurd (none_in n h);
    there = λ n is from to. absurd (omega (arith, from, to));
    ascend = tt;
    says = λ p h. absurd (none_in p h);
  }

  module _ (at count : ℕ) (ps : List OwnPolicy) (rest : Picked Used Says (suc at) count ps) where
    picked_past : (Used at → ⊥) → Picked Used Says at (suc count) ps
    picked_past unused = record {
      used = rest.used;
      above = λ n h. (let more = rest.above n h in omega (arith, more));
      there = λ n is from to. elim (cases_eq at n) [
        | inl same ↦ absurd (unused (subst Used (sym same) is))
        | inr other ↦ rest.there n is (omega (arith, from, other)) (omega (arith, to))
      ];
      ascend = rest.ascend;
      says = rest.says;
    }

    picked_more : (p : OwnPolicy) → p.place ≡ at → Says p → Used at → Picked Used Says at (suc count) (p ∷ ps)
    picked_more p place says is = record {
      used = λ n h. elim (there_cases p.place (places ps) n h) [
        | inl same ↦ subst Used (sym place ∙ same) is
        | inr more ↦ rest.used n more
      ];
      above = λ n h. elim (there_cases p.place (places ps) n h) [
        | inl same ↦ omega (arith, place, same)
        | inr more ↦ (let low = rest.above n more in omega (arith, low))
      ];
      there = λ n used from to. elim (cases_eq at n) [
        | inl same ↦ subst (λ (m : ℕ). Contains (places (p ∷ ps)) m) (place ∙ same) (there_first p.place (places ps))
        | inr other ↦ there_more p.place (places ps) n (rest.there n used (omega (arith, from, other)) (omega (arith, to)))
      ];
      ascend = ascend_more p ps rest.ascend (λ n h. let low = rest.above n h in omega (arith, low, place));
      says = λ q h. elim (there_cases p ps q h) [
        | inl same ↦ subst Says same says
        | inr more ↦ rest.says q more
      ];
    }

  picked : (count at : ℕ) → CanBe ((ps : List OwnPolicy) × Picked Used Says at count ps)
  picked zero at = λ never. never ([], picked_none at)
  picked (suc count) at = λ never. picked count (suc at) (λ rest.
      let unused : Used at → ⊥ = λ is. (let p = makes at is in never (p.0 ∷ rest.0, picked_more at count rest.0 rest.1 p.0 p.1 p.2 is)) in
      never (rest.0, picked_past at count rest.0 rest.1 unused))

-- ---- policies of an application

module _ (access : AccessOrFault) (redact : RedactOrFault) (all : Members) (declared : List NamedPolicy)
    (fine : (ms : Members) → Contains (policy_tables all) ms → IsFine (tenant_tables all) ms)
    (operators : AreFree (IsOperatorFault all declared) (operator_tables all))
    (ms : Members) (in_apps : Contains (app_tables all) ms) (before : List Members)
    (free : (q : ScenarioReason) → IsAppFault all declared before ms q → ⊥) where
  module _ (text : List ℕ) (own : text_at (codes "schema") ms ≡ Some text) (T : Table) (has : HasTable text T) where
    -- a policy at an index has a meaning if its lines don't fail under the own table
    says_at : (name : List ℕ) (place : ℕ) → policy_entry_index all name ≡ Some place
        → ((entry : Members) → Contains (policy_tables all) entry → entry_name entry ≡ name → (why : RuleReason) → HasFaultyLine (entry_kind entry) T entry why → ⊥)
        → (p : OwnPolicy) × (p.place ≡ place) × IsOwnPolicyMeaning all T p
    says_at name place e none =
        let h = named_at (policy_tables all) name place e in
        let there = get_there (policy_tables all) place h.entry h.at in
        let p = kind_says access redact (tenant_tables all) T h.entry (fine h.entry there) (none h.entry there h.named) in
        (record { place = place; policy = p.0 }, refl, record { entry = h.entry; there = h.at; policy = p.1 })

    fails_by : (Named : List ℕ → Type 0) (name : List ℕ) → Named name → (entry : Members) → Contains (policy_tables all) entry → entry_name entry ≡ name
        → (why : RuleReason) → HasFaultyLine (entry_kind entry) T entry why → HasFaultUnderOwn all ms Named why
    fails_by Named name is entry there named why fails = record {
      text = text;
      own = own;
      table = T;
      of_text = has;
      policy = entry;
      there = there;
      named = subst Named (sym named) is;
      fails = fails;
    }

    used_says : (place : ℕ) → IsUsed all ms place → (p : OwnPolicy) × (p.place ≡ place) × IsOwnPolicyMeaning all T p
    used_says place (by_app name there e) = says_at name place e (λ entry in_policies named why fails.
        free (reason_of_policy_line why) (against_app.in_policy why (fails_by (Contains (policies_named_in ms)) name there entry in_policies named why fails) refl))
    used_says place (by_step name operator there on names e) = says_at name place e (λ entry in_policies named why fails.
        let o = free_of (IsOperatorFault all declared) (operator_tables all) operators operator there in
        o.1 (reason_of_policy_line why) (against_operator.in_policy ms why in_apps (sym on)
        (fails_by (HasPolicyName (step_lines_of operator)) name names entry in_policies named why fails) refl))

    used_within : (place : ℕ) → IsUsed all ms place → place < length (policy_tables all)
    used_within place (by_app name there e) = (named_at (policy_tables all) name place e).within
    used_within place (by_step name operator there on names e) = (named_at (policy_tables all) name place e).within

    own_schema : CanBe ((own : OwnSchema) × IsOwnSchemaMeaning all ms text own)
    own_schema never = picked (IsUsed all ms) (IsOwnPolicyMeaning all T) used_says (length (policy_tables all)) 0 (λ ps. never (
      record { table = T; policies = ps.0 },
      record {
        table = has;
        used = λ place. (ps.1.used place, λ is. let within = used_within place is in ps.1.there place is (omega arith) (omega (arith, within)));
        ascend = ps.1.ascend;
        policies = all_by (IsOwnPolicyMeaning all T) ps.0 ps.1.says;
      },
    ))

  own_by : (o : Option (List ℕ)) → text_at (codes "schema") ms ≡ o → CanBe ((own : Option OwnSchema) × IsOwnMeaning all ms o own)
  own_by None e never = never (None, tt)
  own_by (Some text) e never =
      free Schema (against_app.no_table text e (λ T has. own_schema text e T has (λ own. never (Some own.0, own.1))) refl)

  pub own_says : CanBe ((own : Option OwnSchema) × IsOwnMeaning all ms (text_at (codes "schema") ms) own)
  own_says = own_by (text_at (codes "schema") ms) refl
