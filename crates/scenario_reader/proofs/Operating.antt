-- The first reason of faults in an operator, from those of its parts.
use Rattle.std.proofs.Common.{◌≡◌, ◌⊎◌, ℕ, ◌<◌, ◌≤◌, nat_lt, true, false, List, [], ◌∷◌, length, map, Contains}
use Rattle.std.proofs.Common.{Option, Some, None, refl, sym, ap, ◌∙◌, subst, inl, inr, arith}
use Rattle.std.specs.Bool.{Decides}
use Rattle.std.specs.Borrow.{Bor}
use Rattle.std.specs.Prelude.{is_none}
use Rattle.std.specs.List.{list_any}
use Rattle.std.proofs.lemmas.Bool.{both_ways, lt-ltb, ltb-true, or_cases, or_left, or_right}
use Rattle.mrpc_table.specs.Valid.{AreDistinct}
use Rattle.policy_declarations.specs.Declarations.{Declared, policy_names, policy_index}
use Rattle.policy_declarations.specs.declared.declaration.NamedPolicy.{NamedPolicy}
use Rattle.run_plan.specs.declared.limits.TheConstants.{MAX_STEPS}
use Rattle.run_plan.specs.declared.operator.Operator.{Operator}
use Rattle.toml.specs.Data.{Members}
use Rattle.scenario.specs.Applications.{app_tables, entry_conn, entry_conns, policy_tables}
use Rattle.scenario.specs.Keys.{conn, operator_keys, operator_ranges}
use Rattle.scenario.specs.Operators.{HasPolicyName, IsOperatorFault, step_lines_of}
use Rattle.scenario.specs.Operators as against
use Rattle.scenario.specs.Policies.{entry_names}
use Rattle.scenario.specs.Reasons.{IsFirstScenarioReason, IsSoFar, lower_ranked, reason_of_line, scenario_reason_of_refusal, reason_of_policy_line, scenario_reason_rank, reason_if}
use Rattle.scenario.specs.Scenarios.{IsOperatorMeaning}
use Rattle.scenario.specs.declared.fault.ScenarioReason.{ScenarioReason}
use Rattle.scenario.specs.declared.fault.ScenarioReason.TheVariants.{Key, Known, Number, Unknown}
use Rattle.scenario_lines.specs.Programs.{Each}
use Rattle.scenario_toml.specs.Values.{TheIntegerRange, has_keys, is_out}
use Rattle.scenario_reader.specs.Operating.{HasOperatorHeadFault, HasOperatorOwnFault, HasStepFault, in_lines, is_known, is_operated, no_policy, too_many}
use Rattle.scenario_reader.specs.Owning.{AreStepNames}
use Rattle.scenario_reader.specs.StepLinesReading.{HasLinesFault}
use Rattle.scenario_reader.proofs.Applying.{at_most, line_late, line_soon, refusal_late, rule_late, rule_soon}
use Rattle.scenario_reader.proofs.FirstReason.{Either, Flag, alone_first, at_least, flag, joined, same_reasons}
use Rattle.scenario_reader.proofs.Judging.{any_equal}
use Rattle.scenario_reader.proofs.Lists.{each_map, none_in, there_cases, there_first, there_more}
use Rattle.scenario_reader.proofs.Naming as naming
use Rattle.scenario_reader.proofs.Telling.{distinct_same}

-- ---- tests

operated : (all : Members) (tables : List Members) (operators : List Operator) (n : ℕ) → Each (IsOperatorMeaning all) tables operators
    → Decides (is_operated operators n) (Contains (entry_conns tables) n)
operated all tables operators n says =
    let same = each_map (IsOperatorMeaning all) entry_conn (λ (o : Operator). o.conn) (λ x y r. sym r.conn) tables operators says in
    let d = any_equal (λ (o : Operator). o.conn) n operators in (
      λ e. subst (λ (ns : List ℕ). Contains ns n) (sym same) (d.0 e),
      λ h. d.1 (subst (λ (ns : List ℕ). Contains ns n) same h),
    )

is_none_of : (o : Option ℕ) → is_none o ≡ true → o ≡ None
is_none_of None e = refl
is_none_of (Some n) e = absurd cc

module _ (d : Declared) where
  lacks_one : (name : List ℕ) → Decides (is_none (policy_index d name)) (Contains (policy_names d) name → ⊥)
  lacks_one name = (
    λ e. naming.none_there (λ (p : NamedPolicy). p.name) name d.policies (is_none_of (policy_index d name) e),
    λ none. ap is_none (naming.place_none (λ (p : NamedPolicy). p.name) name d.policies none),
  )

  lacks_from : (names : List (Bor (List ℕ))) → list_any (λ n. is_none (policy_index d n.now)) names ≡ true
      → (name : List ℕ) × Contains (map (λ n. n.now) names) name × (Contains (policy_names d) name → ⊥)
  lacks_from [] e = absurd cc
  lacks_from (x ∷ xs) e = elim (or_cases (is_none (policy_index d x.now)) (list_any (λ n. is_none (policy_index d n.now)) xs) e) [
    | inl is ↦ (x.now, there_first x.now (map (λ n. n.now) xs), (lacks_one x.now).0 is)
    | inr more ↦ (let r = lacks_from xs more in (r.0, there_more x.now (map (λ n. n.now) xs) r.0 r.1, r.2))
  ]

  lacks_to : (names : List (Bor (List ℕ))) (name : List ℕ) → Contains (map (λ n. n.now) names) name → (Contains (policy_names d) name → ⊥)
      → list_any (λ n. is_none (policy_index d n.now)) names ≡ true
  lacks_to [] name h none = absurd (none_in name h)
  lacks_to (x ∷ xs) name h none = elim (there_cases x.now (map (λ n. n.now) xs) name h) [
    | inl is ↦ or_left (is_none (policy_index d x.now)) _ ((lacks_one x.now).1 (subst (λ (n : List ℕ). Contains (policy_names d) n → ⊥) (sym is) none))
    | inr more ↦ or_right (is_none (policy_index d x.now)) _ (lacks_to xs name more none)
  ]

-- ---- the head

module _ (all : Members) (tables : List Members) (ms : Members) where
  abbrev Many : Type 0
  Many = MAX_STEPS < length (step_lines_of ms)

  abbrev IsThere : Type 0
  IsThere = Contains (entry_conns tables) (entry_conn ms)

  abbrev Lacking : Type 0
  Lacking = (name : List ℕ) × HasPolicyName (step_lines_of ms) name × (Contains (entry_names (policy_tables all)) name → ⊥)

  abbrev head_parts : ScenarioReason → Type 0
  head_parts = Either (Either (Either (HasLinesFault (step_lines_of ms)) (Flag Many Number)) (Flag IsThere Known)) (Flag Lacking Unknown)

  head_from : (q : ScenarioReason) → head_parts q → HasOperatorHeadFault all tables ms q
  head_from q (inl (inl (inl h))) = in_lines h
  head_from q (inl (inl (inr (h, is)))) = too_many h is
  head_from q (inl (inr (h, is))) = is_known h is
  head_from q (inr (h, is)) = no_policy h.0 h.1 h.2 is

  head_to : (q : ScenarioReason) → HasOperatorHeadFault all tables ms q → head_parts q
  head_to q (in_lines h) = inl (inl (inl h))
  head_to q (too_many h is) = inl (inl (inr (h, is)))
  head_to q (is_known h is) = inl (inr (h, is))
  head_to q (no_policy name named none is) = inr ((name, named, none), is)

  pub head_is : (d : Declared) (operators : List Operator) (names : List (Bor (List ℕ))) (lines : ℕ) (first : Option ScenarioReason)
      → policy_names d ≡ entry_names (policy_tables all) → Each (IsOperatorMeaning all) tables operators → lines ≡ length (step_lines_of ms)
      → IsSoFar (HasLinesFault (step_lines_of ms)) first → AreStepNames ms (map (λ n. n.now) names)
      → IsSoFar (HasOperatorHeadFault all tables ms) (lower_ranked
      (lower_ranked (lower_ranked first (reason_if (nat_lt MAX_STEPS lines) Number)) (reason_if (is_operated operators (entry_conn ms)) Known))
      (reason_if (list_any (λ n. is_none (policy_index d n.now)) names) Unknown))
  head_is d operators names lines first same says long so_far named =
      let many = reason_if (nat_lt MAX_STEPS lines) Number in
      let there = reason_if (is_operated operators (entry_conn ms)) Known in
      let lack = reason_if (list_any (λ n. is_none (policy_index d n.now)) names) Unknown in
      same_reasons head_parts (HasOperatorHeadFault all tables ms) (lower_ranked (lower_ranked (lower_ranked first many) there) lack)
      (joined (Either (Either (HasLinesFault (step_lines_of ms)) (Flag Many Number)) (Flag IsThere Known)) (Flag Lacking Unknown)
      (lower_ranked (lower_ranked first many) there) lack
      (joined (Either (HasLinesFault (step_lines_of ms)) (Flag Many Number)) (Flag IsThere Known) (lower_ranked first many) there
      (joined (HasLinesFault (step_lines_of ms)) (Flag Many Number) first many so_far
      (flag Many Number (nat_lt MAX_STEPS lines)
      (λ e. (let l = ltb-true MAX_STEPS lines e in omega (arith, l, long)), λ h. lt-ltb MAX_STEPS lines (omega (arith, h, long)))))
      (flag IsThere Known (is_operated operators (entry_conn ms)) (operated all tables operators (entry_conn ms) says)))
      (flag Lacking Unknown (list_any (λ n. is_none (policy_index d n.now)) names) (
        λ e. (let r = lacks_from d names e in
            (r.0, (named r.0).0 r.1, subst (λ (ns : List (List ℕ)). Contains ns r.0 → ⊥) same r.2)),
        λ h. lacks_to d names h.0 ((named h.0).1 h.1) (subst (λ (ns : List (List ℕ)). Contains ns h.0 → ⊥) (sym same) h.2),
      )))
      head_from head_to

  head_soon : (q : ScenarioReason) → HasOperatorHeadFault all tables ms q → scenario_reason_rank q ≤ 10
  head_soon q (in_lines (inl (line, why, there, fails, is))) = at_most q (reason_of_line why) 10 is (line_soon why)
  head_soon q (in_lines (inr (falls, is))) = at_most q Number 10 is (omega arith)
  head_soon q (too_many h is) = at_most q Number 10 is (omega arith)
  head_soon q (is_known h is) = at_most q Known 10 is (omega arith)
  head_soon q (no_policy name named none is) = at_most q Unknown 10 is (omega arith)

  own_soon : (app : Members) (q : ScenarioReason) → HasOperatorOwnFault all app ms q → scenario_reason_rank q ≤ 10
  own_soon app q (why, fails, is) = at_most q (reason_of_policy_line why) 10 is (rule_soon why)

  module _ (declared : List NamedPolicy) where
    abbrev Against : ScenarioReason → Type 0
    Against = IsOperatorFault all declared tables ms

    head_against : (q : ScenarioReason) → HasOperatorHeadFault all tables ms q → Against q
    head_against q (in_lines (inl (line, why, there, fails, is))) = against.in_line line why there fails is
    head_against q (in_lines (inr (falls, is))) = against.falls falls is
    head_against q (too_many h is) = against.too_many h is
    head_against q (is_known h is) = against.is_known h is
    head_against q (no_policy name named none is) = against.no_policy name named none is

    key_late : (q : ScenarioReason) → Against q → 1 ≤ scenario_reason_rank q
    key_late q (against.wrong_keys h is) = at_least q Key 1 is (omega arith)
    key_late q (against.out_of_range r there h is) = at_least q Number 1 is (omega arith)
    key_late q (against.in_line line why there fails is) = at_least q (reason_of_line why) 1 is (let l = line_late why in omega (arith, l))
    key_late q (against.too_many h is) = at_least q Number 1 is (omega arith)
    key_late q (against.falls h is) = at_least q Number 1 is (omega arith)
    key_late q (against.is_known h is) = at_least q Known 1 is (omega arith)
    key_late q (against.no_app h is) = at_least q Unknown 1 is (omega arith)
    key_late q (against.no_policy name named none is) = at_least q Unknown 1 is (omega arith)
    key_late q (against.in_policy app why there on fails is) = at_least q (reason_of_policy_line why) 1 is (let l = rule_late why in omega (arith, l))
    key_late q (against.is_refused app attached ops start r there on are begun steps refused is) =
        at_least q (scenario_reason_of_refusal r) 1 is (let l = refusal_late r in omega (arith, l))

    pub operator_keys_first : has_keys operator_keys ms ≡ false → IsFirstScenarioReason Against Key
    operator_keys_first wrong = alone_first Against Key (against.wrong_keys wrong refl) key_late

    module _ (keys : has_keys operator_keys ms ≡ true) where
      number_late : (q : ScenarioReason) → Against q → 2 ≤ scenario_reason_rank q
      number_late q (against.wrong_keys h is) = absurd (both_ways (has_keys operator_keys ms) h keys)
      number_late q (against.out_of_range r there h is) = at_least q Number 2 is (omega arith)
      number_late q (against.in_line line why there fails is) = at_least q (reason_of_line why) 2 is (line_late why)
      number_late q (against.too_many h is) = at_least q Number 2 is (omega arith)
      number_late q (against.falls h is) = at_least q Number 2 is (omega arith)
      number_late q (against.is_known h is) = at_least q Known 2 is (omega arith)
      number_late q (against.no_app h is) = at_least q Unknown 2 is (omega arith)
      number_late q (against.no_policy name named none is) = at_least q Unknown 2 is (omega arith)
      number_late q (against.in_policy app why there on fails is) = at_least q (reason_of_policy_line why) 2 is (rule_late why)
      number_late q (against.is_refused app attached ops start r there on are begun steps refused is) =
          at_least q (scenario_reason_of_refusal r) 2 is (let l = refusal_late r in omega (arith, l))

      pub operator_number_first : is_out ms conn ≡ true → IsFirstScenarioReason Against Number
      operator_number_first out =
          alone_first Against Number (against.out_of_range conn (there_first conn []) out refl) number_late

      module _ (within : is_out ms conn ≡ false) where
        no_range : (r : TheIntegerRange) → Contains operator_ranges r → is_out ms r ≡ true → ⊥
        no_range r there out = elim (there_cases conn [] r there) [
          | inl is ↦ both_ways (is_out ms conn) within (ap (is_out ms) is ∙ out)
          | inr none ↦ none_in r none
        ]

        -- no application has its connection
        abbrev NoApp : ScenarioReason → Type 0
        NoApp = Flag (Contains (entry_conns (app_tables all)) (entry_conn ms) → ⊥) Unknown

        app_there : (app : Members) → Contains (app_tables all) app → entry_conn app ≡ entry_conn ms → Contains (entry_conns (app_tables all)) (entry_conn ms)
        app_there app there on = go (app_tables all) there where
          go : (apps : List Members) → Contains apps app → Contains (entry_conns apps) (entry_conn ms)
          go [] h = absurd (none_in app h)
          go (a ∷ apps) h = elim (there_cases a apps app h) [
            | inl is ↦ subst (λ (n : ℕ). Contains (entry_conn a ∷ entry_conns apps) n) (ap entry_conn is ∙ on) (there_first (entry_conn a) (entry_conns apps))
            | inr more ↦ there_more (entry_conn a) (entry_conns apps) (entry_conn ms) (go apps more)
          ]

        alone_to : (Contains (entry_conns (app_tables all)) (entry_conn ms) → ⊥) → (q : ScenarioReason) → Against q → HasOperatorHeadFault all tables ms q ⊎ NoApp q
        alone_to none q (against.wrong_keys h is) = absurd (both_ways (has_keys operator_keys ms) h keys)
        alone_to none q (against.out_of_range r there h is) = absurd (no_range r there h)
        alone_to none q (against.in_line line why there fails is) = inl (in_lines (inl (line, why, there, fails, is)))
        alone_to none q (against.too_many h is) = inl (too_many h is)
        alone_to none q (against.falls h is) = inl (in_lines (inr (h, is)))
        alone_to none q (against.is_known h is) = inl (is_known h is)
        alone_to none q (against.no_app h is) = inr (h, is)
        alone_to none q (against.no_policy name named lacks is) = inl (no_policy name named lacks is)
        alone_to none q (against.in_policy app why there on fails is) = absurd (none (app_there app there on))
        alone_to none q (against.is_refused app attached ops start r there on are begun steps refused is) = absurd (none (app_there app there on))

        pub no_app_is : (Contains (entry_conns (app_tables all)) (entry_conn ms) → ⊥) → (first : Option ScenarioReason)
            → IsSoFar (HasOperatorHeadFault all tables ms) first → IsSoFar Against (lower_ranked first (Some Unknown))
        no_app_is none first so_far =
            same_reasons (Either (HasOperatorHeadFault all tables ms) NoApp) Against (lower_ranked first (Some Unknown))
            (joined (HasOperatorHeadFault all tables ms) NoApp first (Some Unknown) so_far
            (record { stands = (none, refl); first = λ q h. (let e = ap scenario_reason_rank h.1 in omega (arith, e)) }))
            (λ q h. elim h [ inl head ↦ head_against q head | inr gone ↦ against.no_app gone.0 gone.1 ])
            (alone_to none)

        -- ---- the application of its connection

        module _ (app : Members) (there : Contains (app_tables all) app) (on : entry_conn app ≡ entry_conn ms)
            (distinct : AreDistinct (entry_conns (app_tables all))) where
          abbrev Named : ScenarioReason → Type 0
          Named = Either (HasOperatorHeadFault all tables ms) (HasOperatorOwnFault all app ms)

          abbrev Refused : ScenarioReason → Type 0
          Refused = HasStepFault all declared app ms

          is_app : (a : Members) → Contains (app_tables all) a → entry_conn a ≡ entry_conn ms → a ≡ app
          is_app a a_there a_on = distinct_same entry_conn (app_tables all) a app distinct a_there there (a_on ∙ sym on)

          split : (q : ScenarioReason) → Against q → Named q ⊎ Refused q
          split q (against.wrong_keys h is) = absurd (both_ways (has_keys operator_keys ms) h keys)
          split q (against.out_of_range r r_there h is) = absurd (no_range r r_there h)
          split q (against.in_line line why l_there fails is) = inl (inl (in_lines (inl (line, why, l_there, fails, is))))
          split q (against.too_many h is) = inl (inl (too_many h is))
          split q (against.falls h is) = inl (inl (in_lines (inr (h, is))))
          split q (against.is_known h is) = inl (inl (is_known h is))
          split q (against.no_app h is) = absurd (h (app_there app there on))
          split q (against.no_policy name named none is) = inl (inl (no_policy name named none is))
          split q (against.in_policy a why a_there a_on fails is) =
              inl (inr (subst (λ (x : Members). HasOperatorOwnFault all x ms q) (is_app a a_there a_on) (why, fails, is)))
          split q (against.is_refused a attached ops start r a_there a_on are begun steps refused is) =
              inr (subst (λ (x : Members). HasStepFault all declared x ms q) (is_app a a_there a_on) (record {
                attached = attached;
                ops = ops;
                start = start;
                refusal = r;
                are_attached = are;
                begun = begun;
                steps = steps;
                refused = refused;
                is = is;
              }))

          named_against : (q : ScenarioReason) → Named q → Against q
          named_against q (inl head) = head_against q head
          named_against q (inr (why, fails, is)) = against.in_policy app why there on fails is

          refused_against : (q : ScenarioReason) → Refused q → Against q
          refused_against q h =
              against.is_refused app h.attached h.ops h.start h.refusal there on h.are_attached h.begun h.steps h.refused h.is

          named_soon : (q : ScenarioReason) → Named q → scenario_reason_rank q ≤ 10
          named_soon q (inl head) = head_soon q head
          named_soon q (inr own) = own_soon app q own

          pub named_first : (head own : Option ScenarioReason) (q : ScenarioReason) → IsSoFar (HasOperatorHeadFault all tables ms) head
              → IsSoFar (HasOperatorOwnFault all app ms) own → lower_ranked head own ≡ Some q → IsFirstScenarioReason Against q
          named_first head own q h o e =
              let first : IsFirstScenarioReason Named q =
              subst (λ (x : Option ScenarioReason). IsSoFar Named x) e (joined (HasOperatorHeadFault all tables ms) (HasOperatorOwnFault all app ms) head own h o) in
              record {
                stands = named_against q first.stands;
                first = λ r a. elim (split r a) [
                  | inl named ↦ first.first r named
                  | inr refused ↦ (let x = named_soon q first.stands in
                      let y = at_least r (scenario_reason_of_refusal refused.refusal) 11 refused.is (refusal_late refused.refusal) in omega (arith, x, y))
                ];
              }

          pub none_named : (head own : Option ScenarioReason) → IsSoFar (HasOperatorHeadFault all tables ms) head → IsSoFar (HasOperatorOwnFault all app ms) own
              → lower_ranked head own ≡ None → (q : ScenarioReason) → Named q → ⊥
          none_named head own h o e =
              let none : IsSoFar Named None =
              subst (λ (x : Option ScenarioReason). IsSoFar Named x) e (joined (HasOperatorHeadFault all tables ms) (HasOperatorOwnFault all app ms) head own h o) in none

          pub step_first : ((q : ScenarioReason) → Named q → ⊥) → (q : ScenarioReason) → Refused q
              → ((r : ScenarioReason) → Refused r → r ≡ q) → IsFirstScenarioReason Against q
          step_first none q stands one = record {
            stands = refused_against q stands;
            first = λ r a. elim (split r a) [
              | inl named ↦ absurd (none r named)
              | inr refused ↦ (let e = ap scenario_reason_rank (one r refused) in omega (arith, e))
            ];
          }

          pub operator_free : ((q : ScenarioReason) → Named q → ⊥) → ((q : ScenarioReason) → Refused q → ⊥) → (q : ScenarioReason) → Against q → ⊥
          operator_free none no_step q a = elim (split q a) [
            | inl named ↦ none q named
            | inr refused ↦ no_step q refused
          ]
