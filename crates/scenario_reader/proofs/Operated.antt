-- The application of an operator's connection, and the steps of an operator without other faults.
use Rattle.std.proofs.Common.{◌≡◌, ℕ, ◌==◌, List, [], ◌∷◌, get_or, map, Contains, Option, Some, None, Result, Ok, Err}
use Rattle.std.proofs.Common.{sym, ap, ◌∙◌, subst, inl, inr, refl, true, false}
use Rattle.std.specs.Prelude.{is_some, position, slice_get}
use Rattle.std.proofs.lemmas.Bool.{eq-eqb, eqb-true}
use Rattle.std.proofs.lemmas.Option.{get_or_from_slice_get}
use Rattle.mrpc_table.specs.Valid.{AreDistinct}
use Rattle.policy_declarations.specs.Declarations.{Declared, policy_names, policy_index}
use Rattle.policy_declarations.specs.declared.declaration.NamedPolicy.{NamedPolicy}
use Rattle.run_plan.specs.declared.application.Application.{Application}
use Rattle.run_plan.specs.declared.operator.Operator.{Operator}
use Rattle.toml.specs.Data.{Members}
use Rattle.scenario.specs.Applications.{app_tables, entry_conn, entry_conns, policy_tables}
use Rattle.scenario.specs.Keys.{conn, operator_keys}
use Rattle.scenario.specs.Operators.{HasPolicyName, IsOperatorFault, step_lines_of}
use Rattle.scenario.specs.Policies.{entry_names}
use Rattle.scenario.specs.Reasons.{IsSoFar, lower_ranked, reason_of_line}
use Rattle.scenario.specs.Scenarios.{IsOperatorMeaning, policy_entry_index}
use Rattle.scenario.specs.declared.fault.ScenarioReason.{ScenarioReason}
use Rattle.scenario.specs.declared.fault.ScenarioReason.TheVariants.{Unknown}
use Rattle.scenario_lines.specs.Programs.{Each}
use Rattle.scenario_lines.specs.StepLines.{IsStepTextFault, IsStepTextMeaning}
use Rattle.scenario_lines.specs.declared.reason.LineReason.{LineReason}
use Rattle.scenario_lines.specs.declared.step.StepText.{StepText}
use Rattle.scenario_toml.specs.Values.{has_keys, is_out}
use Rattle.scenario_entries.specs.Entries.{IsEntryRead}
use Rattle.scenario_entries.specs.declared.chain.ChainOutline.{ChainOutline}
use Rattle.scenario_entries.specs.declared.chain.ChainEntry.{ChainEntry}
use Rattle.scenario_reader.specs.Joining.{IsApp, IsInitialChain}
use Rattle.scenario_reader.specs.Operating.{HasOperatorHeadFault, IsOperatorOf, HasOperatorOwnFault, in_lines, no_policy}
use Rattle.scenario_reader.specs.StepLinesReading.{AreStepMeanings}
use Rattle.scenario_reader.proofs.FirstReason.{Either}
use Rattle.scenario_reader.proofs.Judged.{step_refused, steps_taken}
use Rattle.scenario_reader.proofs.Lists.{each_at, each_map, none_in, there_cases, there_first, there_more}
use Rattle.scenario_reader.proofs.Naming as naming
use Rattle.scenario_reader.proofs.Operating.{none_named, operator_free, step_first}
use Rattle.scenario_reader.proofs.Places.{each_to, no_place, place_is}
use Rattle.scenario_reader.proofs.Stepping as stepping
use Rattle.scenario_reader.proofs.Telling.{all_tell}
use Rattle.scenario_reader.proofs.Walking.{Laws}

-- ---- the application of its connection

pub item_of : {X Y : Type 0} (f : X → Y) (v : Y) (xs : List X) → Contains (map f xs) v → (x : X) × Contains xs x × (f x ≡ v)
item_of f v [] h = absurd (none_in v h)
item_of f v (x ∷ xs) h = elim (there_cases (f x) (map f xs) v h) [
  | inl is ↦ (x, there_first x xs, is)
  | inr more ↦ (let r = item_of f v xs more in (r.0, there_more x xs r.0 r.1, r.2))
]

module _ (all : Members) (d : Declared) (tables : List Members) (apps : List Application) (are : Each (IsApp all d) tables apps) (n : ℕ) where
  conns_same : entry_conns tables ≡ map (λ (a : Application). a.conn) apps
  conns_same = each_map (IsApp all d) entry_conn (λ (a : Application). a.conn) (λ x y r. sym r.draft.conn) tables apps are

  pub no_app_on : position (λ app. app.conn == n) apps ≡ None → Contains (entry_conns tables) n → ⊥
  no_app_on none there =
      let a = item_of (λ (a : Application). a.conn) n apps (subst (λ (ns : List ℕ). Contains ns n) conns_same there) in
      no_place (λ (a : Application). a.conn == n) apps none a.0 a.1 (eq-eqb a.0.conn n a.2)

  -- an application with its entry, on the connection
  pub record IsOn (i : ℕ) : Type 0 where
    pub table : Members
    pub app : Application
    pub at_table : slice_get tables i ≡ Some table
    pub at_app : slice_get apps i ≡ Some app
    pub on : entry_conn table ≡ n
    pub is : IsApp all d table app

  pub app_on : (i : ℕ) → position (λ app. app.conn == n) apps ≡ Some i → IsOn i
  app_on i e =
      let p = place_is (λ (a : Application). a.conn == n) apps i e in
      let t = each_at (IsApp all d) tables apps i p.0 are p.1 in
      record {
        table = t.0;
        app = p.0;
        at_table = t.1;
        at_app = p.1;
        on = sym t.2.draft.conn ∙ eqb-true p.0.conn n p.2;
        is = t.2;
      }

-- its initial chain
pub begun_at : (d : Declared) (tables : List Members) (chains : List ChainOutline) (i : ℕ) (table : Members) (x : ChainOutline)
    → Each (λ ms chain. IsInitialChain d.policies ms chain.entries.items) tables chains → slice_get tables i ≡ Some table → x ≡ get_or chains i x
    → IsInitialChain d.policies table x.entries.items
begun_at d tables chains i table x begun at is =
    let y = each_to (λ ms chain. IsInitialChain d.policies ms chain.entries.items) tables chains i table begun at in
    subst (λ (c : ChainOutline). IsInitialChain d.policies table c.entries.items) (sym (is ∙ get_or_from_slice_get chains i y.0 x y.1)) y.2

-- ---- its steps

module _ (laws : Laws) (words : stepping.Laws) (all : Members) (d : Declared) (tables : List Members) (ms app : Members)
    (same : policy_names d ≡ entry_names (policy_tables all)) (places : (name : List ℕ) → policy_index d name ≡ policy_entry_index all name)
    (distinct : AreDistinct (policy_names d)) (conns : AreDistinct (entry_conns (app_tables all)))
    (keys : has_keys operator_keys ms ≡ true) (within : is_out ms conn ≡ false)
    (there : Contains (app_tables all) app) (on : entry_conn app ≡ entry_conn ms)
    (head own : Option ScenarioReason) (of_head : IsSoFar (HasOperatorHeadFault all tables ms) head) (of_own : IsSoFar (HasOperatorOwnFault all app ms) own)
    (none : lower_ranked head own ≡ None) (told : List StepText) (tell : AreStepMeanings (step_lines_of ms) told) where
  nothing_named : (q : ScenarioReason) → Either (HasOperatorHeadFault all tables ms) (HasOperatorOwnFault all app ms) q → ⊥
  nothing_named = none_named all tables ms d.policies keys within app there on conns head own of_head of_own none

  no_line : (line : List ℕ) (why : LineReason) → Contains (step_lines_of ms) line → IsStepTextFault line why → ⊥
  no_line line why stands fails = nothing_named (reason_of_line why) (inl (in_lines (inl (line, why, stands, fails, refl))))

  declared_there : (name : List ℕ) → HasPolicyName (step_lines_of ms) name → Contains (policy_names d) name
  declared_there name named = by (policy_index d name) refl where
    by : (o : Option ℕ) → policy_index d name ≡ o → Contains (policy_names d) name
    by (Some place) e = naming.there (λ (p : NamedPolicy). p.name) name d.policies (ap is_some e)
    by None e =
        absurd (nothing_named Unknown (inl (no_policy name named (λ h.
        naming.none_there (λ (p : NamedPolicy). p.name) name d.policies e (subst (λ (ns : List (List ℕ)). Contains ns name) (sym same) h)) refl)))

  all_told : Each IsStepTextMeaning (step_lines_of ms) told
  all_told = all_tell words (step_lines_of ms) told tell no_line

  pub judged : (entries : List ChainEntry) → IsInitialChain d.policies app entries → (number : ℕ) → number ≡ entry_conn ms
      → (r : Result Operator ScenarioReason) → IsOperatorOf d entries number told r
      → IsEntryRead (IsOperatorFault all d.policies tables ms) (IsOperatorMeaning all ms) r
  judged entries begun number is (Ok o) h =
      let t = steps_taken laws words all d app ms entries distinct begun told all_told declared_there places number o is h in
      (operator_free all tables ms d.policies keys within app there on conns nothing_named t.0, t.1)
  judged entries begun number is (Err q) h =
      let r = step_refused laws words all d app ms entries distinct begun told all_told declared_there q number h in
      step_first all tables ms d.policies keys within app there on conns nothing_named q r.0 r.1
