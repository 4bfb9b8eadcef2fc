-- The steps of an operator on the initial chain of its application.
use Rattle.std.proofs.Common.{◌≡◌, ℕ, List, [], ◌∷◌, Contains, Some, Ok, Err, refl, sym, ap, ◌∙◌, subst}
use Rattle.mrpc_table.specs.Lines.{in_64_bits, words_of}
use Rattle.mrpc_table.specs.Valid.{AreDistinct}
use Rattle.engine_core.specs.Chains.{Chain, IsChain}
use Rattle.engine_core.specs.declared.op.Op.{Op}
use Rattle.engine_core.specs.declared.op.Op.TheVariants as op
use Rattle.policy_declarations.specs.Declarations.{Declared, policy_names}
use Rattle.run_plan.specs.Chains.{IsChangedBy, empty_chain}
use Rattle.run_plan.specs.declared.operator.Operator.{Operator}
use Rattle.script_grammar.specs.Lines.{HaveMeanings}
use Rattle.script_grammar.specs.WordKinds.{Meaning, HasMeaning, unbounded_at, unbounded_in}
use Rattle.script_grammar.specs.WordKinds as sorts
use Rattle.script_grammar.specs.declared.word_kind.WordKind.TheVariants as sort
use Rattle.toml.specs.Data.{Members}
use Rattle.scenario.specs.Applications.{AreAttached, chain_names, entry_conn}
use Rattle.scenario.specs.Lines.{step_policy}
use Rattle.scenario.specs.Operators.{HasPolicyName, IsOpOfLine, attaches, detaches, step_lines_of, upgrades}
use Rattle.scenario.specs.Reasons.{scenario_reason_of_refusal}
use Rattle.scenario.specs.Scenarios.{IsOperatorMeaning, policy_entry_index}
use Rattle.scenario.specs.Scenarios.{IsStepMeaning as PlanSays}
use Rattle.scenario.specs.declared.fault.ScenarioReason.{ScenarioReason}
use Rattle.scenario_lines.specs.Forms.{step_sorts}
use Rattle.scenario_lines.specs.Programs.{Each}
use Rattle.scenario_lines.specs.StepLines.{IsStepFormMeaning, IsStepTextMeaning}
use Rattle.scenario_lines.specs.declared.form.StepForm.{StepForm}
use Rattle.scenario_lines.specs.declared.form.StepForm.TheVariants as step
use Rattle.scenario_lines.specs.declared.step.StepText.{StepText}
use Rattle.scenario_lines.specs.declared.step.StepText.TheVariants as text
use Rattle.scenario_entries.specs.ChainEntries.{AreEntriesOf}
use Rattle.scenario_entries.specs.declared.chain.ChainEntry.{ChainEntry}
use Rattle.policy_declarations.specs.Declarations.{policy_index}
use Rattle.scenario_reader.specs.Joining.{IsInitialChain}
use Rattle.scenario_reader.specs.Operating.{IsOperatorOf, HasStepFault}
use Rattle.scenario_reader.specs.Walking.{IsRefusedFor, IsWalkedTo}
use Rattle.scenario_reader.proofs.Lists.{there_first, there_more}
use Rattle.scenario_reader.proofs.Saying.{steps_say}
use Rattle.scenario_reader.proofs.Stepping as stepping
use Rattle.scenario_reader.proofs.Telling.{named_there, ops_told}
use Rattle.scenario_reader.proofs.Walking.{Laws, changing_one, empty_sound, not_refused, one_refused}

-- ---- positions are numbers

unbounded_says : (w : List ℕ) (m : Meaning) → HasMeaning sort.Unbounded w m → (n : ℕ) × (unbounded_in (Some m) ≡ in_64_bits n)
unbounded_says w (sorts.word k) h = absurd h
unbounded_says w (sorts.number k) h = absurd h
unbounded_says w (sorts.unbounded d) h = (h.0, h.2)
unbounded_says w (sorts.name x) h = absurd h

third : (words : List (List ℕ)) (ms : List Meaning) → HaveMeanings (step_sorts step.Attach) words ms → (n : ℕ) × (unbounded_at ms 2 ≡ in_64_bits n)
third [] [] h = absurd h
third [] (m ∷ ms) h = absurd h
third (w ∷ words) [] h = absurd h
third (w ∷ []) (m ∷ []) h = absurd h.1
third (w ∷ []) (m ∷ n ∷ ms) h = absurd h.1
third (w ∷ v ∷ words) (m ∷ []) h = absurd h.1
third (w ∷ v ∷ []) (m ∷ n ∷ []) h = absurd h.1.1
third (w ∷ v ∷ []) (m ∷ n ∷ o ∷ ms) h = absurd h.1.1
third (w ∷ v ∷ u ∷ words) (m ∷ n ∷ []) h = absurd h.1.1
third (w ∷ v ∷ u ∷ words) (m ∷ n ∷ o ∷ ms) h = unbounded_says u o h.1.1.0

module _ (d : Declared) where
  op_of_line : (line : List ℕ) (told : StepText) → IsStepTextMeaning line told
      → ((name : List ℕ) → step_policy told ≡ Some name → Contains (policy_names d) name) → (o : Op) × IsOpOfLine d.policies line o
  op_of_line line (text.Attach c at name policy) says named = by says.form says.meanings says.said says.tells where
    by : (f : StepForm) (ms : List Meaning) → HaveMeanings (step_sorts f) (words_of line) ms → IsStepFormMeaning f ms (text.Attach c at name policy)
        → (o : Op) × IsOpOfLine d.policies line o
    by step.Attach ms said tells =
        let k = third (words_of line) ms said in
        let p = named_there d policy.now (named policy.now refl) in (
          op.Attach k.0 name.now p.0.name p.0.policy,
          attaches (text.Attach c at name policy) k.0 name.now p.0 says (tells.1 ∙ k.1, refl, sym p.2) p.1 refl,
        )
    by step.Detach ms said tells = absurd tells
    by step.Upgrade ms said tells = absurd tells
  op_of_line line (text.Detach c name) says named = (op.Detach name.now, detaches (text.Detach c name) name.now says refl refl)
  op_of_line line (text.Upgrade c name policy) says named =
      let p = named_there d policy.now (named policy.now refl) in (
        op.Upgrade name.now p.0.name p.0.policy,
        upgrades (text.Upgrade c name policy) name.now p.0 says (refl, sym p.2) p.1 refl,
      )

  ops_of_lines : (lines : List (List ℕ)) (told : List StepText) → Each IsStepTextMeaning lines told
      → ((name : List ℕ) → HasPolicyName lines name → Contains (policy_names d) name) → (ops : List Op) × Each (IsOpOfLine d.policies) lines ops
  ops_of_lines [] [] says named = ([], tt)
  ops_of_lines [] (t ∷ told) says named = absurd says
  ops_of_lines (l ∷ lines) [] says named = absurd says
  ops_of_lines (l ∷ lines) (t ∷ told) says named =
      let o = op_of_line l t says.0 (λ name e. named name (record {
        line = l;
        there = there_first l lines;
        told = t;
        says = says.0;
        policy = e;
      })) in
      let rest = ops_of_lines lines told says.1 (λ name h. named name (record {
        line = h.line;
        there = there_more l lines h.line h.there;
        told = h.told;
        says = h.says;
        policy = h.policy;
      })) in
      (o.0 ∷ rest.0, (o.1, rest.1))

-- ---- the steps, applied or refused

module _ (laws : Laws) (words : stepping.Laws) (all : Members) (d : Declared) (app ms : Members) (entries : List ChainEntry)
    (distinct : AreDistinct (policy_names d)) (begun : IsInitialChain d.policies app entries) (told : List StepText)
    (tell : Each IsStepTextMeaning (step_lines_of ms) told) where
  start_kept : (attached : List Op) (start : Chain) → AreAttached d.policies 0 (chain_names app) attached → IsChangedBy empty_chain attached start
      → AreEntriesOf entries start × IsChain start
  start_kept attached start are change =
      let w = begun.walked attached are in
      let same = changing_one laws empty_chain w.after start attached empty_sound w.change change in
      (subst (AreEntriesOf entries) same w.kept, subst IsChain same w.sound)

  pub step_refused : ((name : List ℕ) → HasPolicyName (step_lines_of ms) name → Contains (policy_names d) name) → (q : ScenarioReason) (conn : ℕ)
      → IsOperatorOf d entries conn told (Err q) → HasStepFault all d.policies app ms q × ((r : ScenarioReason) → HasStepFault all d.policies app ms r → r ≡ q)
  step_refused named q conn refuses = (
    record {
      attached = begun.attached;
      ops = ops.0;
      start = w.after;
      refusal = r.0;
      are_attached = begun.are;
      begun = w.change;
      steps = ops.1;
      refused = r.1;
      is = r.2;
    },
    one,
  )
    where
      w : IsWalkedTo empty_chain begun.attached entries
      w = begun.walked begun.attached begun.are

      ops : (os : List Op) × Each (IsOpOfLine d.policies) (step_lines_of ms) os
      ops = ops_of_lines d (step_lines_of ms) told tell named

      r : IsRefusedFor w.after ops.0 q
      r = refuses w.after ops.0 w.sound w.kept (ops_told words d (step_lines_of ms) told ops.0 distinct tell ops.1)

      one : (x : ScenarioReason) → HasStepFault all d.policies app ms x → x ≡ q
      one x h =
          let s = start_kept h.attached h.start h.are_attached h.begun in
          let y = refuses h.start h.ops s.1 s.0 (ops_told words d (step_lines_of ms) told h.ops distinct tell h.steps) in
          h.is ∙ ap scenario_reason_of_refusal (one_refused laws h.start h.ops h.refusal y.0 s.1 h.refused y.1) ∙ sym y.2

  pub steps_taken : ((name : List ℕ) → HasPolicyName (step_lines_of ms) name → Contains (policy_names d) name)
      → ((name : List ℕ) → policy_index d name ≡ policy_entry_index all name) → (conn : ℕ) (o : Operator) → conn ≡ entry_conn ms
      → IsOperatorOf d entries conn told (Ok o)
      → ((r : ScenarioReason) → HasStepFault all d.policies app ms r → ⊥) × IsOperatorMeaning all ms o
  steps_taken named places conn o on is = (none, record { conn = is.0 ∙ on; steps = says }) where
    none : (r : ScenarioReason) → HasStepFault all d.policies app ms r → ⊥
    none r h =
        let s = start_kept h.attached h.start h.are_attached h.begun in
        let t = is.2 h.start h.ops s.1 s.0 (ops_told words d (step_lines_of ms) told h.ops distinct tell h.steps) in
        not_refused laws h.start t.0 h.ops h.refusal s.1 t.1 h.refused

    says : Each (PlanSays all) (step_lines_of ms) o.steps
    says =
        let w = begun.walked begun.attached begun.are in
        let ops = ops_of_lines d (step_lines_of ms) told tell named in
        let of = ops_told words d (step_lines_of ms) told ops.0 distinct tell ops.1 in
        let t = is.2 w.after ops.0 w.sound w.kept of in
        steps_say all d places laws (step_lines_of ms) told o.steps ops.0 w.after t.0 w.sound tell is.1 of t.1
