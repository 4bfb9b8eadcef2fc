-- Operators without faults are those of a plan.
use Rattle.std.proofs.Common.{◌≡◌, ℕ, zero, suc, ◌+◌, ◌≤◌, List, [], ◌∷◌, ◌++◌, length, map, All, Contains, Some, refl, sym, subst, inl, inr, arith, append_assoc}
use Rattle.std.specs.Prelude.{slice_get}
use Rattle.std.proofs.lemmas.Bool.{cases_lt}
use Rattle.std.proofs.lemmas.Option.{same_Some}
use Rattle.mrpc_table.specs.Lines.{words_of}
use Rattle.mrpc_table.specs.Names.{IsName}
use Rattle.mrpc_table.specs.Valid.{AreDistinct, IsAscendingBy}
use Rattle.script_grammar.specs.Lines.{HaveMeanings}
use Rattle.script_grammar.specs.WordKinds.{Meaning, name, name_at, name_in}
use Rattle.script_grammar.specs.WordKinds.{HasMeaning as WordSays}
use Rattle.script_grammar.specs.declared.word_kind.WordKind.{WordKind}
use Rattle.script_grammar.specs.declared.word_kind.WordKind.TheVariants as sort
use Rattle.run_plan.specs.Plans.{HasNames, IsOperator}
use Rattle.run_plan.specs.Links.{connections_of}
use Rattle.run_plan.specs.declared.limits.TheConstants.{MAX_STEPS}
use Rattle.run_plan.specs.declared.operator.Operator.{Operator}
use Rattle.run_plan.specs.declared.operator.OperatorStep.{OperatorStep}
use Rattle.run_plan.specs.declared.operator.StepLine.{StepLine}
use Rattle.run_plan.specs.declared.operator.StepLine.TheVariants as step_line
use Rattle.run_plan.specs.declared.plan.Plan.{Plan}
use Rattle.toml.specs.Data.{Members}
use Rattle.scenario_lines.specs.Forms.{step_sorts}
use Rattle.scenario_lines.specs.Programs.{Each}
use Rattle.scenario_lines.specs.StepLines.{IsStepFormMeaning}
use Rattle.scenario_lines.specs.declared.form.StepForm.{StepForm}
use Rattle.scenario_lines.specs.declared.form.StepForm.TheVariants as step
use Rattle.scenario_lines.specs.declared.step.StepText.{StepText}
use Rattle.scenario_lines.specs.declared.step.StepText.TheVariants as text
use Rattle.scenario.specs.Applications.{entry_conn, operator_tables}
use Rattle.scenario.specs.Lines.{HasDecreasingCount}
use Rattle.scenario.specs.Operators.{IsOperatorFault, step_lines_of}
use Rattle.scenario.specs.Operators as against
use Rattle.scenario.specs.Scenarios.{IsOperatorMeaning, IsPlanOfScenario, IsStepLineMeaning, IsStepMeaning}
use Rattle.scenario.specs.declared.fault.ScenarioReason.TheVariants.{Known, Number, Unknown}
use Rattle.scenario_laws.proofs.Free.{operators_free}
use Rattle.scenario_laws.proofs.Lists.{all_by, distinct_from, each_length, each_map, each_right, free_of}
use Rattle.scenario_laws.proofs.Pairs.{on_application}

-- ---- names of steps

name_said : (s : WordKind) (word : List ℕ) (m : Meaning) → WordSays s word m → s ≡ sort.Name → IsName (name_in (Some m))
name_said sort.Name word (name x) h e = subst IsName (sym h.0) h.1
name_said sort.Name word _ h e = absurd h
name_said _ word m h e = absurd cc

named_at : (sorts : List WordKind) (words : List (List ℕ)) (ms : List Meaning) (k : ℕ) → HaveMeanings sorts words ms → slice_get sorts k ≡ Some sort.Name
    → IsName (name_at ms k)
named_at [] words ms k h e = absurd cc
named_at (s ∷ sorts) [] ms k h e = absurd h
named_at (s ∷ sorts) (w ∷ words) [] k h e = absurd h
named_at (s ∷ sorts) (w ∷ words) (m ∷ ms) zero h e = name_said s w m h.0 (same_Some s sort.Name e)
named_at (s ∷ sorts) (w ∷ words) (m ∷ ms) (suc k) h e = named_at sorts words ms k h.1 e

-- the name that a step is about
told_name : StepText → List ℕ
told_name (text.Attach count d n p) = n.now
told_name (text.Detach count n) = n.now
told_name (text.Upgrade count n p) = n.now

form_named : (f : StepForm) (words : List (List ℕ)) (ms : List Meaning) (told : StepText) → HaveMeanings (step_sorts f) words ms → IsStepFormMeaning f ms told
    → IsName (told_name told)
unfolding told_name
form_named step.Attach words ms (text.Attach count d n p) are h = subst IsName (sym h.2) (named_at (step_sorts step.Attach) words ms 3 are refl)
form_named step.Attach words ms _ are h = absurd h
form_named step.Detach words ms (text.Detach count n) are h = subst IsName (sym h.1) (named_at (step_sorts step.Detach) words ms 2 are refl)
form_named step.Detach words ms _ are h = absurd h
form_named step.Upgrade words ms (text.Upgrade count n p) are h = subst IsName (sym h.1) (named_at (step_sorts step.Upgrade) words ms 2 are refl)
form_named step.Upgrade words ms _ are h = absurd h

line_named : (all : Members) (told : StepText) (l : StepLine) → IsName (told_name told) → IsStepLineMeaning all told l → HasNames l
unfolding told_name
line_named all (text.Attach count d n p) (step_line.Attach at m place) is h = subst IsName h.1.1 is
line_named all _ (step_line.Attach at m place) is h = absurd h.1
line_named all (text.Detach count n) (step_line.Detach m) is h = subst IsName h is
line_named all _ (step_line.Detach m) is h = absurd h
line_named all (text.Upgrade count n p) (step_line.Upgrade m place) is h = subst IsName h.1.0 is
line_named all _ (step_line.Upgrade m place) is h = absurd h.1

step_named : (all : Members) (line : List ℕ) (s : OperatorStep) → IsStepMeaning all line s → HasNames s.line
step_named all line s h = line_named all h.0 s.line (form_named h.1.form (words_of line) h.1.meanings h.0 h.1.said h.1.tells) h.3

-- ---- counts of steps

counts_ascend : (all : Members) (front lines : List (List ℕ)) (steps : List OperatorStep) → Each (IsStepMeaning all) lines steps → (HasDecreasingCount (front ++ lines) → ⊥)
    → IsAscendingBy (λ (s t : OperatorStep). s.count ≤ t.count) steps
counts_ascend all front [] [] e none = tt
counts_ascend all front [] (s ∷ steps) e none = absurd e
counts_ascend all front (l ∷ lines) [] e none = absurd e
counts_ascend all front (l ∷ lines) (s ∷ []) e none = tt
counts_ascend all front (l ∷ []) (s ∷ t ∷ steps) e none = absurd e.1
counts_ascend all front (l ∷ m ∷ lines) (s ∷ t ∷ steps) e none = (
  elim (cases_lt t.count s.count) [
    | inl less ↦
        let first = e.0.2 in
        let second = e.1.0.2 in
        absurd (none (record {
          front = front;
          between = [];
          back = lines;
          first = l;
          second = m;
          there = sym (append_assoc front (l ∷ []) (m ∷ lines));
          earlier = e.0.0;
          later = e.1.0.0;
          first_meaning = e.0.1;
          second_meaning = e.1.0.1;
          less = omega (arith, less, first, second);
        }))
    | inr fine ↦ fine
  ],
  counts_ascend all (front ++ l ∷ []) (m ∷ lines) (t ∷ steps) e.1
      (λ falls. none (subst (λ (xs : List (List ℕ)). HasDecreasingCount xs) (append_assoc front (l ∷ []) (m ∷ lines)) falls)),
)

-- ---- operators

module _ (all : Members) (plan : Plan) (says : IsPlanOfScenario all plan) where
  pub operators_distinct : AreDistinct (map (λ (o : Operator). o.conn) plan.operators)
  operators_distinct = subst (λ (ns : List ℕ). AreDistinct ns)
      (each_map (IsOperatorMeaning all) entry_conn (λ (o : Operator). o.conn) (λ x y r. sym r.conn) (operator_tables all) plan.operators says.operators)
      (distinct_from entry_conn [] (operator_tables all) (λ before ms back e there.
      operators_free all plan says before ms (length before + 1) Known (record { back = back; whole = e; is_number = refl }) (against.is_known there refl)))

  is_operator : (operator : Operator) → Contains plan.operators operator → IsOperator plan operator
  is_operator operator there =
      let entry = each_right (IsOperatorMeaning all) (operator_tables all) plan.operators operator says.operators there in
      let free = free_of (IsOperatorFault all plan.declared.policies) (operator_tables all) (operators_free all plan says) entry.0 entry.1 in
      let lines = step_lines_of entry.0 in
      let count = each_length (IsStepMeaning all) lines operator.steps entry.2.steps in
      record {
        conn = subst (λ (n : ℕ). Contains (connections_of plan.applications) n) (sym entry.2.conn)
            (on_application all plan says (entry_conn entry.0) (λ none. free.1 Unknown (against.no_app none refl)));
        counts = counts_ascend all [] lines operator.steps entry.2.steps (λ falls. free.1 Number (against.falls falls refl));
        names = all_by (λ (s : OperatorStep). HasNames s.line) operator.steps (λ s in_steps.
            let line = each_right (IsStepMeaning all) lines operator.steps s entry.2.steps in_steps in
            step_named all line.0 s line.2);
        few = elim (cases_lt MAX_STEPS (length operator.steps)) [
          | inl more ↦ absurd (free.1 Number (against.too_many (omega (arith, more, count)) refl))
          | inr few ↦ few
        ];
      }

  pub are_operators : All (IsOperator plan) plan.operators
  are_operators = all_by (IsOperator plan) plan.operators is_operator
