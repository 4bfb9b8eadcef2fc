-- A line of a program or of an operator has a meaning or a fault.
use Rattle.std.proofs.Common.{◌≡◌, ◌⊎◌, ℕ, zero, suc, List, [], ◌∷◌, Option, Some, None, refl, ap, ◌∙◌, inl, inr, arith}
use Rattle.std.specs.Prelude.{slice_get}
use Rattle.std.specs.Borrow.{Bor}
use Rattle.std.proofs.lemmas.Bool.{cases_lt}
use Rattle.std.proofs.lemmas.Option.{same_Some}
use Rattle.mrpc_table.specs.Lines.{in_64_bits, words_of}
use Rattle.mrpc_table.specs.declared.words.Decimal.{Decimal}
use Rattle.mrpc_table.specs.declared.words.Decimal.TheVariants.{Small, Large}
use Rattle.app_program.specs.Programs.{IsStorePlace}
use Rattle.app_program.specs.declared.program.ProgramLine.{ProgramLine}
use Rattle.app_program.specs.declared.program.ProgramLine.TheVariants as program
use Rattle.script_grammar.specs.Lines.{HaveMeanings, HasReason, HasReasonInWords, in_word, miscounted}
use Rattle.script_grammar.specs.Reasons.{IsFirstReason}
use Rattle.script_grammar.specs.WordKinds.{Meaning, HasWordReason, name_at, number_at, unbounded, unbounded_at, unbounded_in}
use Rattle.script_grammar.specs.WordKinds.{HasMeaning as WordSays}
use Rattle.script_grammar.specs.declared.fault.ScriptReason.{ScriptReason}
use Rattle.script_grammar.specs.declared.word_kind.WordKind.{WordKind}
use Rattle.script_grammar.specs.declared.word_kind.WordKind.TheVariants as sort
use Rattle.run_plan.specs.declared.operator.OperatorStep.{OperatorStep}
use Rattle.run_plan.specs.declared.operator.StepLine.{StepLine}
use Rattle.run_plan.specs.declared.operator.StepLine.TheVariants as step_line
use Rattle.toml.specs.Data.{Members}
use Rattle.scenario_lines.specs.Forms.{line_sorts, step_sorts}
use Rattle.scenario_lines.specs.Lines.{IsFormMeaning, IsLine, IsNoPlace, IsProgramLineFault, IsProgramLineMeaning, IsWordsFault, words_after_first, line_form_of, line_place}
use Rattle.scenario_lines.specs.Lines as lines
use Rattle.scenario_lines.specs.Reasons.{line_reason_of_words}
use Rattle.scenario_lines.specs.StepLines.{IsStepFormMeaning, IsStepTextFault, step_form_of}
use Rattle.scenario_lines.specs.StepLines.{IsStepTextMeaning as LineTells}
use Rattle.scenario_lines.specs.StepLines as steps
use Rattle.scenario_lines.specs.declared.form.ProgramForm.{ProgramForm}
use Rattle.scenario_lines.specs.declared.form.ProgramForm.TheVariants as line
use Rattle.scenario_lines.specs.declared.form.ProgramRole.{ProgramRole}
use Rattle.scenario_lines.specs.declared.form.StepForm.{StepForm}
use Rattle.scenario_lines.specs.declared.form.StepForm.TheVariants as step
use Rattle.scenario_lines.specs.declared.reason.LineReason.{LineReason}
use Rattle.scenario_lines.specs.declared.reason.LineReason.TheVariants.{Number, Name, Word, Place}
use Rattle.scenario_lines.specs.declared.step.StepText.{StepText}
use Rattle.scenario_lines.specs.declared.step.StepText.TheVariants as text
use Rattle.scenario.specs.Lines.{count_in, step_policy}
use Rattle.scenario.specs.Scenarios.{IsStepLineMeaning, IsStepMeaning, policy_entry_index}

-- the law of words in use
abbrev pub OneJudgement : Type 0
OneJudgement =
    (sorts : List WordKind) (words : List (List ℕ)) → ((ms : List Meaning) × HaveMeanings sorts words ms) ⊎ ((r : ScriptReason) × IsFirstReason (HasReason sorts words) r)

-- ---- words

offends_by : (s : WordKind) (w : List ℕ) (q : ScriptReason) → HasWordReason s w q → (reason : LineReason) × (line_reason_of_words q ≡ Some reason)
offends_by (sort.Key k) w q h = (Word, ap line_reason_of_words h.1)
offends_by (sort.Fixed k) w q h = (Word, ap line_reason_of_words h.1)
offends_by (sort.Either k l) w q h = (Word, ap line_reason_of_words h.2)
offends_by (sort.Number least most) w q h = elim h [
  | inl none ↦ (Word, ap line_reason_of_words none.1)
  | inr out ↦ (Number, ap line_reason_of_words out.3)
]
offends_by sort.Unbounded w q h = (Word, ap line_reason_of_words h.1)
offends_by sort.Value w q h = elim h [
  | inl none ↦ (Word, ap line_reason_of_words none.1)
  | inr out ↦ (Number, ap line_reason_of_words out.3)
]
offends_by sort.Name w q h = (Name, ap line_reason_of_words h.1)

one_by : (sorts : List WordKind) (words : List (List ℕ)) (q : ScriptReason) → HasReasonInWords sorts words q → (reason : LineReason) × (line_reason_of_words q ≡ Some reason)
one_by [] words q h = absurd h
one_by (s ∷ sorts) [] q h = absurd h
one_by (s ∷ sorts) (w ∷ words) q h = elim h [
  | inl here ↦ offends_by s w q here
  | inr more ↦ one_by sorts words q more
]

against_by : (sorts : List WordKind) (words : List (List ℕ)) (q : ScriptReason) → HasReason sorts words q → (reason : LineReason) × IsWordsFault sorts words reason
against_by sorts words q (miscounted count is) = (Word, (q, miscounted count is, ap line_reason_of_words is))
against_by sorts words q (in_word count h) = (let r = one_by sorts words q h in (r.0, (q, in_word count h, r.1)))

words_either : OneJudgement → (sorts : List WordKind) (words : List (List ℕ))
    → ((ms : List Meaning) × HaveMeanings sorts words ms) ⊎ ((reason : LineReason) × IsWordsFault sorts words reason)
words_either judge sorts words = elim (judge sorts words) [
  | inl said ↦ inl said
  | inr against ↦ inr (against_by sorts words against.0 against.1.stands)
]

-- ---- lines of programs

place_either : (heap place : ℕ) → IsStorePlace heap place ⊎ (IsStorePlace heap place → ⊥)
place_either heap place = elim (cases_lt 0 place) [
  | inl one ↦ elim (cases_lt place heap) [
    | inl there ↦ inl (record { from_one = omega (arith, one); in_heap = there })
    | inr past ↦ inr (λ is. let there = is.in_heap in absurd (omega (arith, past, there)))
  ]
  | inr none ↦ inr (λ is. let one = is.from_one in absurd (omega (arith, none, one)))
]

-- a place in a line is one of the heap, or it isn't
decimal_either : (heap : ℕ) (d : Decimal) → ((place : ℕ) × (d ≡ Small place) × IsStorePlace heap place) ⊎ IsNoPlace heap (Some d)
decimal_either heap (Small place) = elim (place_either heap place) [
  | inl there ↦ inl (place, refl, there)
  | inr none ↦ inr none
]
decimal_either heap Large = inr tt

form_either : (heap : ℕ) (f : ProgramForm) (ms : List Meaning) → ((l : ProgramLine) × IsFormMeaning heap f ms l) ⊎ IsNoPlace heap (line_place f ms)
form_either heap line.Store ms = elim (decimal_either heap (unbounded_at ms 0)) [
  | inl there ↦ inl (program.Store there.0 (number_at ms 1), (there.1, there.2, refl))
  | inr none ↦ inr none
]
form_either heap line.Spin ms = elim (decimal_either heap (unbounded_at ms 1)) [
  | inl there ↦ inl (program.Spin (number_at ms 0) there.0 (number_at ms 2) (number_at ms 3), (refl, there.1, there.2, refl, refl))
  | inr none ↦ inr none
]
form_either heap line.Submit ms = inl (program.Submit (number_at ms 0) (number_at ms 1), (refl, refl))
form_either heap line.Reclaim ms = inl (program.Reclaim (number_at ms 0), refl)
form_either heap line.Reply ms = inl (program.Reply (number_at ms 0), refl)

module _ (judge : OneJudgement) (r : ProgramRole) (heap : ℕ) (text : List ℕ) where
  by_form : (o : Option ProgramForm) → line_form_of r text ≡ o → ((l : ProgramLine) × IsProgramLineMeaning r heap text l) ⊎ ((q : LineReason) × IsProgramLineFault r heap text q)
  by_form None e = inr (Word, lines.no_form e refl)
  by_form (Some f) e = elim (words_either judge (line_sorts f) (words_after_first (words_of text))) [
    | inl said ↦
        let is : IsLine r text f said.0 = record { form = e; said = said.1 } in
        elim (form_either heap f said.0) [
          | inl says ↦ inl (says.0, record { form = f; meanings = said.0; is_line = is; says = says.1 })
          | inr none ↦ inr (Place, lines.no_place f said.0 is none refl)
        ]
    | inr why ↦ inr (why.0, lines.in_words f e why.1)
  ]

  pub line_either : ((l : ProgramLine) × IsProgramLineMeaning r heap text l) ⊎ ((q : LineReason) × IsProgramLineFault r heap text q)
  line_either = by_form (line_form_of r text) refl

-- ---- step lines

shown : List ℕ → Bor (List ℕ)
shown x = record { ref_ptr = (0, 0); now = x }

told_by : (f : StepForm) (ms : List Meaning) → (told : StepText) × IsStepFormMeaning f ms told
unfolding shown
told_by step.Attach ms =
    (text.Attach (number_at ms 0) (unbounded_at ms 2) (shown (name_at ms 3)) (shown (name_at ms 4)), (refl, refl, refl, refl))
told_by step.Detach ms = (text.Detach (number_at ms 0) (shown (name_at ms 2)), (refl, refl))
told_by step.Upgrade ms = (text.Upgrade (number_at ms 0) (shown (name_at ms 2)) (shown (name_at ms 3)), (refl, refl, refl))

module _ (judge : OneJudgement) (said : List ℕ) where
  step_by : (o : Option StepForm) → step_form_of said ≡ o → ((told : StepText) × LineTells said told) ⊎ ((q : LineReason) × IsStepTextFault said q)
  step_by None e = inr (Word, steps.no_form e refl)
  step_by (Some f) e = elim (words_either judge (step_sorts f) (words_of said)) [
    | inl are ↦
        let told = told_by f are.0 in
        inl (told.0, record { form = f; meanings = are.0; is_form = e; said = are.1; tells = told.1 })
    | inr why ↦ inr (why.0, steps.in_words f e why.1)
  ]

  pub step_either : ((told : StepText) × LineTells said told) ⊎ ((q : LineReason) × IsStepTextFault said q)
  step_either = step_by (step_form_of said) refl

-- a position in a text is some number
unbounded_by : (s : WordKind) (w : List ℕ) (m : Meaning) → WordSays s w m → s ≡ sort.Unbounded → (n : ℕ) × (unbounded_in (Some m) ≡ in_64_bits n)
unbounded_by sort.Unbounded w (unbounded d) h e = (h.0, h.2)
unbounded_by sort.Unbounded w _ h e = absurd h
unbounded_by _ w m h e = absurd cc

unbounded_said : (sorts : List WordKind) (words : List (List ℕ)) (ms : List Meaning) (k : ℕ) → HaveMeanings sorts words ms
    → slice_get sorts k ≡ Some sort.Unbounded → (n : ℕ) × (unbounded_at ms k ≡ in_64_bits n)
unbounded_said [] words ms k h e = absurd cc
unbounded_said (s ∷ sorts) [] ms k h e = absurd h
unbounded_said (s ∷ sorts) (w ∷ words) [] k h e = absurd h
unbounded_said (s ∷ sorts) (w ∷ words) (m ∷ ms) zero h e = unbounded_by s w m h.0 (same_Some s sort.Unbounded e)
unbounded_said (s ∷ sorts) (w ∷ words) (m ∷ ms) (suc k) h e = unbounded_said sorts words ms k h.1 e

position_told : (f : StepForm) (words : List (List ℕ)) (ms : List Meaning) (count : ℕ) (d : Decimal) (name policy : Bor (List ℕ))
    → HaveMeanings (step_sorts f) words ms → IsStepFormMeaning f ms (text.Attach count d name policy) → (n : ℕ) × (d ≡ in_64_bits n)
position_told step.Attach words ms count d name policy are h =
    (let n = unbounded_said (step_sorts step.Attach) words ms 2 are refl in (n.0, h.1 ∙ n.1))
position_told step.Detach words ms count d name policy are h = absurd h
position_told step.Upgrade words ms count d name policy are h = absurd h

module _ (all : Members) (said : List ℕ) where
  -- a step, if the policy that its line names has an index
  line_by : (told : StepText) → LineTells said told → ((name : List ℕ) → step_policy told ≡ Some name → (place : ℕ) × (policy_entry_index all name ≡ Some place))
      → (l : StepLine) × IsStepLineMeaning all told l
  line_by (text.Attach count d name policy) tells placed =
      let n = position_told tells.form (words_of said) tells.meanings count d name policy tells.said tells.tells in
      let place = placed policy.now refl in
      (step_line.Attach n.0 name.now place.0, (policy.now, (n.1, refl, refl), place.1))
  line_by (text.Detach count name) tells placed = (step_line.Detach name.now, refl)
  line_by (text.Upgrade count name policy) tells placed =
      let place = placed policy.now refl in
      (step_line.Upgrade name.now place.0, (policy.now, (refl, refl), place.1))

  pub step_of : (told : StepText) → LineTells said told → ((name : List ℕ) → step_policy told ≡ Some name → (place : ℕ) × (policy_entry_index all name ≡ Some place))
      → (s : OperatorStep) × IsStepMeaning all said s
  step_of told tells placed = (let l = line_by told tells placed in (record { count = count_in told; line = l.0 }, (told, tells, refl, l.1)))
