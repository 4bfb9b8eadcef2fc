-- A line has one meaning: one line of a program, one step of an operator, except for a position beyond any chain.
use Rattle.std.proofs.Common.{◌≡◌, ℕ, ◌<◌, ◌^◌, Bool, if◌then◌else◌, List, Some, sym, ap, ◌∙◌, subst}
use Rattle.std.proofs.lemmas.Bool.{lt-ltb}
use Rattle.std.proofs.lemmas.Option.{same_Some}
use Rattle.mrpc_table.specs.Lines.{in_64_bits, words_of}
use Rattle.mrpc_table.specs.declared.words.Decimal.{Decimal}
use Rattle.mrpc_table.specs.declared.words.Decimal.TheVariants.{Small, Large}
use Rattle.app_program.specs.declared.program.ProgramLine.{ProgramLine}
use Rattle.app_program.specs.declared.program.ProgramLine.TheVariants as program
use Rattle.script_grammar.specs.Lines.{HaveMeanings}
use Rattle.script_grammar.specs.WordKinds.{Meaning}
use Rattle.script_grammar.specs.declared.word_kind.WordKind.{WordKind}
use Rattle.run_plan.specs.declared.operator.OperatorStep.{OperatorStep}
use Rattle.run_plan.specs.declared.operator.StepLine.{StepLine}
use Rattle.run_plan.specs.declared.operator.StepLine.TheVariants as step_line
use Rattle.toml.specs.Data.{Members}
use Rattle.scenario_lines.specs.Forms.{line_sorts, step_sorts}
use Rattle.scenario_lines.specs.Lines.{IsFormMeaning, IsProgramLineMeaning, words_after_first}
use Rattle.scenario_lines.specs.StepLines.{IsStepFormMeaning}
use Rattle.scenario_lines.specs.StepLines.{IsStepTextMeaning as LineTells}
use Rattle.scenario_lines.specs.declared.form.ProgramForm.{ProgramForm}
use Rattle.scenario_lines.specs.declared.form.ProgramForm.TheVariants as line
use Rattle.scenario_lines.specs.declared.form.ProgramRole.{ProgramRole}
use Rattle.scenario_lines.specs.declared.form.StepForm.{StepForm}
use Rattle.scenario_lines.specs.declared.form.StepForm.TheVariants as step
use Rattle.scenario_lines.specs.declared.step.StepText.{StepText}
use Rattle.scenario_lines.specs.declared.step.StepText.TheVariants as text
use Rattle.scenario.specs.Lines.{count_in}
use Rattle.scenario.specs.Scenarios.{IsStepLineMeaning, IsStepMeaning, policy_entry_index}

abbrev pub OneMeaning : Type 0
OneMeaning = (sorts : List WordKind) (words : List (List ℕ)) (ms ns : List Meaning) → HaveMeanings sorts words ms → HaveMeanings sorts words ns → ms ≡ ns

-- ---- lines of programs

says_one : (heap : ℕ) (f : ProgramForm) (ms : List Meaning) (l k : ProgramLine) → IsFormMeaning heap f ms l → IsFormMeaning heap f ms k → l ≡ k
says_one heap line.Store ms (program.Store p v) (program.Store q w) h j = cc
says_one heap line.Store ms (program.Store p v) _ h j = absurd j
says_one heap line.Store ms _ k h j = absurd h
says_one heap line.Spin ms (program.Spin t p v w) (program.Spin u q x y) h j = cc
says_one heap line.Spin ms (program.Spin t p v w) _ h j = absurd j
says_one heap line.Spin ms _ k h j = absurd h
says_one heap line.Submit ms (program.Submit m a) (program.Submit n b) h j = cc
says_one heap line.Submit ms (program.Submit m a) _ h j = absurd j
says_one heap line.Submit ms _ k h j = absurd h
says_one heap line.Reclaim ms (program.Reclaim b) (program.Reclaim d) h j = cc
says_one heap line.Reclaim ms (program.Reclaim b) _ h j = absurd j
says_one heap line.Reclaim ms _ k h j = absurd h
says_one heap line.Reply ms (program.Reply a) (program.Reply b) h j = cc
says_one heap line.Reply ms (program.Reply a) _ h j = absurd j
says_one heap line.Reply ms _ k h j = absurd h

-- ---- steps

-- a position in a chain, and no larger number
abbrev pub IsBounded : StepLine → Type 0
IsBounded (step_line.Attach at name place) = at < 2 ^ 64
IsBounded _ = Unit {0}

small_in : (n : ℕ) → n < 2 ^ 64 → in_64_bits n ≡ Small n
small_in n h = ap (λ (b : Bool). if b then Small n else Large) (lt-ltb n (2 ^ 64) h)

same_position : (m n : ℕ) (d : Decimal) → d ≡ in_64_bits m → d ≡ in_64_bits n → m < 2 ^ 64 → n < 2 ^ 64 → m ≡ n
same_position m n d e f within within' = (let same : Small m ≡ Small n = sym (small_in m within) ∙ sym e ∙ f ∙ small_in n within' in cc)

-- two texts of steps agree in their counts, their forms, and their names
abbrev AreTold : StepText → StepText → Type 0
AreTold (text.Attach c d n p) (text.Attach c' d' n' p') = (c ≡ c') × (d ≡ d') × (n.now ≡ n'.now) × (p.now ≡ p'.now)
AreTold (text.Detach c n) (text.Detach c' n') = (c ≡ c') × (n.now ≡ n'.now)
AreTold (text.Upgrade c n p) (text.Upgrade c' n' p') = (c ≡ c') × (n.now ≡ n'.now) × (p.now ≡ p'.now)
AreTold _ _ = ⊥

tells_one : (f : StepForm) (ms : List Meaning) (a b : StepText) → IsStepFormMeaning f ms a → IsStepFormMeaning f ms b → AreTold a b
tells_one step.Attach ms (text.Attach c d n p) (text.Attach c' d' n' p') h j = (h.0 ∙ sym j.0, h.1 ∙ sym j.1, h.2 ∙ sym j.2, h.3 ∙ sym j.3)
tells_one step.Attach ms (text.Attach c d n p) _ h j = absurd j
tells_one step.Attach ms _ b h j = absurd h
tells_one step.Detach ms (text.Detach c n) (text.Detach c' n') h j = (h.0 ∙ sym j.0, h.1 ∙ sym j.1)
tells_one step.Detach ms (text.Detach c n) _ h j = absurd j
tells_one step.Detach ms _ b h j = absurd h
tells_one step.Upgrade ms (text.Upgrade c n p) (text.Upgrade c' n' p') h j = (h.0 ∙ sym j.0, h.1 ∙ sym j.1, h.2 ∙ sym j.2)
tells_one step.Upgrade ms (text.Upgrade c n p) _ h j = absurd j
tells_one step.Upgrade ms _ b h j = absurd h

same_count : (a b : StepText) → AreTold a b → count_in a ≡ count_in b
same_count (text.Attach c d n p) (text.Attach c' d' n' p') h = h.0
same_count (text.Detach c n) (text.Detach c' n') h = h.0
same_count (text.Upgrade c n p) (text.Upgrade c' n' p') h = h.0
same_count (text.Attach c d n p) _ h = absurd h
same_count (text.Detach c n) _ h = absurd h
same_count (text.Upgrade c n p) _ h = absurd h

attach_same : (at at' : ℕ) (n n' : List ℕ) (p p' : ℕ) → at ≡ at' → n ≡ n' → p ≡ p' → step_line.Attach at n p ≡ step_line.Attach at' n' p'
attach_same at at' n n' p p' a b d = cc

upgrade_same : (n n' : List ℕ) (p p' : ℕ) → n ≡ n' → p ≡ p' → step_line.Upgrade n p ≡ step_line.Upgrade n' p'
upgrade_same n n' p p' b d = cc

module _ (all : Members) where
  same_place : (n n' : List ℕ) (p p' : ℕ) → policy_entry_index all n ≡ Some p → policy_entry_index all n' ≡ Some p' → n ≡ n' → p ≡ p'
  same_place n n' p p' e f same = same_Some p p' (sym e ∙ ap (policy_entry_index all) same ∙ f)

  line_one : (a b : StepText) (l k : StepLine) → AreTold a b → IsStepLineMeaning all a l → IsStepLineMeaning all b k → IsBounded l → IsBounded k → l ≡ k
  line_one (text.Attach c d n p) (text.Attach c' d' n' p') (step_line.Attach at m place) (step_line.Attach at' m' place') same h j within within' =
      attach_same at at' m m' place place'
      (same_position at at' d h.1.0 (same.1 ∙ j.1.0) within within')
      (sym h.1.1 ∙ same.2 ∙ j.1.1)
      (same_place h.0 j.0 place place' h.2 j.2 (sym h.1.2 ∙ same.3 ∙ j.1.2))
  line_one (text.Detach c n) (text.Detach c' n') (step_line.Detach m) (step_line.Detach m') same h j within within' =
      ap (λ (x : List ℕ). step_line.Detach x) (sym h ∙ same.1 ∙ j)
  line_one (text.Upgrade c n p) (text.Upgrade c' n' p') (step_line.Upgrade m place) (step_line.Upgrade m' place') same h j within within' =
      upgrade_same m m' place place' (sym h.1.0 ∙ same.1 ∙ j.1.0)
      (same_place h.0 j.0 place place' h.2 j.2 (sym h.1.1 ∙ same.2 ∙ j.1.1))
  line_one (text.Attach c d n p) (text.Detach c' n') l k same h j within within' = absurd same
  line_one (text.Attach c d n p) (text.Upgrade c' n' p') l k same h j within within' = absurd same
  line_one (text.Detach c n) (text.Attach c' d' n' p') l k same h j within within' = absurd same
  line_one (text.Detach c n) (text.Upgrade c' n' p') l k same h j within within' = absurd same
  line_one (text.Upgrade c n p) (text.Attach c' d' n' p') l k same h j within within' = absurd same
  line_one (text.Upgrade c n p) (text.Detach c' n') l k same h j within within' = absurd same
  line_one (text.Attach c d n p) (text.Attach c' d' n' p') (step_line.Attach at m place) (step_line.Detach m') same h j within within' = absurd j
  line_one (text.Attach c d n p) (text.Attach c' d' n' p') (step_line.Attach at m place) (step_line.Upgrade m' place') same h j within within' = absurd j.1
  line_one (text.Attach c d n p) (text.Attach c' d' n' p') (step_line.Detach m) k same h j within within' = absurd h
  line_one (text.Attach c d n p) (text.Attach c' d' n' p') (step_line.Upgrade m place) k same h j within within' = absurd h.1
  line_one (text.Detach c n) (text.Detach c' n') (step_line.Detach m) (step_line.Attach at' m' place') same h j within within' = absurd j.1
  line_one (text.Detach c n) (text.Detach c' n') (step_line.Detach m) (step_line.Upgrade m' place') same h j within within' = absurd j.1
  line_one (text.Detach c n) (text.Detach c' n') (step_line.Attach at m place) k same h j within within' = absurd h.1
  line_one (text.Detach c n) (text.Detach c' n') (step_line.Upgrade m place) k same h j within within' = absurd h.1
  line_one (text.Upgrade c n p) (text.Upgrade c' n' p') (step_line.Upgrade m place) (step_line.Attach at' m' place') same h j within within' = absurd j.1
  line_one (text.Upgrade c n p) (text.Upgrade c' n' p') (step_line.Upgrade m place) (step_line.Detach m') same h j within within' = absurd j
  line_one (text.Upgrade c n p) (text.Upgrade c' n' p') (step_line.Attach at m place) k same h j within within' = absurd h.1
  line_one (text.Upgrade c n p) (text.Upgrade c' n' p') (step_line.Detach m) k same h j within within' = absurd h

module _ (one : OneMeaning) where
  pub one_line : (r : ProgramRole) (heap : ℕ) (text : List ℕ) (l k : ProgramLine) → IsProgramLineMeaning r heap text l → IsProgramLineMeaning r heap text k → l ≡ k
  one_line r heap text l k a b =
      let form : a.form ≡ b.form = same_Some a.form b.form (sym a.is_line.form ∙ b.is_line.form) in
      let same = one (line_sorts b.form) (words_after_first (words_of text)) a.meanings b.meanings
      (subst (λ (f : ProgramForm). HaveMeanings (line_sorts f) (words_after_first (words_of text)) a.meanings) form a.is_line.said) b.is_line.said in
      says_one heap b.form b.meanings l k
      (subst (λ (ms : List Meaning). IsFormMeaning heap b.form ms l) same (subst (λ (f : ProgramForm). IsFormMeaning heap f a.meanings l) form a.says)) b.says

  one_told : (line : List ℕ) (a b : StepText) → LineTells line a → LineTells line b → AreTold a b
  one_told line a b p q =
      let form : p.form ≡ q.form = same_Some p.form q.form (sym p.is_form ∙ q.is_form) in
      let same = one (step_sorts q.form) (words_of line) p.meanings q.meanings
      (subst (λ (f : StepForm). HaveMeanings (step_sorts f) (words_of line) p.meanings) form p.said) q.said in
      tells_one q.form q.meanings a b
      (subst (λ (ms : List Meaning). IsStepFormMeaning q.form ms a) same (subst (λ (f : StepForm). IsStepFormMeaning f p.meanings a) form p.tells)) q.tells

  pub one_step : (all : Members) (line : List ℕ) (s t : OperatorStep) → IsStepMeaning all line s → IsStepMeaning all line t → IsBounded s.line → IsBounded t.line → s ≡ t
  one_step all line s t h j within within' =
      let told = one_told line h.0 j.0 h.1 j.1 in
      let count : s.count ≡ t.count = h.2 ∙ same_count h.0 j.0 told ∙ sym j.2 in
      let lines = line_one all h.0 j.0 s.line t.line told h.3 j.3 within within' in
      let made : ℕ → StepLine → OperatorStep = λ n l. record { count = n; line = l } in
      ap (λ (n : ℕ). made n s.line) count ∙ ap (made t.count) lines
