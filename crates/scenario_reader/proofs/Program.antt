-- Lines that are a program have no fault.
use Rattle.std.proofs.Common.{◌≡◌, ℕ, ◌<◌, ◌≤◌, true, false, List, [], ◌∷◌, length, Some, inl, inr, refl, sym, ap, ◌∙◌, subst, arith}
use Rattle.mrpc_table.specs.Lines.{words_of}
use Rattle.mrpc_table.specs.declared.words.Decimal.{Decimal}
use Rattle.app_program.specs.Programs.{program_stores}
use Rattle.app_program.specs.declared.program.ProgramLine.{ProgramLine}
use Rattle.app_program.specs.declared.program.ProgramLine.TheVariants as program
use Rattle.script_grammar.specs.Lines.{HaveMeanings, HasReason}
use Rattle.script_grammar.specs.WordKinds.{Meaning}
use Rattle.script_grammar.specs.declared.fault.ScriptReason.{ScriptReason}
use Rattle.script_grammar.specs.declared.word_kind.WordKind.{WordKind}
use Rattle.scenario.specs.Lines.{program_role}
use Rattle.scenario.specs.Reasons.{IsFirstScenarioReason, reason_of_line, scenario_reason_rank}
use Rattle.scenario.specs.declared.fault.ScenarioReason.{ScenarioReason}
use Rattle.scenario.specs.declared.entry_words.RoleWord.{RoleWord}
use Rattle.scenario_lines.specs.Forms.{line_sorts}
use Rattle.scenario_lines.specs.Lines.{IsFormMeaning, IsNoPlace, IsProgramLineFault, IsProgramLineMeaning, words_after_first, line_form_of, in_words, no_form, no_place, line_place}
use Rattle.scenario_lines.specs.Programs.{Each, IsProgramFault, IsProgramMeaning, AreValidLineMeanings, in_line, most_stores, no_reply, too_many_lines, too_many_stores}
use Rattle.scenario_lines.specs.Reasons.{IsFirstLineReason}
use Rattle.scenario_lines.specs.declared.form.ProgramForm.{ProgramForm}
use Rattle.scenario_lines.specs.declared.form.ProgramForm.TheVariants as line
use Rattle.scenario_lines.specs.declared.form.ProgramRole.{ProgramRole}
use Rattle.scenario_lines.specs.declared.reason.LineReason.{LineReason}
use Rattle.scenario_reader.specs.Joining.{HasProgramFault}
use Rattle.scenario_reader.proofs.Lists.{each_of}
use Rattle.scenario_reader.proofs.Stepping.{line_order}

-- the laws of words that a reader uses
abbrev pub NotBoth : Type 0
NotBoth = (sorts : List WordKind) (words : List (List ℕ)) (ms : List Meaning) (r : ScriptReason)
    → HaveMeanings sorts words ms → HasReason sorts words r → ⊥

some_is : {A : Type 0} (a b : A) → Some a ≡ Some b → a ≡ b
some_is a b e = cc

same_form : (r : ProgramRole) (text : List ℕ) (f g : ProgramForm) → line_form_of r text ≡ Some f → line_form_of r text ≡ Some g → g ≡ f
same_form r text f g a b = some_is g f (sym b ∙ a)

abbrev pub One : Type 0
One = (sorts : List WordKind) (words : List (List ℕ)) (ms ns : List Meaning) → HaveMeanings sorts words ms → HaveMeanings sorts words ns → ms ≡ ns

says_one : (heap : ℕ) (f : ProgramForm) (ms : List Meaning) (l k : ProgramLine) → IsFormMeaning heap f ms l → IsFormMeaning heap f ms k → l ≡ k
says_one heap line.Store ms (program.Store p v) (program.Store q w) h j = cc
says_one heap line.Store ms (program.Store p v) _ h j = absurd j
says_one heap line.Store ms _ k h j = absurd h
says_one heap line.Spin ms (program.Spin t p v w) (program.Spin u q x y) h j = cc
says_one heap line.Spin ms (program.Spin t p v w) _ h j = absurd j
says_one heap line.Spin ms _ k h j = absurd h
says_one heap line.Submit ms (program.Submit m a) (program.Submit n b) h j = cc
says_one heap line.Submit ms (program.Submit m a) _ h j = absurd j
says_one heap line.Submit ms _ k h j = absurd h
says_one heap line.Reclaim ms (program.Reclaim b) (program.Reclaim d) h j = cc
says_one heap line.Reclaim ms (program.Reclaim b) _ h j = absurd j
says_one heap line.Reclaim ms _ k h j = absurd h
says_one heap line.Reply ms (program.Reply a) (program.Reply b) h j = cc
says_one heap line.Reply ms (program.Reply a) _ h j = absurd j
says_one heap line.Reply ms _ k h j = absurd h

says_place : (heap : ℕ) (f : ProgramForm) (ms : List Meaning) (l : ProgramLine) → IsFormMeaning heap f ms l
    → IsNoPlace heap (line_place f ms) → ⊥
says_place heap line.Store ms (program.Store p v) h bad = subst (λ (d : Decimal). IsNoPlace heap (Some d)) h.0 bad h.1
says_place heap line.Store ms _ h bad = absurd h
says_place heap line.Spin ms (program.Spin t p v w) h bad = subst (λ (d : Decimal). IsNoPlace heap (Some d)) h.1 bad h.2
says_place heap line.Spin ms _ h bad = absurd h
says_place heap line.Submit ms l h bad = bad
says_place heap line.Reclaim ms l h bad = bad
says_place heap line.Reply ms l h bad = bad

one_line : One → (r : ProgramRole) (heap : ℕ) (text : List ℕ) (l k : ProgramLine) → IsProgramLineMeaning r heap text l
    → IsProgramLineMeaning r heap text k → l ≡ k
one_line one r heap text l k a b =
    let f = same_form r text b.form a.form b.is_line.form a.is_line.form in
    let ms = one (line_sorts b.form) (words_after_first (words_of text)) a.meanings b.meanings
    (subst (λ (x : ProgramForm). HaveMeanings (line_sorts x) (words_after_first (words_of text)) a.meanings) f a.is_line.said) b.is_line.said in
    says_one heap b.form b.meanings l k
    (subst (λ (x : List Meaning). IsFormMeaning heap b.form x l) ms (subst (λ (x : ProgramForm). IsFormMeaning heap x a.meanings l) f a.says))
    b.says

not_both_line : NotBoth → One → (r : ProgramRole) (heap : ℕ) (text : List ℕ) (l : ProgramLine) (q : LineReason)
    → IsProgramLineMeaning r heap text l → IsProgramLineFault r heap text q → ⊥
not_both_line not one r heap text l q a (no_form e w) = let f = a.is_line.form in absurd cc
not_both_line not one r heap text l q a (in_words g e w) =
    not (line_sorts g) (words_after_first (words_of text)) a.meanings w.0
    (subst (λ (x : ProgramForm). HaveMeanings (line_sorts x) (words_after_first (words_of text)) a.meanings) (same_form r text g a.form e a.is_line.form) a.is_line.said)
    w.1
not_both_line not one r heap text l q a (no_place g ns is bad w) =
    let f = same_form r text g a.form is.form a.is_line.form in
    let ms = one (line_sorts g) (words_after_first (words_of text)) a.meanings ns
    (subst (λ (x : ProgramForm). HaveMeanings (line_sorts x) (words_after_first (words_of text)) a.meanings) f a.is_line.said) is.said in
    says_place heap g ns l
    (subst (λ (x : List Meaning). IsFormMeaning heap g x l) ms (subst (λ (x : ProgramForm). IsFormMeaning heap x a.meanings l) f a.says)) bad

one_say : NotBoth → One → (r : ProgramRole) (heap : ℕ) (texts : List (List ℕ)) (xs ys : List ProgramLine)
    → AreValidLineMeanings r heap texts xs → AreValidLineMeanings r heap texts ys → xs ≡ ys
one_say not one r heap [] xs ys a b = a ∙ sym b
one_say not one r heap (t ∷ texts) xs ys (inl a) (inl b) =
    let same = one_line one r heap t a.0 b.0 a.2 b.2 in
    let rest = one_say not one r heap texts a.1 b.1 a.4 b.4 in
    let x = a.3 in let y = b.3 in cc
one_say not one r heap (t ∷ texts) xs ys (inl a) (inr b) = absurd (not_both_line not one r heap t a.0 b.0.0 a.2 b.0.1)
one_say not one r heap (t ∷ texts) xs ys (inr a) (inl b) = absurd (not_both_line not one r heap t b.0 a.0.0 b.2 a.0.1)
one_say not one r heap (t ∷ texts) xs ys (inr a) (inr b) = one_say not one r heap texts xs ys a.1 b.1

some_of : (r : ProgramRole) (heap : ℕ) (texts : List (List ℕ)) (xs : List ProgramLine) → Each (IsProgramLineMeaning r heap) texts xs → AreValidLineMeanings r heap texts xs
some_of r heap [] [] h = refl
some_of r heap [] (x ∷ xs) h = absurd h
some_of r heap (t ∷ texts) [] h = absurd h
some_of r heap (t ∷ texts) (x ∷ xs) h = inl (x, xs, h.0, refl, some_of r heap texts xs h.1)

module _ (not : NotBoth) (one : One) (r : ProgramRole) (heap : ℕ) (texts : List (List ℕ)) where
  pub program_free : (lines : List ProgramLine) (q : LineReason) → IsProgramMeaning r heap texts lines → IsProgramFault r heap texts q → ⊥
  program_free lines q says (in_line text there against) =
      let l = each_of (IsProgramLineMeaning r heap) texts lines text says.said there in
      not_both_line not one r heap text l.0 q l.2 against
  program_free lines q says (too_many_stores said some over is) =
      let same = one_say not one r heap texts said lines some (some_of r heap texts lines says.said) in
      let few = says.stores in
      let more : most_stores r < length (program_stores lines) = subst (λ (xs : List ProgramLine). most_stores r < length (program_stores xs)) same over in
      absurd (omega (arith, few, more))
  program_free lines q says (too_many_lines said some over is) =
      let same = ap (λ (xs : List ProgramLine). length xs) (one_say not one r heap texts said lines some (some_of r heap texts lines says.said)) in
      let few = says.few in
      absurd (omega (arith, few, over, same))
  program_free lines q says (no_reply server none is) = absurd (let e : true ≡ false = sym (says.reply server) ∙ none in cc)

  -- ---- the role of an application

  module _ (w : RoleWord) (of : program_role w ≡ Some r) where
    fails_of : (q : ScenarioReason) → HasProgramFault w heap texts q → (why : LineReason) × IsProgramFault r heap texts why × (q ≡ reason_of_line why)
    fails_of q h = (h.why, subst (λ (p : ProgramRole). IsProgramFault p heap texts h.why) (some_is h.of r (sym h.is_of ∙ of)) h.against, h.is)

    pub role_free : (lines : List ProgramLine) → IsProgramMeaning r heap texts lines → (q : ScenarioReason) → HasProgramFault w heap texts q → ⊥
    role_free lines says q h = (let f = fails_of q h in program_free lines f.0 says f.1)

    pub role_first : (why : LineReason) → IsFirstLineReason (IsProgramFault r heap texts) why → IsFirstScenarioReason (HasProgramFault w heap texts) (reason_of_line why)
    role_first why is = record {
      stands = record { of = r; is_of = of; why = why; against = is.stands; is = refl };
      first = λ q h. (let f = fails_of q h in
          subst (λ (x : ScenarioReason). scenario_reason_rank (reason_of_line why) ≤ scenario_reason_rank x) (sym f.2) (line_order why f.0 (is.first f.0 f.1)));
    }
