use Rattle.std.proofs.Common.{List, ℕ, Option, ap, sym, ◌∙◌, subst}
use Rattle.std.specs.Borrow.{Bor}
use Rattle.std.proofs.lemmas.Result.{err_from_is_err_and}
use Rattle.mrpc_table.specs.Lines.{words_of}
use Rattle.script_grammar.specs.declared.word_kind.WordKind.{WordKind}
use Rattle.scenario_lines.specs.Forms.{step_form}
use Rattle.script_grammar.specs.Remainders.{words_in}
use Rattle.scenario_lines.specs.Lines.{IsWordsFault, words_after_first, first_word_of}
use Rattle.scenario_lines.specs.Reasons.{IsFirstLineReason}
use Rattle.scenario_lines.proofs.StepReading.{words_first}
use Rattle.scenario_lines.proofs.step.read_step.Goals as goal

pub returns-in_err-words : goal.returns-in_err-words
returns-in_err-words c =
    let p = err_from_is_err_and c.from_residual.result c.from_residual.ensures.1 in
    rw (p.1, p.2)
    (words_first c.args.line.now c.in-Some-of.form c.in_err-words.field-0.0
    (ap (λ (x : List (List ℕ)). step_form (first_word_of (words_after_first x))) c.first_word.ensures
    ∙ ap (λ (r : Option (Bor (List ℕ))). step_form (first_word_of (words_in r))) c.in-Some.is
    ∙ ap (λ (x : List (List ℕ)). step_form (first_word_of x)) c.first_word-2.ensures ∙ sym c.of.ensures ∙ c.in-Some-of.is)
    (subst (λ (x : List WordKind). IsFirstLineReason (IsWordsFault x (words_of c.args.line.now)) c.in_err-words.field-0.0) c.word_kinds.ensures.sorts
    c.in_err-words.ensures))
