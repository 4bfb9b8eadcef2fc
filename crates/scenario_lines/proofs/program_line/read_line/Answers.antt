use Rattle.std.proofs.Common.{List, ℕ, ap, sym, ◌∙◌, subst}
use Rattle.std.proofs.lemmas.Result.{err_from_is_err_and}
use Rattle.mrpc_table.specs.Lines.{words_of}
use Rattle.script_grammar.specs.Lines.{HaveMeanings}
use Rattle.script_grammar.specs.Meanings.{meanings_of}
use Rattle.script_grammar.specs.declared.word_kind.WordValue.{WordValue}
use Rattle.script_grammar.specs.declared.word_kind.WordKind.{WordKind}
use Rattle.scenario_lines.specs.Forms.{line_form, line_sorts}
use Rattle.script_grammar.specs.Remainders.{words_in}
use Rattle.scenario_lines.specs.Lines.{IsNoPlace, IsWordsFault, words_after_first, first_word_of, line_place}
use Rattle.scenario_lines.specs.Reasons.{IsFirstLineReason}
use Rattle.scenario_lines.proofs.LineReading.{alone_first, place_first, words_first}
use Rattle.scenario_lines.proofs.program_line.read_line.Goals as goal

pub returns-in_default-rest : goal.returns-in_default-rest
returns-in_default-rest c =
    alone_first c.meanings_or_reason.ensures.not_both c.args.role c.args.heap c.args.line.now c.in-Some.form
    (ap (λ (x : List (List ℕ)). line_form c.args.role (first_word_of x)) c.first_word.ensures ∙ sym c.of.ensures ∙ c.in-Some.is)
    (ap words_after_first c.first_word.ensures ∙ ap words_in c.in_default-rest.is)

pub returns-in_err-words : goal.returns-in_err-words
returns-in_err-words c =
    let p = err_from_is_err_and c.from_residual.result c.from_residual.ensures.1 in
    let left = ap words_after_first c.first_word.ensures ∙ ap words_in c.in-Some-rest.is in
    rw (p.1, p.2)
    (words_first c.meanings_or_reason.ensures.not_both c.args.role c.args.heap c.args.line.now c.in-Some.form c.in_err-words.field-0.0
    (ap (λ (x : List (List ℕ)). line_form c.args.role (first_word_of x)) c.first_word.ensures ∙ sym c.of.ensures ∙ c.in-Some.is)
    (subst (λ (x : List (List ℕ)). IsFirstLineReason (IsWordsFault (line_sorts c.in-Some.form) x) c.in_err-words.field-0.0) (sym left)
    (subst (λ (x : List WordKind). IsFirstLineReason (IsWordsFault x (words_of c.in-Some-rest.behind.now)) c.in_err-words.field-0.0) c.word_kinds.ensures.sorts
    c.in_err-words.ensures)))

pub returns-in-None : goal.returns-in-None
returns-in-None c =
    let left = ap words_after_first c.first_word.ensures ∙ ap words_in c.in-Some-rest.is in
    let ms = meanings_of c.in_ok-words.words.items in
    place_first c.meanings_or_reason.ensures.not_both c.args.role c.args.heap c.args.line.now c.in-Some.form ms
    (record {
      form = ap (λ (x : List (List ℕ)). line_form c.args.role (first_word_of x)) c.first_word.ensures ∙ sym c.of.ensures ∙ c.in-Some.is;
      said =
          subst (λ (x : List (List ℕ)). HaveMeanings (line_sorts c.in-Some.form) x ms) (sym left)
          (subst (λ (x : List WordKind). HaveMeanings x (words_of c.in-Some-rest.behind.now) ms) c.word_kinds.ensures.sorts c.in_ok-words.ensures);
    })
    (subst (λ (x : List WordValue). IsNoPlace c.args.heap (line_place c.in-Some.form (meanings_of x))) c.as_slice.ensures.value c.in-None.ensures)
