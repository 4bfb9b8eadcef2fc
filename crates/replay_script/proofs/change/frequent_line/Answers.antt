use Rattle.std.proofs.Common.{sym, subst, List}
use Rattle.mrpc_table.specs.Lines.{words_of}
use Rattle.script_grammar.specs.Forms.{word_kinds_of}
use Rattle.script_grammar.specs.Lines.{HaveMeanings}
use Rattle.script_grammar.specs.Meanings.{meanings_of}
use Rattle.script_grammar.specs.declared.word_kind.WordValue.{WordValue}
use Rattle.script_grammar.specs.declared.word_kind.WordKind.{WordKind}
use Rattle.replay_script.proofs.UsualForms.{form_is}
use Rattle.replay_script.proofs.change.frequent_line.Goals as goal

pub change_of_words-requires-clause-said : goal.change_of_words-requires-clause-said
change_of_words-requires-clause-said c =
    let words = words_of c.args.line.now in
    let form = c.in_ok-form.form in
    let said = subst (λ (xs : List WordValue). HaveMeanings (word_kinds_of form) words (meanings_of xs))
    (sym c.as_slice.ensures.value)
    (subst (λ (s : List WordKind). HaveMeanings s words (meanings_of c.in-Ok.words.items)) c.word_kinds.ensures.sorts
    c.in-Ok.ensures) in
    record { has_form = form_is form c.in_ok-form.ensures words (meanings_of c.as_slice.result.now) said; said = said }
