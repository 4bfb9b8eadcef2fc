use Rattle.std.proofs.Common.{refl, sym, subst, List}
use Rattle.mrpc_table.specs.Lines.{words_of}
use Rattle.script_grammar.specs.Lines.{HaveMeanings, HasReason}
use Rattle.script_grammar.specs.Meanings.{meanings_of}
use Rattle.script_grammar.specs.Reasons.{IsFirstReason}
use Rattle.script_grammar.specs.declared.word_kind.WordKind.{WordKind}
use Rattle.script_grammar.specs.Forms.{word_kinds_of}
use Rattle.script_grammar.specs.declared.word_kind.WordValue.{WordValue}
use Rattle.replay_script.specs.Changes.{state_of_body, IsLineFault}
use Rattle.replay_script.proofs.LineFaults.{words_first}
use Rattle.replay_script.proofs.change.change_of_line.Goals as goal

pub change_of_words-requires-clause-said : goal.change_of_words-requires-clause-said
change_of_words-requires-clause-said c =
    let line = c.args.line.now in
    record {
      has_form = c.requires.form;
      said = subst (λ (xs : List WordValue). HaveMeanings (word_kinds_of c.args.form) (words_of line) (meanings_of xs))
          (sym c.as_slice.ensures.value)
          (subst (λ (s : List WordKind). HaveMeanings s (words_of line) (meanings_of c.in-Ok.words.items)) c.word_kinds.ensures.sorts
          c.in-Ok.ensures);
    }

pub returns-in-Err : goal.returns-in-Err
returns-in-Err c =
    let b = state_of_body c.args.declared.now c.args.body.now in
    let line = c.args.line.now in
    subst (IsLineFault c.args.loads b line) (sym c.fault.ensures) (
      refl,
      words_first c.word_laws.ensures c.args.loads b line c.args.form c.in-Err.reason c.requires.form c.requires.item
          (subst (λ (s : List WordKind). IsFirstReason (HasReason s (words_of line)) c.in-Err.reason) c.word_kinds.ensures.sorts c.in-Err.ensures),
    )
