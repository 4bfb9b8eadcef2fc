use Rattle.std.proofs.Common.{refl, sym, subst}
use Rattle.script_grammar.specs.Meanings.{meanings_of}
use Rattle.replay_script.specs.Changes.{state_of_body, IsFlawOf, IsLineFault}
use Rattle.replay_script.specs.declared.body.LineError.{LineError}
use Rattle.replay_script.proofs.Changing.{closed_change, open_change, flawed}
use Rattle.replay_script.proofs.change.change_of_words.Goals as goal

pub returns-then-body : goal.returns-then-body
returns-then-body c =
    let d = c.args.declared.now in
    let body = c.args.body.now in
    let line = c.args.line.now in
    let m = meanings_of c.args.words.now in
    subst (IsLineFault c.args.loads (state_of_body d body) line) (sym c.fault.ensures)
    (refl, closed_change c.word_laws.ensures c.args.loads d body line c.args.form m c.in-Ok.change c.requires.said c.requires.item c.if-body.true c.in-Ok.ensures)

pub returns-else-body : goal.returns-else-body
returns-else-body c =
    let m = meanings_of c.args.words.now in
    open_change c.word_laws.ensures c.args.loads c.args.declared.now c.args.body.now c.args.line.now c.args.form m
    c.in-Ok.change c.requires.said c.requires.item c.if-body.false c.in-Ok.ensures

pub returns-in-Err-Reason : goal.returns-in-Err-Reason
returns-in-Err-Reason c =
    let d = c.args.declared.now in
    let body = c.args.body.now in
    let line = c.args.line.now in
    let m = meanings_of c.args.words.now in
    subst (IsLineFault c.args.loads (state_of_body d body) line) (sym c.fault-in-Err-Reason.ensures) (
      refl,
      flawed c.word_laws.ensures c.args.loads d body line c.args.form m c.in-Err-Reason.reason c.requires.said
          c.requires.item (subst (λ (e : LineError). IsFlawOf c.args.loads d body c.args.form m e) c.in-Err-Reason.field-0-is
          c.in-Err-Reason.ensures),
    )
