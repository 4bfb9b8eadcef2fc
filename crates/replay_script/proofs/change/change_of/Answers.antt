use Rattle.std.proofs.Common.{sym, ◌∙◌}
use Rattle.script_grammar.specs.Meanings.{meanings_of}
use Rattle.replay_script.proofs.Kept.{said_by, flaw_of}
use Rattle.replay_script.proofs.change.change_of.Goals as goal

pub returns-in-Ok : goal.returns-in-Ok
returns-in-Ok c =
    let m = meanings_of c.args.words.now in
    let same = said_by c.args.loads c.args.declared.now c.args.body.now c.requires.kept c.args.form c.requires.words.0 m c.requires.words.1 c.requires.item c.in_default.not-Close in
    (c.in_default.not-Close, sym same ∙ c.in-Ok.ensures)

pub returns-in-Err : goal.returns-in-Err
returns-in-Err c =
    let m = meanings_of c.args.words.now in
    let same = said_by c.args.loads c.args.declared.now c.args.body.now c.requires.kept c.args.form c.requires.words.0 m c.requires.words.1 c.requires.item c.in_default.not-Close in
    flaw_of c.args.loads c.args.declared.now c.args.body.now c.requires.kept c.args.form m c.in_default.not-Close same c.in-Err.flaw c.in-Err.ensures
