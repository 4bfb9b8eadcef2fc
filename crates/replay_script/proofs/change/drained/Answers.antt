use Rattle.std.proofs.Common.{◌≢◌, refl, sym, ◌∙◌}
use Rattle.script_grammar.specs.declared.form.LineForm.TheVariants as form
use Rattle.replay_script.specs.Stores.{drain_words}
use Rattle.replay_script.specs.declared.change.Change.TheVariants as change
use Rattle.replay_script.proofs.Changing.{open_change}
use Rattle.replay_script.proofs.Kept.{said_by}
use Rattle.replay_script.proofs.Ranges.{number_of}
use Rattle.replay_script.proofs.change.drained.Goals as goal

goes_on : form.Drain ≢ form.Close
goes_on e = cc

pub drained-requires : goal.drained-requires
drained-requires c = number_of form.Drain c.requires.said.0 (drain_words c.args.conn) 1 1 16 c.requires.said.1 refl

pub returns-in-Ok : goal.returns-in-Ok
returns-in-Ok c line said =
    let d = c.args.declared.now in
    let body = c.args.body.now in
    let m = drain_words c.args.conn in
    let same = said_by c.args.loads d body c.requires.kept form.Drain line m said refl goes_on in
    open_change c.word_laws.ensures c.args.loads d body line form.Drain m (change.Line c.in-Ok.made) said
    refl c.if-body.false (goes_on, sym same ∙ sym c.drained.ensures ∙ c.in-Ok.is)
