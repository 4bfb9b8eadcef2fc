use Rattle.std.proofs.Common.{◌≢◌, refl, sym, ◌∙◌}
use Rattle.script_grammar.specs.declared.form.LineForm.TheVariants as form
use Rattle.replay_script.specs.Stores.{store_words}
use Rattle.replay_script.specs.declared.change.Change.TheVariants as change
use Rattle.replay_script.proofs.Changing.{open_change}
use Rattle.replay_script.proofs.Kept.{said_by}
use Rattle.replay_script.proofs.Ranges.{number_of}
use Rattle.replay_script.proofs.change.stored.Goals as goal

goes_on : form.Store ≢ form.Close
goes_on e = cc

pub stored-requires : goal.stored-requires
stored-requires c = number_of form.Store c.requires.said.0 (store_words c.args.store) 1 1 16 c.requires.said.1 refl

pub returns-in-Ok : goal.returns-in-Ok
returns-in-Ok c line said =
    let d = c.args.declared.now in
    let body = c.args.body.now in
    let m = store_words c.args.store in
    let same = said_by c.args.loads d body c.requires.kept form.Store line m said refl goes_on in
    open_change c.word_laws.ensures c.args.loads d body line form.Store m (change.Line c.in-Ok.made) said
    refl c.if-body.false (goes_on, sym same ∙ sym c.stored.ensures ∙ c.in-Ok.is)
