use Rattle.std.proofs.Common.{◌≢◌, refl, sym, ◌∙◌}
use Rattle.script_grammar.specs.declared.form.LineForm.TheVariants as form
use Rattle.replay_script.specs.Stores.{submit_words}
use Rattle.replay_script.specs.declared.change.Change.TheVariants as change
use Rattle.replay_script.proofs.Changing.{open_change}
use Rattle.replay_script.proofs.Kept.{said_by}
use Rattle.replay_script.proofs.Ranges.{number_of}
use Rattle.replay_script.proofs.change.submitted.Goals as goal

goes_on : form.Submit ≢ form.Close
goes_on e = cc

pub submitted-requires-clause-conn : goal.submitted-requires-clause-conn
submitted-requires-clause-conn c = number_of form.Submit c.requires.said.0 (submit_words c.args.submit) 1 1 16 c.requires.said.1 refl

pub submitted-requires-clause-method : goal.submitted-requires-clause-method
submitted-requires-clause-method c = (number_of form.Submit c.requires.said.0 (submit_words c.args.submit) 2 0 65535 c.requires.said.1 refl).1

pub returns-in-Ok : goal.returns-in-Ok
returns-in-Ok c line said =
    let d = c.args.declared.now in
    let body = c.args.body.now in
    let m = submit_words c.args.submit in
    let same = said_by c.args.loads d body c.requires.kept form.Submit line m said refl goes_on in
    open_change c.word_laws.ensures c.args.loads d body line form.Submit m (change.Line c.in-Ok.made) said
    refl c.if-body.false (goes_on, sym same ∙ sym c.submitted.ensures ∙ c.in-Ok.is)
