use Rattle.replay_script.specs.Changes.{state_of_body}
use Rattle.replay_script.specs.declared.change.Change.TheVariants as change
use Rattle.replay_script.proofs.Changing.{said_change}
use Rattle.replay_script.proofs.change.prefix_stored.Goals as goal

pub stored-requires-clause-said : goal.stored-requires-clause-said
stored-requires-clause-said c = (c.in_ok-store.ensures.line, c.in_ok-store.ensures.said)

pub returns : goal.returns
returns c T =
    let front = c.in_ok-store.ensures in
    said_change c.word_laws.ensures c.args.loads T (state_of_body c.args.declared.now c.args.body.now) c.args.text.now front.line
    c.in_ok-store.behind.now (change.Line c.in_ok-made.made) front.before (c.in_ok-made.ensures front.line front.said)
