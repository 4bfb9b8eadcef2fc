use Rattle.replay_script.specs.Changes.{state_of_body}
use Rattle.replay_script.specs.declared.change.Change.TheVariants as change
use Rattle.replay_script.proofs.Changing.{said_change}
use Rattle.replay_script.proofs.change.prefix_line.Goals as goal

pub turned-requires-clause-said : goal.turned-requires-clause-said
turned-requires-clause-said c = (c.in-Some.ensures.line, c.in-Some.ensures.said)

pub drained-requires-clause-said : goal.drained-requires-clause-said
drained-requires-clause-said c = (c.in-Some-prefix_drain.ensures.line, c.in-Some-prefix_drain.ensures.said)

pub submitted-requires-clause-said : goal.submitted-requires-clause-said
submitted-requires-clause-said c = (c.in_ok-submit.ensures.line, c.in_ok-submit.ensures.said)

pub returns-in-Some : goal.returns-in-Some
returns-in-Some c T =
    let front = c.in-Some.ensures in
    said_change c.word_laws.ensures c.args.loads T (state_of_body c.args.declared.now c.args.body.now) c.args.text.now front.line
    c.in-Some.behind.now (change.Line c.in_ok-made.made) front.before (c.in_ok-made.ensures front.line front.said)

pub returns-in-Some-prefix_drain : goal.returns-in-Some-prefix_drain
returns-in-Some-prefix_drain c T =
    let front = c.in-Some-prefix_drain.ensures in
    said_change c.word_laws.ensures c.args.loads T (state_of_body c.args.declared.now c.args.body.now) c.args.text.now front.line
    c.in-Some-prefix_drain.behind.now (change.Line c.in_ok-made-2.made) front.before (c.in_ok-made-2.ensures front.line front.said)

pub returns : goal.returns
returns c T =
    let front = c.in_ok-submit.ensures in
    said_change c.word_laws.ensures c.args.loads T (state_of_body c.args.declared.now c.args.body.now) c.args.text.now front.line
    c.in_ok-submit.behind.now (change.Line c.in_ok-made-3.made) front.before (c.in_ok-made-3.ensures front.line front.said)
