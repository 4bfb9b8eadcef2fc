use Rattle.std.proofs.Common.{arith}
use Rattle.service_wiring.proofs.Parts.{is_application}
use Rattle.service_wiring.proofs.Stepping.{are-steps, few-places, known-steps, listed-past, step-there}
use Rattle.service_wiring.proofs.scheduling.scheduled_ops.Goals as goal

pub attachments-requires-clause-app : goal.attachments-requires-clause-app
attachments-requires-clause-app c = is_application c.args.plan.now c.args.app.now c.requires.plan c.requires.app

pub attachments-requires-clause-few : goal.attachments-requires-clause-few
attachments-requires-clause-few c =
    few-places c.change_preserves_chain.ensures c.changed_is_the_change.ensures.only c.args.plan.now c.args.app.now c.requires.plan
    (is_application c.args.plan.now c.args.app.now c.requires.plan c.requires.app)

pub scheduled_op-requires : goal.scheduled_op-requires
scheduled_op-requires c =
    step-there c.args.plan.now c.args.app.now
    (is_application c.args.plan.now c.args.app.now c.requires.plan c.requires.app) c.steps.steps.items
    c.steps-later.result.now c.steps.step-index c.step-item.result _ c.steps-test.true c.step-item.is c.steps.invariant

pub returns-clause-sound : goal.returns-clause-sound
returns-clause-sound c =
    are-steps c.change_preserves_chain.ensures c.changed_is_the_change.ensures.only c.args.plan.now c.args.app.now c.requires.plan
    (is_application c.args.plan.now c.args.app.now c.requires.plan c.requires.app) c.steps.steps.items
    (listed-past c.args.plan.now c.args.app.now c.steps.steps.items c.steps-later.result.now c.steps.step-index
    (omega (arith, c.steps-test.false, c.steps.auto.step-index-end)) c.steps.invariant)

pub returns-clause-known : goal.returns-clause-known
returns-clause-known c =
    known-steps c.change_preserves_chain.ensures c.changed_is_the_change.ensures.only c.args.plan.now c.args.app.now c.requires.plan
    (is_application c.args.plan.now c.args.app.now c.requires.plan c.requires.app) c.steps.steps.items
    (listed-past c.args.plan.now c.args.app.now c.steps.steps.items c.steps-later.result.now c.steps.step-index
    (omega (arith, c.steps-test.false, c.steps.auto.step-index-end)) c.steps.invariant)
