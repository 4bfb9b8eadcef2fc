use Rattle.scenario_reader.proofs.Walking.{plan_more}
use Rattle.scenario_reader.proofs.walk.plan_steps.Goals as goal

pub loop-step-preserved : goal.loop-step-preserved
loop-step-preserved c =
    plan_more c.args.declared.now c.args.told.now c.loop-step.step-index _ c.loop-step-test.true c.loop-step.steps c.push.new.self
    (record { count = c.count_in.result; line = c.in_ok-line.line }) c.loop-step.invariant c.in_ok-push.ensures.ok c.count_in.ensures
    c.in_ok-line.ensures
