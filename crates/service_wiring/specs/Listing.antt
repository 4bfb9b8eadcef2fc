-- The code's own: how many operations for a connection have been listed.
use Rattle.std.specs.Prelude.{◌≡◌, ℕ, List, ◌++◌, map, Some}
use Rattle.run_plan.specs.Chains.{chain_lines, op_of, steps_on}
use Rattle.run_plan.specs.declared.application.Application.{Application}
use Rattle.run_plan.specs.declared.operator.OperatorStep.{OperatorStep}
use Rattle.run_plan.specs.declared.operator.StepLine.{StepLine}
use Rattle.run_plan.specs.declared.plan.Plan.{Plan}
use Rattle.service_loop.specs.declared.scheduled_op.ScheduledOp.{ScheduledOp}
use Rattle.service_wiring.specs.Scheduling.{zero_each}

abbrev pub remaining_lines : List OperatorStep → List StepLine
remaining_lines steps = map (λ (step : OperatorStep). step.line) steps

abbrev pub remaining_counts : List OperatorStep → List ℕ
remaining_counts steps = map (λ (step : OperatorStep). step.count) steps

-- these operations were listed, and these lines remain, with their counts
pub record AreListed (plan : Plan) (app : Application) (steps : List ScheduledOp) (lines : List StepLine)
    (counts : List ℕ)
    : Type 0 where
  pub stand_for : map (op_of plan app) (chain_lines plan app)
      ≡ map (λ (due : ScheduledOp). Some due.step) steps ++ map (op_of plan app) lines
  pub in_order : zero_each app.chain ++ remaining_counts (steps_on plan.operators app.conn)
      ≡ map (λ (due : ScheduledOp). due.count) steps ++ counts
