-- Which operations are scheduled for the chain of a connection, and when (this project's own).
use Rattle.std.specs.Prelude.{◌≡◌, ℕ, List, ◌++◌, map, Some}
use Rattle.run_plan.specs.Chains.{chain_lines, op_of, steps_on}
use Rattle.run_plan.specs.declared.application.Application.{Application}
use Rattle.run_plan.specs.declared.plan.Plan.{Plan}
use Rattle.service_loop.specs.declared.scheduled_op.ScheduledOp.{ScheduledOp}

-- as many zeros as a list has items
abbrev pub zero_each : {A : Type 0} → List A → List ℕ
zero_each xs = map (λ x. 0) xs

-- The operations for an application's connection, in order: each line for its chain with the operation that it means.
-- Its own attachments come before its first call, and each operation of an operator once as many calls were taken as
-- its count.
pub record AreOpsOfPlan (plan : Plan) (app : Application) (steps : List ScheduledOp) : Type 0 where
  pub stand_for : map (op_of plan app) (chain_lines plan app) ≡ map (λ due. Some due.step) steps
  pub counts : map (λ due. due.count) steps
      ≡ zero_each app.chain ++ map (λ step. step.count) (steps_on plan.operators app.conn)
