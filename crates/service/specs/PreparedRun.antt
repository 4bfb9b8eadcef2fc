-- What a run needs before it starts (this project's own).
use Rattle.std.specs.Prelude.{◌≡◌, ℕ, ◌<◌, length, List, Some}
use Rattle.std.specs.List.{AllZip}
use Rattle.run_plan.specs.Links.{all_ends, application_in}
use Rattle.run_plan.specs.declared.application.Application.{Application}
use Rattle.run_plan.specs.declared.plan.Plan.{Plan}
use Rattle.service_loop.specs.ScheduledOps.{AreScheduledOps, KnowTenants}
use Rattle.service_loop.specs.declared.scheduled_op.ScheduledOp.{ScheduledOp}
use Rattle.service_wiring.specs.Scheduling.{AreOpsOfPlan}
use Rattle.service.specs.declared.prepared_run.PreparedRun.{PreparedRun}

-- the operations scheduled for a connection of a plan
pub record HasScheduledOps (plan : Plan) (conn : ℕ) (steps : List ScheduledOp) : Type 0 where
  pub app : Application
  pub its_app : application_in plan.applications conn ≡ Some app
  pub are : AreOpsOfPlan plan app steps
  pub sound : AreScheduledOps steps
  pub known : KnowTenants (λ tenant. tenant < length plan.declared.tenants) steps

-- the operations scheduled for each connection, in the order of the plan's links
abbrev pub IsPreparedRun : Plan → PreparedRun → Type 0
IsPreparedRun plan prepared = AllZip (λ conn steps. HasScheduledOps plan conn steps.items) (all_ends plan.links)
    prepared.steps.items
