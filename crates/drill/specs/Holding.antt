-- Policies that hold no call (this project's own).
use Rattle.std.specs.Prelude.{◌≡◌, All, IfSome, Option, false}
use Rattle.engine_core.specs.declared.policy.Policy.{Policy}
use Rattle.engine_core.specs.declared.policy.Policy.TheVariants.{Rate}
use Rattle.conn_core.specs.ConnectionSteps.{IfPolicy}
use Rattle.run_plan.specs.declared.application.OwnSchema.{OwnSchema}
use Rattle.run_plan.specs.declared.plan.Plan.{Plan}
use Rattle.service_loop.specs.declared.scheduled_op.ScheduledOp.{ScheduledOp}

-- the policy never holds a call: it isn't a rate policy whose mode is to hold calls
abbrev pub IsNonHolding : Policy → Type 0
IsNonHolding (Rate rate) = rate.hold ≡ false
IsNonHolding _ = Unit {0}

-- a scheduled operation names no policy that may hold a call
abbrev pub IsNonHoldingOp : ScheduledOp → Type 0
IsNonHoldingOp due = IfPolicy due.step IsNonHolding

-- the policies of an application, as read under the table of its own schema, if it has one
abbrev pub AreOwnNonHolding : Option OwnSchema → Type 0
AreOwnNonHolding own = IfSome own (λ schema. All (λ p. IsNonHolding p.policy) schema.policies)

-- no policy of a plan ever holds a call
pub record HasNoHoldingPolicy (plan : Plan) : Type 0 where
  pub declared : All (λ p. IsNonHolding p.policy) plan.declared.policies
  pub own : All (λ app. AreOwnNonHolding app.own) plan.applications
