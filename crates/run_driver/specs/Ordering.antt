-- The code's own: the order of a plan whose connections are weighted.
use Rattle.std.specs.Prelude.{◌≡◌, ℕ, List, map}
use Rattle.qos_order.specs.Weights.{weight_of}
use Rattle.qos_order.specs.declared.weights.Weight.{Weight}
use Rattle.run_plan.specs.declared.application.Application.{Application}
use Rattle.run_plan.specs.declared.plan.Plan.{Plan}

abbrev pub weight_in : Application → Weight
weight_in app = record { conn = app.conn; weight = app.weight }

-- the weights of the plan's connections
abbrev pub weights_of : Plan → List Weight
weights_of plan = map weight_in plan.applications

-- the order gives each connection the weight that the plan gives it
abbrev pub HasPlanWeights : Plan → List Weight → Type 0
HasPlanWeights plan order = (conn : ℕ) → weight_of order conn ≡ weight_of (weights_of plan) conn
