-- The parts of wired connections.
use Rattle.std.proofs.Common.{Option, Some, None}
use Rattle.std.specs.Prelude.{Contains, IfSome}
use Rattle.std.proofs.lemmas.List.Elements.{All-contains}
use Rattle.mrpc_table.specs.Valid.{IsValid}
use Rattle.run_plan.specs.Chains.{table_by, app_table}
use Rattle.run_plan.specs.Plans.{IsApplication, IsOwnSchema, IsPlan}
use Rattle.run_plan.specs.declared.application.Application.{Application}
use Rattle.run_plan.specs.declared.application.OwnSchema.{OwnSchema}
use Rattle.run_plan.specs.declared.plan.Plan.{Plan}

-- ---- plans

pub is_application : (plan : Plan) (app : Application) → IsPlan plan → Contains plan.applications app
    → IsApplication plan app
is_application plan app h there = All-contains (IsApplication plan) plan.applications app h.applications there

valid-by : (plan : Plan) (own : Option OwnSchema) → IsValid plan.table → IfSome own (IsOwnSchema plan)
    → IsValid (table_by plan.table own)
valid-by plan None shared h = shared
valid-by plan (Some own) shared h = h.table

pub valid_table : (plan : Plan) (app : Application) → IsPlan plan → Contains plan.applications app
    → IsValid (app_table plan app)
valid_table plan app h there = valid-by plan app.own h.table (is_application plan app h there).own
