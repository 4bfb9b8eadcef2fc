-- The weights of a plan's connections among ready ones (this project's own).
use Rattle.std.specs.Prelude.{◌≡◌, ℕ, true, Contains, Option, None, Some, if◌then◌else◌}
use Rattle.qos_order.specs.Account.{granted, new_account}
use Rattle.run_plan.specs.declared.application.Application.{Application}
use Rattle.run_plan.specs.declared.plan.Plan.{Plan}
use Rattle.service_loop.specs.declared.visit_account.VisitAccount.{VisitAccount}

-- the initial visit account of an application's connection, if the plan's connections are weighted
abbrev pub visit_account_in : Plan → Application → Option VisitAccount
visit_account_in plan app = if plan.weighted then Some (record { weight = app.weight; account = new_account }) else None

-- An order follows a plan: if the plan's connections are weighted, it grants each as many rounds as its weight
-- allows.
abbrev pub IsPlanOrder : Plan → (ℕ → ℕ → ℕ) → Type 0
IsPlanOrder plan grant_of = plan.weighted ≡ true → (app : Application) → Contains plan.applications app → (kept : ℕ)
    → grant_of app.conn kept ≡ granted app.weight kept
