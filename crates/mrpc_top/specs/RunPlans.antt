-- Which plan is run, and what its run prints: the code's own. No public definition takes a word from here.
use Rattle.std.specs.Prelude.{◌≡◌, ℕ, List, Option}
use Rattle.std.specs.Io.KnownBytes.{Appends}
use Rattle.drill.specs.Drill.{drill}
use Rattle.run_plan.specs.declared.plan.Plan.{Plan}
use Rattle.scenario.specs.Scenarios.{IsTextOf}
use Rattle.telemetry.specs.Totals.{IsTotals, sums_of}
use Rattle.telemetry.specs.declared.counts.Counts.{Counts}
use Rattle.text_commands.specs.FaultLines.{HasWrittenPrefix}
use Rattle.mrpc_base.specs.WholeInput.{IsInput}
use Rattle.mrpc_top.specs.Runs.{drill_line}
use Rattle.mrpc_top.specs.declared.run.RunTarget.{RunTarget}
use Rattle.mrpc_top.specs.declared.run.RunTarget.TheVariants.{Scenario, Drill}

-- the plan is that of an input with so much left to read, or that of a drill
abbrev pub IsPlanOf : RunTarget → Option (List ℕ) → Plan → Type 0
IsPlanOf Scenario left plan = (text : List ℕ) × IsInput left text × IsTextOf text plan
IsPlanOf (Drill calls) left plan = plan ≡ drill calls

-- the line of a drill, by the counts of its run
pub record IsDrillLine (calls : ℕ) (totals : List (ℕ × Counts)) (told : List ℕ) : Type 0 where
  pub sound : IsTotals totals
  pub line : told ≡ drill_line calls (sums_of totals)

-- the line was written
abbrev pub HasWrittenLine : (calls : ℕ) → List (ℕ × Counts) → (out out' : Option (List ℕ)) → Type 0
HasWrittenLine calls totals out out' = (told : List ℕ) × IsDrillLine calls totals told × Appends out out' told

-- a prefix of the line was written
abbrev pub HasWrittenLinePrefix : (calls : ℕ) → List (ℕ × Counts) → (out out' : Option (List ℕ)) → Type 0
HasWrittenLinePrefix calls totals out out' = (told : List ℕ) × IsDrillLine calls totals told
    × HasWrittenPrefix out out' told
