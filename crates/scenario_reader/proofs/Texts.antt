-- The result of reading a top table is what its text means.
use Rattle.std.proofs.Common.{ℕ, ◌<◌, List, Result, Ok, Err, arith}
use Rattle.std.specs.Prelude.{IfOk, MatchResult}
use Rattle.run_plan.specs.Plans.{IsPlan}
use Rattle.run_plan.specs.declared.plan.Plan.{Plan}
use Rattle.toml.specs.Data.{Members}
use Rattle.scenario.specs.Reasons.{list_of_entry}
use Rattle.scenario.specs.Scenarios.{IsFaultOf, IsTableText, IsTextOf, IsPlanOfScenario, in_entry}
use Rattle.scenario.specs.declared.fault.FaultyEntry.{FaultyEntry}
use Rattle.scenario.specs.declared.fault.FaultyEntry.TheVariants as entry
use Rattle.scenario.specs.declared.fault.ScenarioFault.{ScenarioFault}
use Rattle.scenario.specs.declared.fault.ScenarioFault.TheVariants as fault
use Rattle.scenario_reader.specs.TopLevel.{IsFirstFaultOfScenario}

-- there are six lists
pub list_few : (at : FaultyEntry) → list_of_entry at < 6
list_few entry.Top = omega arith
list_few (entry.Tenant n) = omega arith
list_few (entry.Policy n) = omega arith
list_few (entry.App n) = omega arith
list_few (entry.Link n) = omega arith
list_few (entry.Operator n) = omega arith

module _ (text : List ℕ) (all : Members) (parsed : IsTableText text all) where
  pub fault_in : (f : ScenarioFault) → IsFirstFaultOfScenario all f → IsFaultOf text f
  fault_in (fault.At at reason) first = in_entry all parsed first
  fault_in fault.Memory h = tt

  pub text_read : (r : Result Plan ScenarioFault) → MatchResult r (IsPlanOfScenario all) (IsFirstFaultOfScenario all) → MatchResult r (IsTextOf text) (IsFaultOf text)
  text_read (Ok plan) says = record { all = all; parsed = parsed; says = says }
  text_read (Err f) first = fault_in f first

  pub says_sound : ((t : List ℕ) (plan : Plan) → IsTextOf t plan → IsPlan plan) → (r : Result Plan ScenarioFault)
      → MatchResult r (IsPlanOfScenario all) (IsFirstFaultOfScenario all) → IfOk r IsPlan
  says_sound sound (Ok plan) says = sound text plan (record { all = all; parsed = parsed; says = says })
  says_sound sound (Err f) first = tt
