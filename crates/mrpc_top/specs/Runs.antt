-- What `run` and `drill` do (this project's own).
use Rattle.std.specs.Prelude.{◌≡◌, ◌⊎◌, ℕ, ◌+◌, ◌*◌, ◌<◌, ◌≤◌, Bool, false, List, [], ◌∷◌, codes, length, map, Option, Some, String, string_bytes}
use Rattle.std.specs.declared.alloc.Global.{Global}
use Rattle.std.specs.Fmt.{decimal}
use Rattle.std.specs.Io.KnownBytes.{Appends}
use Rattle.mrpc_base.specs.declared.clock.Clock.{Ghosts as ClockMembers}
use Rattle.mrpc_base.specs.declared.link.Link.{Ghosts as LinkMembers}
use Rattle.mrpc_table.specs.Lines.{number_of}
use Rattle.mrpc_table.specs.Text.{line}
use Rattle.telemetry.specs.declared.counts.Counts.{Counts}
use Rattle.run_plan.specs.declared.plan.Plan.{Plan}
use Rattle.drill.specs.Drill.{drill}
use Rattle.drill.specs.declared.plan.TheConstants.{MAX_CALLS}
use Rattle.scenario.specs.Reasons.{number_of_entry, scenario_reason_word}
use Rattle.scenario.specs.Scenarios.{HasFault, IsTextOf}
use Rattle.scenario.specs.declared.fault.FaultyEntry.{FaultyEntry}
use Rattle.scenario.specs.declared.fault.ScenarioReason.{ScenarioReason}
use Rattle.service.specs.Served.{ArePairs}
use Rattle.run_driver.specs.Running.{HasRun}
use Rattle.drill.specs.Counting.{report_counts}
use Rattle.drill.specs.Meeting.{HaveMet}
use Rattle.mrpc_base.specs.WholeInput.{IsInput}
use Rattle.text_commands.specs.FaultLines.{HasWrittenPrefix, fault_line}
use Rattle.mrpc_base.specs.WholeInput.{HasReadPast}
use Rattle.mrpc_base.specs.declared.whole_input.TheConstants.{MAX_INPUT}
use Rattle.mrpc_top.specs.declared.run.RunTarget.{RunTarget}
use Rattle.mrpc_top.specs.declared.run.RunTarget.TheVariants.{Scenario, Drill}

-- ---- words

-- a word spells a number of calls from 1 to 2048, in decimal digits without a leading zero
pub record IsCallCount (word : List ℕ) (calls : ℕ) : Type 0 where
  pub number : number_of word ≡ Some calls
  pub least : 1 ≤ calls
  pub most : calls ≤ MAX_CALLS

-- the words are `drill` and a number of calls
abbrev pub IsDrill : List (String Global) → ℕ → Type 0
IsDrill words calls = (word : List ℕ) × (map string_bytes words ≡ codes "drill" ∷ word ∷ []) × IsCallCount word calls

-- the words run the scenario of an input, or the drill with this number of calls of each client
abbrev pub IsNamedRun : List (String Global) → RunTarget → Type 0
IsNamedRun words Scenario = map string_bytes words ≡ codes "run" ∷ []
IsNamedRun words (Drill calls) = IsDrill words calls

abbrev pub IsRunCommand : List (String Global) → Type 0
IsRunCommand words = (running : RunTarget) × IsNamedRun words running

-- ---- what a run prints

-- the line of a drill: how many calls were accepted, sent, refused and are pending at the end
abbrev pub drill_line : ℕ → Counts → List ℕ
drill_line calls counts = line (codes "drill" ∷ decimal calls ∷ codes "took" ∷ decimal counts.took
    ∷ codes "sent" ∷ decimal counts.sent ∷ codes "refused" ∷ decimal counts.refused
    ∷ codes "stands" ∷ decimal counts.standing ∷ [])

module _ {C L : Type 0} (of_clock : ClockMembers C) (of_link : LinkMembers L) (pair : L → L → Type 0) (clock : C)
    (back back' : List (ℕ × L)) where
  -- the plan of a text was run, and this is the report of its run
  pub record IsScenarioReport (failed : Bool) (text told : List ℕ) : Type 0 where
    pub plan : Plan
    pub says : IsTextOf text plan
    pub totals : List (ℕ × Counts)
    pub ran : HasRun of_clock of_link pair plan clock back back' told totals failed

  -- The drill was run, and this line has the counts of all lines of the run's report. No call is pending, and
  -- as many calls were accepted as were sent and refused. If no link failed, and the two ends of each link
  -- have met, as those of links in memory do, at least as many calls were accepted as its four clients
  -- submit.
  pub record IsDrillReport (failed : Bool) (calls : ℕ) (told : List ℕ) : Type 0 where
    pub text : List ℕ
    pub totals : List (ℕ × Counts)
    pub ran : HasRun of_clock of_link pair (drill calls) clock back back' text totals failed
    pub its_line : told ≡ drill_line calls (report_counts ran.told)
    pub none_pending : (report_counts ran.told).standing ≡ 0
    pub all_sent_or_refused : (report_counts ran.told).took
        ≡ (report_counts ran.told).sent + (report_counts ran.told).refused
    pub all_came : failed ≡ false → ArePairs (λ s. s.link) (HaveMet of_link) ran.conns
        → 4 * calls ≤ (report_counts ran.told).took

  -- the run may print this, given whether a link failed: for an input that had so much left to read, or for a
  -- drill
  abbrev pub MayReport : Bool → RunTarget → Option (List ℕ) → List ℕ → Type 0
  MayReport failed Scenario left told = (text : List ℕ) × IsInput left text × IsScenarioReport failed text told
  MayReport failed (Drill calls) left told = IsDrillReport failed calls told

-- ---- faults

-- a text has a first fault, and this is its line
pub record IsScenarioFaultLine (text told : List ℕ) : Type 0 where
  pub at : FaultyEntry
  pub reason : ScenarioReason
  pub fault : HasFault text at reason
  pub its_line : told ≡ fault_line (number_of_entry at) (scenario_reason_word reason)

-- the input of a scenario is too long, or its text has a first fault, and this is the fault's line
abbrev pub MayReject : RunTarget → (left left' : Option (List ℕ)) → List ℕ → Type 0
MayReject Scenario left left' told =
    (HasReadPast MAX_INPUT left left' × (told ≡ fault_line MAX_INPUT (codes "Input")))
    ⊎ ((text : List ℕ) × IsInput left text × IsScenarioFaultLine text told)
MayReject (Drill calls) left left' told = ⊥

-- ---- what was written

module _ {C L : Type 0} (of_clock : ClockMembers C) (of_link : LinkMembers L) (pair : L → L → Type 0) (clock : C)
    (back back' : List (ℕ × L)) where
  -- the run wrote its report, given whether a link failed
  pub record HasWrittenReport (failed : Bool) (running : RunTarget) (left out out' : Option (List ℕ)) : Type 0 where
    pub told : List ℕ
    pub may : MayReport of_clock of_link pair clock back back' failed running left told
    pub written : Appends out out' told

  -- A run ended early, and its output is a prefix of what it may write: nothing, a prefix of its report, or a
  -- prefix of the line of a fault.
  pub data HasStoppedRun (running : RunTarget) (left left' out out' : Option (List ℕ)) : Type 0 where
    silent : Appends out out' [] → HasStoppedRun running left left' out out'
    in_telling : (failed : Bool) (told : List ℕ)
        → MayReport of_clock of_link pair clock back back' failed running left told → HasWrittenPrefix out out' told
        → HasStoppedRun running left left' out out'
    in_fault : (told : List ℕ) → MayReject running left left' told → HasWrittenPrefix out out' told
        → HasStoppedRun running left left' out out'

-- the line of the fault was written
pub record HasWrittenFault (running : RunTarget) (left left' out out' : Option (List ℕ)) : Type 0 where
  pub told : List ℕ
  pub may : MayReject running left left' told
  pub written : Appends out out' told

-- what a run requires of its input: it was read to its end, and it is a valid plan; a drill requires nothing
abbrev pub HasPlan : RunTarget → Option (List ℕ) → Type 0
HasPlan Scenario left = (text : List ℕ) × IsInput left text × (plan : Plan) × IsTextOf text plan
HasPlan (Drill calls) left = Unit {0}

-- an input has a fault as a scenario: it is too long, or has a first fault
abbrev pub HasRunFault : RunTarget → List ℕ → Type 0
HasRunFault Scenario text =
    (MAX_INPUT < length text) ⊎ ((at : FaultyEntry) × (reason : ScenarioReason) × HasFault text at reason)
HasRunFault (Drill calls) text = ⊥
