-- A run may print its report, and prints the fault of a scenario as its line.
use Rattle.std.proofs.Common.{◌≡◌, ◌∙◌, ◌⊎◌, ◌+◌, ◌*◌, ◌<◌, ◌≤◌, ap, arith, inl, inr, length, refl, subst, sym, ℕ, List, [], Option, Some}
use Rattle.std.specs.Prelude.{All, Bool}
use Rattle.std.specs.List.{flat_map}
use Rattle.std.specs.Io.KnownBytes.{Appends}
use Rattle.mrpc_base.specs.declared.clock.Clock.{Ghosts as ClockMembers}
use Rattle.mrpc_base.specs.declared.link.Link.{Ghosts as LinkMembers}
use Rattle.run_plan.specs.declared.plan.Plan.{Plan}
use Rattle.scenario.specs.Reasons.{number_of_entry, scenario_reason_word}
use Rattle.scenario.specs.Scenarios.{HasFault}
use Rattle.drill.specs.Drill.{drill}
use Rattle.telemetry.specs.Totals.{AreSumsOfEvents}
use Rattle.telemetry.specs.declared.counts.Counts.{Counts}
use Rattle.scenario.specs.declared.fault.FaultyEntry.{FaultyEntry}
use Rattle.scenario.specs.declared.fault.ScenarioReason.{ScenarioReason}
use Rattle.run_report.specs.Counting.{counted_in}
use Rattle.run_report.specs.declared.reported_connection.ReportedConnection.{ReportedConnection}
use Rattle.service.specs.Served.{ArePairs}
use Rattle.service.specs.declared.served.ServedConn.{ServedConn}
use Rattle.run_driver.specs.Running.{HasRun, HasNeverFailed}
use Rattle.drill.specs.Counting.{report_counts}
use Rattle.drill.specs.Meeting.{HaveMet}
use Rattle.drill.specs.Runs.{IsReportOfPlan}
use Rattle.mrpc_base.specs.WholeInput.{IsInput}
use Rattle.text_commands.specs.FaultLines.{fault_line}
use Rattle.mrpc_base.specs.WholeInput.{IsAllOf}
use Rattle.mrpc_top.specs.Runs.{HasRunFault, MayReject, MayReport, drill_line}
use Rattle.mrpc_top.specs.RunPlans.{IsDrillLine, IsPlanOf}
use Rattle.mrpc_top.specs.declared.run.RunTarget.{RunTarget}
use Rattle.text_commands.specs.declared.status.TheConstants.{FAULTY_INPUT, NO_MEMORY, OUTPUT_FAILED}
use Rattle.mrpc_base.specs.declared.whole_input.TheConstants.{MAX_INPUT}
use Rattle.mrpc_top.specs.declared.run.RunTarget.TheVariants.{Scenario, Drill}
use Rattle.mrpc_top.proofs.KnownBytes.{appends-nothing}

module _ {C L : Type 0} (of_clock : ClockMembers C) (of_link : LinkMembers L) (pair : L → L → Type 0) (clock : C)
    (back back' : List (ℕ × L)) (running : RunTarget) (left : Option (List ℕ)) (plan : Plan) (totals : List (ℕ × Counts))
    (one failed : Bool) (its : one ≡ failed) where
  -- the conclusions of the laws of drills
  abbrev NoneStands : Type 0
  NoneStands = (calls : ℕ) (clock : C) (conns : List (ServedConn L)) (told : List ReportedConnection)
      → IsReportOfPlan of_clock of_link (drill calls) clock conns told → (report_counts told).standing ≡ 0

  abbrev AllWent : Type 0
  AllWent = (calls : ℕ) (clock : C) (conns : List (ServedConn L)) (told : List ReportedConnection)
      → IsReportOfPlan of_clock of_link (drill calls) clock conns told
      → (report_counts told).took ≡ (report_counts told).sent + (report_counts told).refused

  abbrev AllCame : Type 0
  AllCame = (calls : ℕ) (clock : C) (conns : List (ServedConn L)) (told : List ReportedConnection)
      → IsReportOfPlan of_clock of_link (drill calls) clock conns told → All (HasNeverFailed of_link) conns
      → ArePairs (λ s. s.link) (HaveMet of_link) conns → 4 * calls ≤ (report_counts told).took

  -- a run may print the report of its scenario's plan
  pub tells-scenario : (told : List ℕ) → running ≡ Scenario → IsPlanOf running left plan
      → HasRun of_clock of_link pair plan clock back back' told totals one
      → MayReport of_clock of_link pair clock back back' failed running left told
  tells-scenario told is says ran =
      let same : HasRun of_clock of_link pair plan clock back back' told totals failed =
      subst (HasRun of_clock of_link pair plan clock back back' told totals) its ran in
      subst (λ (r : RunTarget). IsPlanOf r left plan → MayReport of_clock of_link pair clock back back' failed r left told) (sym is)
      (λ plan_is. (plan_is.0, plan_is.1, record { plan = plan; says = plan_is.2; totals = totals; ran = same })) says

  -- and it may print the line of a drill's counts, whose numbers come from the laws of drills
  pub tells-drill : (calls : ℕ) (text told : List ℕ) → AreSumsOfEvents → NoneStands → AllWent → AllCame → running ≡ Drill calls
      → IsPlanOf running left plan → HasRun of_clock of_link pair plan clock back back' text totals one
      → IsDrillLine calls totals told → MayReport of_clock of_link pair clock back back' failed running left told
  tells-drill calls text told sums none went came is says ran line =
      let same : HasRun of_clock of_link pair plan clock back back' text totals failed =
      subst (HasRun of_clock of_link pair plan clock back back' text totals) its ran in
      subst (λ (r : RunTarget). IsPlanOf r left plan → MayReport of_clock of_link pair clock back back' failed r left told) (sym is)
      (λ plan_is.
      let of_drill : HasRun of_clock of_link pair (drill calls) clock back back' text totals failed =
      subst (λ (p : Plan). HasRun of_clock of_link pair p clock back back' text totals failed) plan_is same in
      let tells : IsReportOfPlan of_clock of_link (drill calls) clock of_drill.conns of_drill.told =
      record { served = of_drill.served; shows = of_drill.shows } in
      record {
        text = text;
        totals = totals;
        ran = of_drill;
        its_line = line.line ∙ ap (drill_line calls) (sums (flat_map counted_in of_drill.told) totals line.sound of_drill.counts);
        none_pending = none calls clock of_drill.conns of_drill.told tells;
        all_sent_or_refused = went calls clock of_drill.conns of_drill.told tells;
        all_came = λ whole. came calls clock of_drill.conns of_drill.told tells (of_drill.none_failed whole);
      }) says

pub refuses-scenario : (left left' : Option (List ℕ)) (text : List ℕ) (at : FaultyEntry) (reason : ScenarioReason) (number : ℕ)
    (word : List ℕ) → IsInput left text → HasFault text at reason → number ≡ number_of_entry at
    → word ≡ scenario_reason_word reason → MayReject Scenario left left' (fault_line number word)
refuses-scenario left left' text at reason number word input fault n w =
    inr (
      text,
      input,
      record {
        at = at;
        reason = reason;
        fault = fault;
        its_line = subst (λ v. fault_line number v ≡ fault_line (number_of_entry at) (scenario_reason_word reason)) (sym w)
            (subst (λ m. fault_line m (scenario_reason_word reason) ≡ fault_line (number_of_entry at) (scenario_reason_word reason)) (sym n) refl);
      },
    )

-- a fault's line that wasn't written whole
pub not_faulty : (status : ℕ) → (status ≡ NO_MEMORY) ⊎ (status ≡ OUTPUT_FAILED) → status ≡ FAULTY_INPUT → ⊥
not_faulty status (inl memory) faulty = omega (arith, memory, faulty)
not_faulty status (inr failed) faulty = omega (arith, failed, faulty)

-- what was left of an input that was read to its end is its text
pub fault_of_read : (left : Option (List ℕ)) (whole text : List ℕ) → length whole ≤ MAX_INPUT → IsAllOf left whole
    → left ≡ Some text → HasRunFault Scenario text → (at : FaultyEntry) × (reason : ScenarioReason) × HasFault whole at reason
fault_of_read left whole text short all is (inl long) =
    let same : text ≡ whole = subst (λ (l : Option (List ℕ)). IsAllOf l whole) is all in
    absurd (omega (arith, short, subst (λ (t : List ℕ). MAX_INPUT < length t) same long))
fault_of_read left whole text short all is (inr fault) =
    let same : text ≡ whole = subst (λ (l : Option (List ℕ)). IsAllOf l whole) is all in
    (fault.0, fault.1, subst (λ (t : List ℕ). HasFault t fault.0 fault.1) same fault.2)

-- nothing was written to an output that is unchanged
pub nothing-told : {K : Type 0} (written : K → Option (List ℕ)) (old new : K) → new ≡ old
    → Appends (written old) (written new) []
nothing-told {K} written old new same =
    subst (λ (out : K). Appends (written old) (written out) []) (sym same) (appends-nothing (written old))
