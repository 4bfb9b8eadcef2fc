-- The code's own: connections that can be reported, and their report.
use Rattle.std.specs.Prelude.{◌≡◌, ℕ, Bool, true, false, List, All, Contains, Some}
use Rattle.std.specs.List.{AllZip, concat, flat_map}
use Rattle.mrpc_base.specs.declared.link.Link.{Ghosts as LinkMembers}
use Rattle.message_delivery.specs.Arriving.{HasTrace}
use Rattle.link_handshake.specs.Handshake.{IsUnboundCause}
use Rattle.run_plan.specs.Chains.{inbound_of}
use Rattle.run_plan.specs.Links.{application_in}
use Rattle.run_plan.specs.declared.application.Application.{Application}
use Rattle.run_plan.specs.declared.plan.Plan.{Plan}
use Rattle.std.specs.Option.{option_copied}
use Rattle.run_report.specs.Counting.{counted_in}
use Rattle.run_report.specs.Report.{IsRunText}
use Rattle.run_report.specs.declared.reported_connection.ReportedConnection.{ReportedConnection}
use Rattle.service_threads.specs.declared.served.BoundConn.{BoundConn}
use Rattle.service.specs.declared.served.ConnectionOutcome.{ConnectionOutcome}
use Rattle.service.specs.declared.served.ConnectionOutcome.TheVariants.{Bound, Unbound}
use Rattle.link_handshake.specs.declared.unbound.Unbound.TheVariants.{Transport}
use Rattle.service.specs.declared.served.ServedConn.{ServedConn}
use Rattle.telemetry.specs.Totals.{IsCountOf}
use Rattle.telemetry.specs.declared.counts.Counts.{Counts}
use Rattle.run_driver.specs.Running.{HasFailed, HasNeverFailed, IsReportOfConn, conns_by_number}

-- A bound connection can be reported. It is that of an application of the plan, its arrivals were judged by the
-- application's table and policy, and its calls are of the same table.
pub record IsReportableBound (plan : Plan) (conn : ℕ) (b : BoundConn) : Type 0 where
  pub app : Application
  pub its_app : application_in plan.applications conn ≡ Some app
  pub arriving : HasTrace b.arrivals
  pub table : b.submissions.conn.table ≡ b.arrivals.table.now
  pub policy : option_copied b.arrivals.policy ≡ inbound_of plan app

abbrev pub CanReport : Plan → ℕ → ConnectionOutcome → Type 0
CanReport plan conn (Unbound why) = IsUnboundCause why
CanReport plan conn (Bound b) = IsReportableBound plan conn b

-- the outcome of a connection shows that its link failed
abbrev pub IsFailureOutcome : ConnectionOutcome → Type 0
IsFailureOutcome (Unbound why) = why ≡ Transport
IsFailureOutcome (Bound b) = b.submissions.conn.ended ≡ true

pub record IsReportableServed {L : Type 0} (of_link : LinkMembers L) (plan : Plan) (s : ServedConn L) : Type 0 where
  pub can : CanReport plan s.conn s.outcome
  pub failed : IsFailureOutcome s.outcome → HasFailed of_link s
  pub works : (IsFailureOutcome s.outcome → ⊥) → HasNeverFailed of_link s

abbrev pub AreReportable : {L : Type 0} → LinkMembers L → Plan → List (ServedConn L) → Type 0
AreReportable of_link plan conns = All (IsReportableServed of_link plan) conns

-- the text of connections and its counts
pub record IsReportOfConns {L : Type 0} (plan : Plan) (conns : List (ServedConn L)) (text : List ℕ) (totals : List (ℕ
    × Counts))
    : Type 0 where
  pub told : List ReportedConnection
  pub shows : AllZip (IsReportOfConn plan) (conns_by_number conns) told
  pub is_text : IsRunText told text
  pub counts : IsCountOf (flat_map counted_in told) totals

-- these parts in order are the text, if it is made
abbrev pub ArePartsOf : (with_text : Bool) → List ℕ → List (List ℕ) → Type 0
ArePartsOf true text parts = text ≡ concat parts
ArePartsOf false text parts = Unit {0}

-- the report of a run with these connections
pub record IsReportOfRun {L : Type 0} (of_link : LinkMembers L) (plan : Plan) (conns : List (ServedConn L))
    (text : List ℕ)
    (totals : List (ℕ × Counts)) (failed : Bool) : Type 0 where
  pub tells : IsReportOfConns plan conns text totals
  pub one_failed : failed ≡ true → (s : ServedConn L) × Contains conns s × HasFailed of_link s
  pub none_failed : failed ≡ false → All (HasNeverFailed of_link) conns
