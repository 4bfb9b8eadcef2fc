-- What a run of a plan did, and its report (this project's own).
use Rattle.std.specs.Prelude.{◌≡◌, ◌==◌, ◌<◌, ◌^◌, ℕ, Bool, true, false, List, ◌++◌, All, Contains, find, map, length, IsPermutation, Option, option_and_then, option_map}
use Rattle.std.specs.List.{AllZip, flat_map, filter_map, range_with_len}
use Rattle.mrpc_base.specs.Failures.{HasRisen}
use Rattle.mrpc_base.specs.declared.clock.Clock.{Ghosts as ClockMembers}
use Rattle.mrpc_base.specs.declared.link.Link.{Ghosts as LinkMembers}
use Rattle.mrpc_base.specs.declared.tickets.TheConstants.{WINDOWS}
use Rattle.tenant_quota.specs.Drawing.{IsPermutationOfRange}
use Rattle.conn_core.specs.Connections.{IsConnection}
use Rattle.run_report.specs.Lines.{JudgingPolicy, judging_of}
use Rattle.policy_access.specs.Verdict.{AccessPolicy}
use Rattle.run_plan.specs.Chains.{inbound_of, policy_name_at}
use Rattle.run_plan.specs.Links.{all_ends, application_in}
use Rattle.run_plan.specs.declared.application.Application.{Application}
use Rattle.run_plan.specs.declared.limits.TheConstants.{MAX_CONNECTIONS}
use Rattle.run_plan.specs.declared.plan.Plan.{Plan}
use Rattle.run_report.specs.Counting.{counted_in}
use Rattle.run_report.specs.Report.{IsRunText}
use Rattle.run_report.specs.declared.reported_connection.Rounds.{Rounds}
use Rattle.run_report.specs.declared.reported_connection.ReportedConnection.{ReportedConnection}
use Rattle.run_report.specs.declared.reported_connection.ReportedConnection.TheVariants as shown
use Rattle.run_report.specs.declared.reported_connection.ServedReport.{ServedReport}
use Rattle.telemetry.specs.Totals.{IsCountOf}
use Rattle.telemetry.specs.declared.counts.Counts.{Counts}
use Rattle.service_loop.specs.declared.visit_account.VisitAccount.{VisitAccount}
use Rattle.service_threads.specs.declared.served.BoundConn.{BoundConn}
use Rattle.service.specs.Served.{ArePairs, WasServed, all_tickets}
use Rattle.service.specs.declared.served.ConnectionOutcome.{ConnectionOutcome}
use Rattle.service.specs.declared.served.ConnectionOutcome.TheVariants.{Bound, Unbound}
use Rattle.service.specs.declared.served.ServedConn.{ServedConn}

-- ---- the report

-- the access policy that judges deliveries to an application, under its name
abbrev pub with_policy_name : List ℕ → AccessPolicy → List ℕ × AccessPolicy
with_policy_name name policy = (name, policy)

abbrev pub inbound_name : Plan → Application → Option (List ℕ)
inbound_name plan app = option_and_then (λ place. policy_name_at plan.declared.policies place) app.inbound

abbrev pub judging_by : Plan → Application → JudgingPolicy
judging_by plan app = option_and_then (λ name. option_map (with_policy_name name) (inbound_of plan app))
    (inbound_name plan app)

abbrev pub judging_on : Plan → ℕ → JudgingPolicy
judging_on plan conn = option_and_then (judging_by plan) (application_in plan.applications conn)

-- the report of a connection's visits, from its visit account
abbrev pub rounds_of_visits : VisitAccount → Rounds
rounds_of_visits share = record { weight = share.weight; account = share.account }

-- a bound connection is reported by what it served; the invariant of connections holds for it, so its history is
-- legal
pub record IsReportOfBound (plan : Plan) (conn : ℕ) (b : BoundConn) (s : ServedReport) : Type 0 where
  pub calls : s.calls.now ≡ b.submissions.conn
  pub connection : IsConnection b.submissions.conn
  pub arrivals : s.arrivals.now ≡ b.arrivals
  pub judging : judging_of s.judge ≡ judging_on plan conn
  pub not_held : s.not_held.now ≡ b.reclaims.not_held.items
  pub rounds : s.rounds ≡ option_map rounds_of_visits b.share

-- a connection is reported by its outcome
abbrev pub IsReportOfOutcome : Plan → ℕ → ConnectionOutcome → ReportedConnection → Type 0
IsReportOfOutcome plan conn (Unbound why) (shown.Unbound number cause) = (number ≡ conn) × (cause.now ≡ why)
IsReportOfOutcome plan conn (Bound b) (shown.Served s) = IsReportOfBound plan conn b s
IsReportOfOutcome plan conn _ _ = ⊥

abbrev pub IsReportOfConn : {L : Type 0} → Plan → ServedConn L → ReportedConnection → Type 0
IsReportOfConn plan s told = IsReportOfOutcome plan s.conn s.outcome told

-- the connections by ascending number
abbrev pub conn_in : {L : Type 0} → List (ServedConn L) → ℕ → Option (ServedConn L)
conn_in conns number = find (λ s. s.conn == number) conns

abbrev pub conns_by_number : {L : Type 0} → List (ServedConn L) → List (ServedConn L)
conns_by_number conns = filter_map (conn_in conns) (range_with_len 1 MAX_CONNECTIONS)

-- ---- the links

-- a connection's link, as its fabric gets it back
abbrev pub numbered_link : {L : Type 0} → ServedConn L → ℕ × L
numbered_link s = (s.conn, s.link)

-- whether the link of a connection failed
abbrev pub HasFailed : {L : Type 0} → LinkMembers L → ServedConn L → Type 0
HasFailed of_link s = HasRisen 0 (of_link.failures s.link)

abbrev pub HasNeverFailed : {L : Type 0} → LinkMembers L → ServedConn L → Type 0
HasNeverFailed of_link s = of_link.failures s.link ≡ 0

-- ---- the run

-- A run of a plan over a fabric, from the links that the fabric had back before to those after. Each connection of
-- the plan was served, or left unbound for what its link gave. Each two in a row have the ends of one link. The
-- tickets of a tenant's window are 0, 1, 2 and so on, each once, if they are fewer than 2^64. This is the text of
-- these connections, by ascending number, and these are the counts of its lines. The fabric has all their links back,
-- and the run reports whether one of them failed.
pub record HasRun {C L : Type 0} (of_clock : ClockMembers C) (of_link : LinkMembers L) (pair : L → L → Type 0)
    (plan : Plan) (clock : C) (back back' : List (ℕ × L)) (text : List ℕ) (totals : List (ℕ × Counts)) (failed : Bool)
    : Type 0 where
  pub conns : List (ServedConn L)
  pub served : AllZip (WasServed of_clock of_link plan clock) (all_ends plan.links) conns
  pub pairs : ArePairs (λ s. s.link) pair conns
  pub tickets : (tenant window : ℕ) → tenant < length plan.declared.tenants → window < WINDOWS
      → length (all_tickets tenant window conns) < 2 ^ 64 → IsPermutationOfRange (all_tickets tenant window conns)
  pub told : List ReportedConnection
  pub shows : AllZip (IsReportOfConn plan) (conns_by_number conns) told
  pub is_text : IsRunText told text
  pub counts : IsCountOf (flat_map counted_in told) totals
  pub given_back : IsPermutation back' (map numbered_link conns ++ back)
  pub one_failed : failed ≡ true → (s : ServedConn L) × Contains conns s × HasFailed of_link s
  pub none_failed : failed ≡ false → All (HasNeverFailed of_link) conns
