-- A bound connection can be reported.
use Rattle.std.proofs.Common.{◌≡◌, ℕ, ◌+◌, ◌==◌, List, [], ◌++◌, All, Option, Some, None, sym, ap, ◌∙◌, subst, arith}
use Rattle.std.specs.Prelude.{option_and_then, option_map, option_to_list}
use Rattle.std.specs.List.{AllZip, filter_map, range_with_len}
use Rattle.std.specs.Option.{option_copied}
use Rattle.run_report.specs.Lines.{JudgingPolicy}
use Rattle.message_delivery.specs.Arriving.{HasTrace}
use Rattle.message_delivery.specs.declared.arrivals.Arrivals.{Arrivals}
use Rattle.policy_access.specs.Verdict.{AccessPolicy}
use Rattle.run_plan.specs.Plans.{IsPlan}
use Rattle.run_plan.specs.Links.{application_in}
use Rattle.run_plan.specs.declared.application.Application.{Application}
use Rattle.run_plan.specs.declared.plan.Plan.{Plan}
use Rattle.run_report.specs.Report.{IsReportableConn}
use Rattle.run_report.specs.declared.reported_connection.ReportedConnection.{ReportedConnection as TheShown}
use Rattle.run_report.specs.declared.reported_connection.ServedReport.{ServedReport}
use Rattle.service.specs.declared.served.ServedConn.{ServedConn}
use Rattle.service_threads.specs.declared.served.BoundConn.{BoundConn}
use Rattle.run_driver.specs.Running.{IsReportOfConn, IsReportOfBound, conn_in, judging_by, judging_on}
use Rattle.run_driver.specs.Reporting.{CanReport, IsReportableBound}
use Rattle.run_driver.proofs.Judging.{application-holds, found-holds, named-inbound}
use Rattle.run_driver.proofs.Zips.{given-more, zip-append}

abbrev policy-in : JudgingPolicy → Option AccessPolicy
policy-in judging = option_map (λ (p : List ℕ × AccessPolicy). p.1) judging

on-app : (plan : Plan) (conn : ℕ) (app : Application) → application_in plan.applications conn ≡ Some app
    → judging_on plan conn ≡ judging_by plan app
on-app plan conn app is = ap (λ (o : Option Application). option_and_then (judging_by plan) o) is

pub tellable-shown : (plan : Plan) (conn : ℕ) (b : BoundConn) (s : ServedReport) → IsPlan plan → IsReportableBound plan conn b
    → IsReportOfBound plan conn b s → IsReportableConn s
tellable-shown plan conn b s is can shows = record {
  arriving = subst HasTrace (sym shows.arrivals) can.arriving;
  table = ap (λ c. c.table) shows.calls ∙ can.table ∙ ap (λ (a : Arrivals). a.table.now) (sym shows.arrivals);
  judged = ap policy-in shows.judging ∙ ap policy-in (on-app plan conn can.app can.its_app)
      ∙ named-inbound plan can.app (application-holds plan conn can.app is can.its_app) ∙ sym can.policy
      ∙ ap (λ (a : Arrivals). option_copied a.policy) (sym shows.arrivals);
}

-- what is found among connections that can be reported can be reported
pub found-tellable : {L : Type 0} (plan : Plan) (conns : List (ServedConn L)) (number : ℕ) (s : ServedConn L)
    → All (λ (t : ServedConn L). CanReport plan t.conn t.outcome) conns → conn_in conns number ≡ Some s
    → CanReport plan s.conn s.outcome
found-tellable {L} plan conns number s all at =
    (found-holds (λ (t : ServedConn L). CanReport plan t.conn t.outcome) (λ (t : ServedConn L). t.conn == number) conns s all at).0

-- what reports the first numbers is followed by what reports the next one
pub shows-more : {L : Type 0} (plan : Plan) (conns : List (ServedConn L)) (n : ℕ) (o : Option (ServedConn L))
    (old more : List TheShown) → o ≡ conn_in conns (n + 1)
    → AllZip (IsReportOfConn plan) (filter_map (conn_in conns) (range_with_len 1 n)) old
    → AllZip (IsReportOfConn plan) (option_to_list o) more
    → AllZip (IsReportOfConn plan) (filter_map (conn_in conns) (range_with_len 1 (n + 1))) (old ++ more)
shows-more {L} plan conns n o old more is shows next =
    let first = filter_map (conn_in conns) (range_with_len 1 n) in
    let flipped : 1 + n ≡ n + 1 = omega arith in
    let whole : filter_map (conn_in conns) (range_with_len 1 (n + 1)) ≡ first ++ option_to_list o =
    given-more (conn_in conns) 1 n
    ∙ ap (λ (q : Option (ServedConn L)). first ++ option_to_list q) (ap (conn_in conns) flipped ∙ sym is) in
    subst (λ (xs : List (ServedConn L)). AllZip (IsReportOfConn plan) xs (old ++ more)) (sym whole)
    (zip-append (IsReportOfConn plan) first old (option_to_list o) more shows next)

pub none-shown : {L : Type 0} (plan : Plan) (o : Option (ServedConn L)) → o ≡ None → AllZip (IsReportOfConn plan) (option_to_list o) []
none-shown {L} plan o is = subst (λ (q : Option (ServedConn L)). AllZip (IsReportOfConn plan) (option_to_list q) []) (sym is) tt
