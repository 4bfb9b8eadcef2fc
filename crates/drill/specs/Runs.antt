-- The report of the connections of a run (this project's own).
use Rattle.std.specs.Prelude.{List}
use Rattle.std.specs.List.{AllZip}
use Rattle.mrpc_base.specs.declared.clock.Clock.{Ghosts as ClockMembers}
use Rattle.mrpc_base.specs.declared.link.Link.{Ghosts as LinkMembers}
use Rattle.run_plan.specs.Links.{all_ends}
use Rattle.run_plan.specs.declared.plan.Plan.{Plan}
use Rattle.run_report.specs.declared.reported_connection.ReportedConnection.{ReportedConnection}
use Rattle.run_report.specs.declared.reported_connection.ReportedConnection.TheVariants.{Served, Unbound}
use Rattle.service.specs.Served.{WasServed}
use Rattle.service.specs.declared.served.ServedConn.{ServedConn}
use Rattle.run_driver.specs.Running.{IsReportOfConn, conns_by_number}

-- the connection is reported as bound
abbrev pub IsReportedBound : ReportedConnection → Type 0
IsReportedBound (Unbound conn why) = ⊥
IsReportedBound (Served served) = Unit {0}

-- Each connection of a plan was served, or left unbound, and is reported by its outcome, by ascending number.
pub record IsReportOfPlan {C L : Type 0} (of_clock : ClockMembers C) (of_link : LinkMembers L) (plan : Plan) (clock : C)
    (conns : List (ServedConn L)) (told : List ReportedConnection) : Type 0 where
  pub served : AllZip (WasServed of_clock of_link plan clock) (all_ends plan.links) conns
  pub shows : AllZip (IsReportOfConn plan) (conns_by_number conns) told
