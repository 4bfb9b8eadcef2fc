use Rattle.std.proofs.Common.{◌≡◌, ◌∙◌, ◌+◌, ℕ, [], All, List, sym, subst, arith}
use Rattle.std.specs.List.{AllZip, filter_map, range_with_len}
use Rattle.std.specs.Option.{option_copied}
use Rattle.std.proofs.lemmas.List.Elements.{All-append, All-nil}
use Rattle.run_report.specs.Report.{IsReportable}
use Rattle.run_report.specs.declared.reported_connection.ReportedConnection.{ReportedConnection as TheShown}
use Rattle.run_driver.specs.Running.{IsReportOfConn, conn_in}
use Rattle.run_driver.proofs.Shown.{found-tellable, shows-more}
use Rattle.run_driver.proofs.reporting.reported_all.Goals as goal

pub loop-before-init : goal.loop-before-init
loop-before-init g c = (
  subst (λ (xs : List TheShown). AllZip (IsReportOfConn {L = g.row.L.Denot} c.args.plan.now) [] xs) (sym c.new-shown.ensures.items) tt,
  subst (λ (xs : List TheShown). All IsReportable xs) (sym c.new-shown.ensures.items) (All-nil IsReportable),
)

pub push_reported-requires-clause-can : goal.push_reported-requires-clause-can
push_reported-requires-clause-can g c s at =
    found-tellable c.args.plan.now c.args.conns.now (c.loop-before.before + 1) s c.requires.can (sym c.conn_of.ensures ∙ at)

pub loop-before-preserved : goal.loop-before-preserved
loop-before-preserved g c =
    let so = c.loop-before.invariant in
    let plan = c.args.plan.now in
    let conns = c.args.conns.now in
    let before = c.loop-before.before in
    let old = c.loop-before.shown.items in
    let added = c.in_ok-push_reported.ensures in (
      subst (λ (xs : List TheShown). AllZip (IsReportOfConn plan) (filter_map (conn_in conns) (range_with_len 1 (before + 1))) xs)
          (sym added.1)
          (shows-more plan conns before (option_copied c.conn_of.result) old added.0 c.conn_of.ensures so.0 added.2),
      subst (λ (xs : List TheShown). All IsReportable xs) (sym added.1) (All-append IsReportable old added.0 so.1 added.3),
    )

pub returns-clause-shows : goal.returns-clause-shows
returns-clause-shows g c =
    let all : c.loop-before.before ≡ 16 = omega arith in
    subst (λ (n : ℕ). AllZip (IsReportOfConn c.args.plan.now) (filter_map (conn_in c.args.conns.now) (range_with_len 1 n))
    c.loop-before.shown.items) all c.loop-before.invariant.0
