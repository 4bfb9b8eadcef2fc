use Rattle.std.proofs.Common.{[], ap, sym, append-nil}
use Rattle.std.specs.Option.{option_copied}
use Rattle.std.proofs.lemmas.List.Elements.{All-nil}
use Rattle.run_report.specs.Report.{IsReportable}
use Rattle.run_driver.proofs.Shown.{none-shown}
use Rattle.run_driver.proofs.reporting.push_reported.Goals as goal

pub reported_of-requires-clause-can : goal.reported_of-requires-clause-can
reported_of-requires-clause-can g c = c.requires.can c.in-Some.conn.now (ap option_copied c.in-Some.is)

pub returns-in-None : goal.returns-in-None
returns-in-None g c = (
  [],
  sym (append-nil c.args.shown.now.items),
  none-shown c.args.plan.now (option_copied c.args.conn) (ap option_copied c.in-None.is),
  All-nil IsReportable,
)
