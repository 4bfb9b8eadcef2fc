use Rattle.std.proofs.Common.{subst}
use Rattle.service.specs.declared.served.ConnectionOutcome.{ConnectionOutcome}
use Rattle.run_driver.specs.Reporting.{CanReport}
use Rattle.run_driver.proofs.Shown.{tellable-shown}
use Rattle.run_driver.proofs.reporting.reported_of.Goals as goal

pub returns-in-Bound-clause-tellable : goal.returns-in-Bound-clause-tellable
returns-in-Bound-clause-tellable g c =
    let plan = c.args.plan.now in
    let conn = c.args.served.now.conn in
    let can = subst (λ (o : ConnectionOutcome). CanReport plan conn o) c.in-Bound.is c.requires.can in
    tellable-shown plan conn c.in-Bound.bound c.served_report.result c.requires.plan can c.served_report.ensures
