use Rattle.std.proofs.Common.{◌∙◌, sym}
use Rattle.service.proofs.Apps.{app-found, app-there, lent-there}
use Rattle.service.proofs.prepared_run.scheduled_ops_on.Goals as goal

pub unreachable-requires : goal.unreachable-requires
unreachable-requires c =
    let app = app-found c.args.plan.now c.args.conn c.requires.known in
    lent-there c.application.result app.0 (c.application.ensures ∙ app.1) c.in_default.not-Some

pub scheduled_ops-requires-clause-app : goal.scheduled_ops-requires-clause-app
scheduled_ops-requires-clause-app c = app-there c.args.plan.now c.args.conn c.in-Some.app.now (sym c.in-Some.ensures)
