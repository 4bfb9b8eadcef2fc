use Rattle.std.proofs.Common.{sym}
use Rattle.graph_copy.proofs.Making.{optional_run}
use Rattle.graph_copy.proofs.build.optional.Goals as goal

pub returns-in_ok-run-in-Run : goal.returns-in_ok-run-in-Run
returns-in_ok-run-in-Run c = λ T place.
    optional_run T c.args.kind place c.args.first c.saturating_sub.result c.args.tape.now.loads.now
    c.run.new.tape.loads.now c.in_ok-run-in-Run.field-0 (sym c.in-Run.ensures) c.requires c.saturating_sub.ensures
    c.in_ok-run-in-Run.ensures
