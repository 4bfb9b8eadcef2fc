use Rattle.run_report.proofs.Fitting.{lived-fit}
use Rattle.run_report.proofs.arrival_laws.lines_are_writable.Goals as goal

pub returns : goal.returns
returns c = lived-fit
