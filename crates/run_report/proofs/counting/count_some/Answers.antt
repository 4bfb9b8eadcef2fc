use Rattle.std.proofs.Common.{◌++◌, ℕ, Option, sym, subst}
use Rattle.telemetry.specs.declared.counts.What.{What}
use Rattle.run_report.specs.Counts.{HaveCounted, count_if_any}
use Rattle.run_report.proofs.Counted.{counted-none}
use Rattle.run_report.proofs.counting.count_some.Goals as goal

pub returns-in-None : goal.returns-in-None
returns-in-None c = λ happened so.
    subst (λ (o : Option (ℕ × What)). HaveCounted (happened ++ count_if_any o) c.args.totals.now) (sym c.in-None.is)
    (counted-none happened c.args.totals.now so)
