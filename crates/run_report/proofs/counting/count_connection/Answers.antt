use Rattle.std.proofs.Common.{[], sym, subst, arith}
use Rattle.run_report.specs.Counts.{HaveCounted}
use Rattle.run_report.proofs.Counted.{none-counted}
use Rattle.run_report.proofs.counting.count_connection.Goals as goal

pub count_lines-requires : goal.count_lines-requires
count_lines-requires c = record {
  few = record {
    happened = [];
    so_far = subst (HaveCounted []) (sym c.new-totals.ensures) none-counted;
    few = omega (arith, c.in-Some.ensures);
  };
}

pub returns : goal.returns
returns c = c.in_ok-count_lines.ensures [] (subst (HaveCounted []) (sym c.new-totals.ensures) none-counted)
