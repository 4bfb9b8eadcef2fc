use Rattle.std.proofs.Common.{arith}
use Rattle.telemetry.specs.Totals.{sums_of}
use Rattle.run_report.proofs.Counted.{counted-one, number-within}
use Rattle.run_report.proofs.counting.count_one.Goals as goal

pub add-requires : goal.add-requires
add-requires c =
    omega (arith, number-within c.args.what (sums_of c.args.totals.now), c.requires.few.so_far.all, c.requires.few.few)

pub returns : goal.returns
returns c = λ happened so.
    counted-one c.counts_add_up.ensures.one happened (record { method = c.args.method; what = c.args.what }) c.args.totals.now
    c.add.new.self so c.in_ok-add.ensures.counts c.in_ok-add.ensures.sums
