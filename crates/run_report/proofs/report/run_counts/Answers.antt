use Rattle.std.specs.List.{flat_map}
use Rattle.telemetry.specs.Totals.{totals_text}
use Rattle.run_report.specs.Counting.{counted_in}
use Rattle.run_report.proofs.Texts.{a-text}
use Rattle.run_report.proofs.report.run_counts.Goals as goal

pub returns-clause-text : goal.returns-clause-text
returns-clause-text g c =
    a-text c.split_is_unique.ensures.once c.args.shown.now (totals_text c.in_ok-totals.totals) c.requires
    (c.totals_are_counts.ensures.text (flat_map counted_in c.args.shown.now) c.in_ok-totals.totals c.sums-sums.ensures.totals
    c.in_ok-totals.ensures.each)
