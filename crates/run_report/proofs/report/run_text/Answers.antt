use Rattle.std.specs.List.{flat_map}
use Rattle.telemetry.specs.Totals.{totals_text}
use Rattle.run_report.specs.Counting.{counted_in}
use Rattle.run_report.specs.Report.{rounds_of}
use Rattle.run_report.proofs.Telling.{joined-last}
use Rattle.run_report.proofs.report.run_text.Goals as goal

pub returns-clause-text : goal.returns-clause-text
returns-clause-text g c = record {
  each = c.in_ok-parts.parts.items;
  texts = c.in_ok-parts.ensures.texts;
  totals = totals_text c.in_ok-totals.totals;
  counts = c.totals_are_counts.ensures.text (flat_map counted_in c.args.shown.now) c.in_ok-totals.totals
      c.in_ok-last.ensures.totals c.in_ok-totals.ensures.each;
  whole = joined-last c.in_ok-parts.parts.items c.push.new.self.items c.in_ok-last.last (flat_map rounds_of c.args.shown.now)
      (totals_text c.in_ok-totals.totals) c.in_ok-push.ensures.items c.in_ok-last.ensures.text;
}
