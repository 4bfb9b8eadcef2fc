use Rattle.telemetry.proofs.Counted.{sums_count, text_counts}
use Rattle.telemetry.proofs.laws.totals_are_counts.Goals as goal

pub returns : goal.returns
returns c = record { sums = sums_count; text = text_counts }
