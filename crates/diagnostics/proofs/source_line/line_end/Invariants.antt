use Rattle.std.proofs.Common.{length, ◌-◌, ◌≤◌}
use Rattle.diagnostics.specs.Snippets.{IsWithinLine}
use Rattle.diagnostics.proofs.source_line.line_end.Given as goal

abbrev pub invariant-loop-end : goal.invariant-loop-end
invariant-loop-end l = (l.at ≤ l.end) × (l.end ≤ length l.text) × IsWithinLine l.text l.at l.end

abbrev pub decreases-loop-end : goal.decreases-loop-end
decreases-loop-end l = length l.text - l.end
