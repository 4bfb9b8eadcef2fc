use Rattle.std.proofs.Common.{◌≡◌, ◌≤◌, max, drop, map}
use Rattle.view_top.specs.Drawing.{longest}
use Rattle.view_top.specs.DrawingData.{row}
use Rattle.view_top.specs.declared.limits.TheConstants.{MAX_TEXT}
use Rattle.view_top.proofs.drawing.longest.Given as goal

abbrev pub invariant-loop-row : goal.invariant-loop-row
invariant-loop-row l = record {
  small : l.length ≤ MAX_TEXT;
  all : max l.length (longest (map row (drop l.row-index l.rows))) ≡ longest (map row l.rows);
}
