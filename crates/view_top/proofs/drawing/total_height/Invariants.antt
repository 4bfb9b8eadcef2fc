use Rattle.std.proofs.Common.{◌≡◌, ◌+◌, ◌*◌, ◌^◌, ◌≤◌, drop, map}
use Rattle.view_top.specs.Drawing.{total_height}
use Rattle.view_top.specs.DrawingData.{row}
use Rattle.view_top.proofs.drawing.total_height.Given as goal

abbrev pub invariant-loop-row : goal.invariant-loop-row
invariant-loop-row l = record {
  small : l.height ≤ l.row-index * 2 ^ 30;
  all : l.height + total_height (map row (drop l.row-index l.rows)) ≡ total_height (map row l.rows);
}
