use Rattle.std.proofs.Common.{◌≡◌, ◌*◌, ◌^◌, ◌≤◌, ◌++◌, drop, map}
use Rattle.view_top.specs.Drawing.{rows_text}
use Rattle.view_top.specs.DrawingData.{row}
use Rattle.view_top.proofs.drawing.put_rows.Given as goal

abbrev pub invariant-loop-row : goal.invariant-loop-row
invariant-loop-row l = record {
  small : l.top ≤ l.row-index * 2 ^ 30;
  text : l.picture ++ rows_text l.top (map row (drop l.row-index l.rows)) ≡ l.fn.picture ++ rows_text 0 (map row l.rows);
}
