use Rattle.std.proofs.Common.{◌-◌, ◌≤◌, ◌++◌, List, length, drop, map, vec_len}
use Rattle.view_top.specs.Rows.{AreRows, TimelineRow}
use Rattle.view_top.specs.DrawingData.{conn_line_event, row}
use Rattle.view_top.proofs.row.rows_in.Given as goal

abbrev pub invariant-loop-at : goal.invariant-loop-at
invariant-loop-at l = record {
  within : l.at ≤ length l.events;
  rows : (more : List TimelineRow) → AreRows (map conn_line_event (drop l.at l.events)) more → AreRows (map conn_line_event l.events) (map row l.rows.items ++ more);
  few : vec_len l.rows ≤ l.at;
}

abbrev pub decreases-loop-at : goal.decreases-loop-at
decreases-loop-at l = length l.events - l.at
