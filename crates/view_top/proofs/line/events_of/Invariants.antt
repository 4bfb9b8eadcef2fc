use Rattle.std.proofs.Common.{◌≡◌, ◌+◌, ◌≤◌, ◌++◌, length, map, filter_map, vec_len}
use Rattle.mrpc_table.specs.Lines.{whole_lines}
use Rattle.view_top.specs.Lines.{event_of_line}
use Rattle.view_top.specs.DrawingData.{conn_line_event}
use Rattle.view_top.proofs.line.events_of.Given as goal

abbrev pub invariant-loop-line : goal.invariant-loop-line
invariant-loop-line l = record {
  told : map conn_line_event l.events.items ++ filter_map event_of_line (whole_lines l.rest) ≡ filter_map event_of_line (whole_lines l.fn.text);
  few : vec_len l.events + length l.rest ≤ length l.fn.text;
}

abbrev pub decreases-loop-line : goal.decreases-loop-line
decreases-loop-line l = length l.rest
