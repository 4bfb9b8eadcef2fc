use Rattle.std.proofs.Common.{◌≡◌, ◌++◌, drop, map}
use Rattle.view_top.specs.Rows.{ticks_from}
use Rattle.view_top.specs.DrawingData.{line_events, tick}
use Rattle.view_top.proofs.tick.ticks_of.Given as goal

abbrev pub invariant-loop-event : goal.invariant-loop-event
invariant-loop-event l = record {
  at : l.at ≡ l.event-index;
  marks : map tick l.marks.items ++ ticks_from l.event-index (line_events (drop l.event-index l.events)) ≡ ticks_from 0 (line_events l.events);
}
