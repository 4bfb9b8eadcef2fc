use Rattle.std.proofs.Common.{◌≡◌, ℕ, ◌-◌, ◌<◌, ◌≤◌, length, get_or}
use Rattle.view_top.specs.declared.line.Event.{Event}
use Rattle.view_top.proofs.row.end_of.Given as goal

abbrev pub invariant-loop-end : goal.invariant-loop-end
invariant-loop-end l = record {
  further : l.at < l.end;
  within : l.end ≤ length l.events;
  same : (k : ℕ) (d : Event) → l.at ≤ k → k < l.end → (get_or l.events k d).conn ≡ l.conn;
}

abbrev pub decreases-loop-end : goal.decreases-loop-end
decreases-loop-end l = length l.events - l.end
