use Rattle.std.proofs.Common.{◌≡◌, ◌≤◌, ◌+◌, ◌++◌, take}
use Rattle.conn_core.specs.Invariant.{failure_events}
use Rattle.conn_core.proofs.noting.refuse_all.Given as goal

abbrev pub invariant-loop-place : goal.invariant-loop-place
invariant-loop-place l =
    (l.history.steps ≡ l.fn.history.steps)
    × (l.history.happenings ≡ l.fn.history.happenings ++ failure_events (take l.place l.calls))
    × (l.fn.history.room ≤ l.history.room + l.place)
