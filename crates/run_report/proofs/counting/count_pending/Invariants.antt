use Rattle.std.proofs.Common.{[], ◌∷◌, take}
use Rattle.std.specs.List.{flat_map}
use Rattle.call_history.specs.Trace.{taken}
use Rattle.conn_core.specs.Connections.{conn_trace}
use Rattle.run_report.specs.Counting.{pending_counted}
use Rattle.run_report.proofs.Counted.{CountsOn}
use Rattle.run_report.proofs.counting.count_pending.Given as goal

abbrev pub invariant-loop-place : goal.invariant-loop-place
invariant-loop-place l =
    CountsOn (flat_map (λ call. pending_counted (taken (conn_trace l.calls)) call ∷ []) (take l.place l.calls.chain.row))
    l.fn.totals l.totals
