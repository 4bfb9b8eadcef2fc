use Rattle.std.proofs.Common.{List, ◌++◌, map, subst, append_assoc}
use Rattle.std.specs.List.{flat_map}
use Rattle.std.proofs.lemmas.Result.{on_ok_weaker}
use Rattle.call_history.specs.Trace.{taken}
use Rattle.conn_core.specs.Connections.{conn_trace, judge_context}
use Rattle.telemetry.specs.Counts.{CountedEvent as Counted}
use Rattle.run_report.specs.Counting.{counted, pending_counted}
use Rattle.run_report.proofs.Calls.{are-numbered}
use Rattle.run_report.specs.Counts.{HaveCounted}
use Rattle.run_report.proofs.Counted.{can-first, can-then}
use Rattle.run_report.proofs.counting.count_lines.Goals as goal

pub count_history-requires-clause-numbered : goal.count_history-requires-clause-numbered
count_history-requires-clause-numbered c =
    are-numbered (judge_context c.args.calls.now) (conn_trace c.args.calls.now) c.is_connection.ensures.is_valid_state.legal.prefix

pub count_history-requires-clause-few : goal.count_history-requires-clause-few
count_history-requires-clause-few c =
    can-first (flat_map (counted (taken (conn_trace c.args.calls.now))) c.args.calls.now.happenings)
    (map (pending_counted (taken (conn_trace c.args.calls.now))) c.args.calls.now.chain.row) c.args.totals.now c.requires.few

pub count_pending-requires-clause-numbered : goal.count_pending-requires-clause-numbered
count_pending-requires-clause-numbered c =
    are-numbered (judge_context c.args.calls.now) (conn_trace c.args.calls.now) c.is_connection.ensures.is_valid_state.legal.prefix

pub count_pending-requires-clause-few : goal.count_pending-requires-clause-few
count_pending-requires-clause-few c =
    can-then (flat_map (counted (taken (conn_trace c.args.calls.now))) c.args.calls.now.happenings)
    (map (pending_counted (taken (conn_trace c.args.calls.now))) c.args.calls.now.chain.row) c.args.totals.now
    c.count_history.new.totals c.requires.few c.in_ok-count_history.ensures

pub returns : goal.returns
returns c = λ happened so.
    let told : List Counted = flat_map (counted (taken (conn_trace c.args.calls.now))) c.args.calls.now.happenings in
    let stands : List Counted = map (pending_counted (taken (conn_trace c.args.calls.now))) c.args.calls.now.chain.row in
    on_ok_weaker c.count_pending.result
    (λ more. subst (λ (h : List Counted). HaveCounted h c.count_pending.new.totals) (append_assoc happened told stands) more)
    (c.count_pending.ensures (happened ++ told) (c.in_ok-count_history.ensures happened so))
