use Rattle.std.proofs.Common.{◌≡◌, ◌≤◌, ◌++◌, List, length, sym, ap, ◌∙◌, subst, Some, arith}
use Rattle.std.specs.Prelude.{slice_get}
use Rattle.call_history.specs.Trace.{taken}
use Rattle.call_history.specs.Records.{event_of_record}
use Rattle.conn_core.specs.Connections.{conn_trace}
use Rattle.telemetry.specs.Counts.{CountedEvent as Counted}
use Rattle.run_report.specs.Counting.{counted}
use Rattle.run_report.specs.Counts.{CanCount, HaveCounted, count_if_any}
use Rattle.run_report.proofs.Counted.{can-next, counts-all, counts-next}
use Rattle.run_report.proofs.counting.count_history.Goals as goal

pub count_some-requires : goal.count_some-requires
count_some-requires c =
    let hs = c.args.calls.now.happenings in
    let calls = taken (conn_trace c.args.calls.now) in
    let kept = c.history-in-loop-place.result.now in
    let what = event_of_record kept.steps c.at.result.now in
    let at : slice_get hs c.loop-place.place ≡ Some what =
    ap (λ l. slice_get l c.loop-place.place) (sym c.history-in-loop-place.ensures) ∙ c.at.ensures.tells in
    let same : count_if_any c.counted_by.result ≡ counted calls what =
    c.counted_by.ensures calls kept.steps c.requires.numbered c.requires.methods in
    record {
      few = subst (λ (l : List Counted). CanCount l c.loop-place.totals) (sym same)
          (can-next (counted calls) hs c.loop-place.place what c.args.totals.now c.loop-place.totals at c.requires.few
          c.loop-place.invariant);
    }

pub loop-place-preserved : goal.loop-place-preserved
loop-place-preserved c =
    let hs = c.args.calls.now.happenings in
    let calls = taken (conn_trace c.args.calls.now) in
    let kept = c.history-in-loop-place.result.now in
    let what = event_of_record kept.steps c.at.result.now in
    let at : slice_get hs c.loop-place.place ≡ Some what =
    ap (λ l. slice_get l c.loop-place.place) (sym c.history-in-loop-place.ensures) ∙ c.at.ensures.tells in
    let same : count_if_any c.counted_by.result ≡ counted calls what =
    c.counted_by.ensures calls kept.steps c.requires.numbered c.requires.methods in
    counts-next (counted calls) hs c.loop-place.place what c.args.totals.now c.loop-place.totals c.count_some.new.totals at
    c.loop-place.invariant
    (λ happened so. subst (λ (l : List Counted). HaveCounted (happened ++ l) c.count_some.new.totals) same
    (c.in_ok-count_some.ensures happened so))

pub returns : goal.returns
returns c =
    let hs = c.args.calls.now.happenings in
    let count : c.len-place-end.result ≡ length hs = c.len-place-end.ensures ∙ ap length c.history.ensures in
    let low : length hs ≤ c.loop-place.place = omega arith in
    counts-all (counted (taken (conn_trace c.args.calls.now))) hs c.loop-place.place c.args.totals.now c.loop-place.totals low
    c.loop-place.invariant
