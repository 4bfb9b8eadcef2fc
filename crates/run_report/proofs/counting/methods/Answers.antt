use Rattle.std.proofs.Common.{◌≡◌, ◌≤◌, ◌+◌, ◌++◌, suc, length, take, sym, ap, ◌∙◌, Some, arith}
use Rattle.std.specs.Prelude.{slice_get}
use Rattle.std.specs.List.{flat_map}
use Rattle.call_history.specs.Records.{event_of_record}
use Rattle.run_report.specs.Counts.{methods_by}
use Rattle.run_report.proofs.Calls.{methods-told}
use Rattle.run_report.proofs.Lines.{all-of, one-more}
use Rattle.run_report.proofs.counting.methods.Goals as goal

pub loop-place-preserved : goal.loop-place-preserved
loop-place-preserved c =
    let hs = c.args.calls.now.happenings in
    let kept = c.history-in-loop-place.result.now in
    let what = event_of_record kept.steps c.at.result.now in
    let at : slice_get hs c.loop-place.place ≡ Some what =
    ap (λ l. slice_get l c.loop-place.place) (sym c.history-in-loop-place.ensures) ∙ c.at.ensures.tells in
    let next : suc c.loop-place.place ≡ c.loop-place.place + 1 = omega arith in
    c.in_ok-push_method.ensures kept.steps ∙ ap (λ l. l ++ methods_by what) c.loop-place.invariant
    ∙ sym (one-more methods_by hs c.loop-place.place what at) ∙ ap (λ n. flat_map methods_by (take n hs)) next

pub returns : goal.returns
returns c =
    let count : c.len-place-end.result ≡ length c.args.calls.now.happenings = c.len-place-end.ensures ∙ ap length c.history.ensures in
    let low : length c.args.calls.now.happenings ≤ c.loop-place.place = omega arith in
    c.loop-place.invariant ∙ all-of methods_by c.args.calls.now.happenings c.loop-place.place low
    ∙ methods-told c.args.calls.now.happenings
