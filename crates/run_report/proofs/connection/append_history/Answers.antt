use Rattle.std.proofs.Common.{◌≡◌, ◌≤◌, ◌++◌, suc, length, map, sym, ap, ◌∙◌, Some, arith}
use Rattle.std.specs.Prelude.{slice_get}
use Rattle.audit_text.specs.Lines.{audit, audit_line}
use Rattle.call_history.specs.declared.happening.Happening.{Happening}
use Rattle.run_report.specs.ConnectionReport.{as_connection_event}
use Rattle.run_report.proofs.Lines.{all-of, goes-on, mapped, there}
use Rattle.run_report.proofs.connection.append_history.Goals as goal

pub loop-place-preserved : goal.loop-place-preserved
loop-place-preserved c =
    let count : c.len-place-end.result ≡ length c.args.calls.now.happenings = c.len-place-end.ensures ∙ ap length c.history.ensures in
    let low : suc c.loop-place.place ≤ length c.args.calls.now.happenings = omega arith in
    let one : (what : Happening) × (slice_get c.args.calls.now.happenings c.loop-place.place ≡ Some what) =
    there c.args.calls.now.happenings c.loop-place.place low in
    goes-on (λ what. audit_line c.args.table.now (as_connection_event c.args.calls.now.conn what)) c.args.out.now c.loop-place.out
    c.append_event.new.out c.args.calls.now.happenings c.loop-place.place one.0 one.1 c.loop-place.invariant
    (c.in_ok-append_event.ensures one.0 one.1)

pub returns : goal.returns
returns c =
    let count : c.len-place-end.result ≡ length c.args.calls.now.happenings = c.len-place-end.ensures ∙ ap length c.history.ensures in
    let low : length c.args.calls.now.happenings ≤ c.loop-place.place = omega arith in
    c.loop-place.invariant
    ∙ ap (λ lines. c.args.out.now ++ lines)
    (all-of (λ what. audit_line c.args.table.now (as_connection_event c.args.calls.now.conn what)) c.args.calls.now.happenings c.loop-place.place low
    ∙ sym (mapped (audit_line c.args.table.now) (as_connection_event c.args.calls.now.conn) c.args.calls.now.happenings)
    ∙ ap (λ T. audit T (map (as_connection_event c.args.calls.now.conn) c.args.calls.now.happenings)) (sym c.requires.same))
