use Rattle.std.proofs.Common.{◌≡◌, ◌≤◌, ◌++◌, suc, length, drop, refl, ap, subst, ◌∙◌, Some, arith}
use Rattle.std.specs.Prelude.{slice_get}
use Rattle.std.specs.List.{flat_map}
use Rattle.call_history.specs.declared.happening.Happening.{Happening}
use Rattle.replay_run.specs.Kept.{unwritten}
use Rattle.replay_run.proofs.Written.{TellsRest, item-all, item-one, item-some, on-err, one-by-one, rest-begins, rest-some, some-none, there, told_on}
use Rattle.replay_run.proofs.audit_lines.write_new_events.Goals as goal

pub loop-place-init : goal.loop-place-init
loop-place-init g c =
    let out = g.K.Sink.written c.args.out.now in
    let conn = c.args.connection.now.calls.conn in
    let hs = drop c.args.connection.now.told c.args.connection.now.calls.happenings in
    record {
      rest = subst (TellsRest out out (flat_map (told_on c.args.table.now conn) hs)) (one-by-one c.args.table.now conn hs)
          (rest-begins out (flat_map (told_on c.args.table.now conn) hs));
      failures = refl;
    }

pub returns-in_err-append_event-clause-front : goal.returns-in_err-append_event-clause-front
returns-in_err-append_event-clause-front g c =
    let out = g.K.Sink.written c.loop-place.out in
    let rest = flat_map (told_on c.args.table.now c.args.connection.now.calls.conn) (drop c.loop-place.place c.args.connection.now.calls.happenings) in
    on-err _ (rest-some (g.K.Sink.written c.args.out.now) out out rest (unwritten c.args.table.now c.args.connection.now)
    c.loop-place.invariant.rest (some-none out rest))

pub returns-in_err-write_line-clause-front : goal.returns-in_err-write_line-clause-front
returns-in_err-write_line-clause-front g c =
    let hs = c.args.connection.now.calls.happenings in
    let count : c.len-count.result ≡ length hs = c.len-count.ensures ∙ ap length c.history.ensures in
    let low : suc c.loop-place.place ≤ length hs = omega arith in
    let one : (what : Happening) × (slice_get hs c.loop-place.place ≡ Some what) = there hs c.loop-place.place low in
    let line = told_on c.args.table.now c.args.connection.now.calls.conn in
    on-err _ (item-some line hs (g.K.Sink.written c.args.out.now) (g.K.Sink.written c.loop-place.out)
    (unwritten c.args.table.now c.args.connection.now) (g.K.Sink.written c.write_line.new.out) c.loop-place.place one.0 c.as_slice.result.now
    c.loop-place.invariant.rest one.1
    (c.as_slice.ensures ∙ c.in_ok-append_event.ensures one.0 one.1 ∙ ap (λ l. l ++ line one.0) c.clear.ensures)
    (let some = c.in_err-write_line.ensures.front in (some.0, omega arith, some.2)))

pub loop-place-preserved : goal.loop-place-preserved
loop-place-preserved g c =
    let hs = c.args.connection.now.calls.happenings in
    let count : c.len-count.result ≡ length hs = c.len-count.ensures ∙ ap length c.history.ensures in
    let low : suc c.loop-place.place ≤ length hs = omega arith in
    let one : (what : Happening) × (slice_get hs c.loop-place.place ≡ Some what) = there hs c.loop-place.place low in
    let line = told_on c.args.table.now c.args.connection.now.calls.conn in
    record {
      rest = item-one line hs (g.K.Sink.written c.args.out.now) (g.K.Sink.written c.loop-place.out)
          (unwritten c.args.table.now c.args.connection.now) (g.K.Sink.written c.write_line.new.out) c.loop-place.place _ one.0
          c.as_slice.result.now c.loop-place.invariant.rest one.1
          (c.as_slice.ensures ∙ c.in_ok-append_event.ensures one.0 one.1 ∙ ap (λ l. l ++ line one.0) c.clear.ensures)
          (omega arith) c.in_ok-write_line.ensures.written;
      failures = c.in_ok-write_line.ensures.cause.stays (λ e. cc) ∙ c.loop-place.invariant.failures;
    }

pub returns-clause-lines : goal.returns-clause-lines
returns-clause-lines g c =
    let hs = c.args.connection.now.calls.happenings in
    let count : c.len-count.result ≡ length hs = c.len-count.ensures ∙ ap length c.history.ensures in
    item-all (told_on c.args.table.now c.args.connection.now.calls.conn) hs (g.K.Sink.written c.args.out.now)
    (g.K.Sink.written c.loop-place.out) (unwritten c.args.table.now c.args.connection.now) c.loop-place.place c.loop-place.invariant.rest (omega arith)
