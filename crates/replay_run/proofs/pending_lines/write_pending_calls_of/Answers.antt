use Rattle.std.proofs.Common.{◌≡◌, ◌≤◌, ℕ, suc, length, refl, ap, ◌∙◌, Some, arith}
use Rattle.std.specs.Prelude.{slice_get}
use Rattle.chain_upgrade.specs.Chains.{ChainParts}
use Rattle.conn_core.specs.Connections.{conn_state}
use Rattle.replay_run.specs.Kept.{open_connection_of}
use Rattle.connection_audit.specs.Pending.{pending_line}
use Rattle.replay_run.specs.PendingLines.{stands_lines_on}
use Rattle.replay_run.proofs.Queued.{rows-long}
use Rattle.replay_run.proofs.Written.{item-one, item-some, on-err, rest-begins, rest-some, some-none, there}
use Rattle.replay_run.proofs.pending_lines.write_pending_calls_of.Goals as goal

pub loop-place-init : goal.loop-place-init
loop-place-init g c = record { rest = rest-begins (g.K.Sink.written c.args.out.now) (stands_lines_on (open_connection_of c.args.connection.now)); failures = refl }

pub returns-in_err-line-clause-front : goal.returns-in_err-line-clause-front
returns-in_err-line-clause-front g c = on-err _ (rest-some (g.K.Sink.written c.args.out.now) (g.K.Sink.written c.loop-place.out) (g.K.Sink.written c.loop-place.out)
    _ (stands_lines_on (open_connection_of c.args.connection.now)) c.loop-place.invariant.rest (some-none (g.K.Sink.written c.loop-place.out) _))

pub returns-in_err-write_line-clause-front : goal.returns-in_err-write_line-clause-front
returns-in_err-write_line-clause-front g c =
    let long : length c.args.connection.now.calls.chain.row ≡ length c.args.connection.now.calls.chain.calls =
    rows-long c.args.connection.now.calls.chain.row c.args.connection.now.calls.chain.calls c.is_connection.ensures.is_chain_state.row in
    let count : c.len-place-end.result ≡ length c.args.connection.now.calls.chain.calls =
    c.len-place-end.ensures.count ∙ ap length (c.calls.ensures ∙ ap (λ (ch : ChainParts). ch.calls) c.chain.ensures) in
    let low : suc c.loop-place.place ≤ length c.args.connection.now.calls.chain.row = omega arith in
    let one : (call : ℕ × ℕ) × (slice_get c.args.connection.now.calls.chain.row c.loop-place.place ≡ Some call) =
    there c.args.connection.now.calls.chain.row c.loop-place.place low in
    on-err _ (item-some (pending_line c.args.connection.now.calls.conn (conn_state c.args.connection.now.calls)) c.args.connection.now.calls.chain.row (g.K.Sink.written c.args.out.now)
    (g.K.Sink.written c.loop-place.out) (stands_lines_on (open_connection_of c.args.connection.now)) (g.K.Sink.written c.write_line.new.out) c.loop-place.place one.0 c.as_slice.result.now
    c.loop-place.invariant.rest one.1 (c.as_slice.ensures ∙ c.in_ok-line.ensures one.0 one.1)
    (let some = c.in_err-write_line.ensures.front in (some.0, omega arith, some.2)))

pub loop-place-preserved : goal.loop-place-preserved
loop-place-preserved g c =
    let long : length c.args.connection.now.calls.chain.row ≡ length c.args.connection.now.calls.chain.calls =
    rows-long c.args.connection.now.calls.chain.row c.args.connection.now.calls.chain.calls c.is_connection.ensures.is_chain_state.row in
    let count : c.len-place-end.result ≡ length c.args.connection.now.calls.chain.calls =
    c.len-place-end.ensures.count ∙ ap length (c.calls.ensures ∙ ap (λ (ch : ChainParts). ch.calls) c.chain.ensures) in
    let low : suc c.loop-place.place ≤ length c.args.connection.now.calls.chain.row = omega arith in
    let one : (call : ℕ × ℕ) × (slice_get c.args.connection.now.calls.chain.row c.loop-place.place ≡ Some call) =
    there c.args.connection.now.calls.chain.row c.loop-place.place low in
    record {
      rest = item-one (pending_line c.args.connection.now.calls.conn (conn_state c.args.connection.now.calls)) c.args.connection.now.calls.chain.row (g.K.Sink.written c.args.out.now)
          (g.K.Sink.written c.loop-place.out) (stands_lines_on (open_connection_of c.args.connection.now)) (g.K.Sink.written c.write_line.new.out) c.loop-place.place _ one.0 c.as_slice.result.now
          c.loop-place.invariant.rest one.1 (c.as_slice.ensures ∙ c.in_ok-line.ensures one.0 one.1) (omega arith) c.in_ok-write_line.ensures.written;
      failures = c.in_ok-write_line.ensures.cause.stays (λ e. cc) ∙ c.loop-place.invariant.failures;
    }
