use Rattle.std.proofs.Common.{◌≡◌, ◌≤◌, ℕ, suc, length, ap, ◌∙◌, Some, arith}
use Rattle.std.specs.Prelude.{slice_get}
use Rattle.chain_upgrade.specs.Chains.{ChainParts}
use Rattle.conn_core.specs.Connections.{conn_state}
use Rattle.connection_audit.specs.Pending.{pending_line}
use Rattle.run_report.proofs.Lines.{goes-on, rows-long, there}
use Rattle.run_report.proofs.connection.append_pending_calls.Goals as goal

pub loop-place-preserved : goal.loop-place-preserved
loop-place-preserved c =
    let long : length c.args.calls.now.chain.row ≡ length c.args.calls.now.chain.calls =
    rows-long c.args.calls.now.chain.row c.args.calls.now.chain.calls c.is_connection.ensures.is_chain_state.row in
    let count : c.len-place-end.result ≡ length c.args.calls.now.chain.calls =
    c.len-place-end.ensures.count ∙ ap length (c.calls.ensures ∙ ap (λ (ch : ChainParts). ch.calls) c.chain.ensures) in
    let low : suc c.loop-place.place ≤ length c.args.calls.now.chain.row = omega arith in
    let one : (call : ℕ × ℕ) × (slice_get c.args.calls.now.chain.row c.loop-place.place ≡ Some call) =
    there c.args.calls.now.chain.row c.loop-place.place low in
    goes-on (pending_line c.args.calls.now.conn (conn_state c.args.calls.now)) c.args.out.now c.loop-place.out c.append_pending.new.out
    c.args.calls.now.chain.row c.loop-place.place one.0 one.1 c.loop-place.invariant (c.in_ok-append_pending.ensures one.0 one.1)
