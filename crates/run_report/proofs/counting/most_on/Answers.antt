use Rattle.std.proofs.Common.{◌≡◌, ◌≤◌, ◌+◌, ℕ, List, Option, Some, None, length, map, ap, ◌∙◌, length-append, arith}
use Rattle.std.specs.Prelude.{IfSome, SomeIff}
use Rattle.std.specs.List.{flat_map}
use Rattle.std.proofs.lemmas.List.{length-map}
use Rattle.chain_upgrade.specs.Chains.{ChainParts}
use Rattle.call_history.specs.Trace.{taken}
use Rattle.call_history.specs.declared.happening.AcceptedCall.{AcceptedCall}
use Rattle.conn_core.specs.Connections.{conn_trace}
use Rattle.run_report.specs.Counting.{counted, counted_on, pending_counted}
use Rattle.run_report.proofs.Lines.{rows-long}
use Rattle.run_report.proofs.Telling.{few-counted}
use Rattle.run_report.proofs.counting.most_on.Goals as goal

at-most : (r : Option ℕ) (P : Type 0) (v k : ℕ) → k ≤ v → SomeIff r P v → IfSome r (λ most. k ≤ most)
at-most None P v k low is = tt
at-most (Some x) P v k low is = omega (arith, low, is.1)

pub returns : goal.returns
returns c =
    let conn = c.args.calls.now in
    let calls : List AcceptedCall = taken (conn_trace conn) in
    let long : length conn.chain.row ≡ length conn.chain.calls =
    rows-long conn.chain.row conn.chain.calls c.is_connection.ensures.is_chain_state.row in
    let stands : c.len-standing.result ≡ length conn.chain.calls =
    c.len-standing.ensures.count ∙ ap length (c.calls.ensures ∙ ap (λ (ch : ChainParts). ch.calls) c.chain.ensures) in
    let happened : c.len.result ≡ length conn.happenings = c.len.ensures ∙ ap length c.history.ensures in
    let told = few-counted calls conn.happenings in
    let marked : length (map (pending_counted calls) conn.chain.row) ≡ length conn.chain.row =
    length-map conn.chain.row (pending_counted calls) in
    let both = length-append (flat_map (counted calls) conn.happenings) (map (pending_counted calls) conn.chain.row) in
    let few : length (counted_on conn) ≤ c.len.result + c.len-standing.result = omega (arith, both, told, marked, long, stands, happened) in
    at-most c.checked_add.result _ (c.len.result + c.len-standing.result) (length (counted_on conn)) few c.checked_add.ensures
