use Rattle.std.proofs.Common.{◌≡◌, ◌++◌, ℕ, List, [], ◌∷◌, length, sym, ap, ◌∙◌, subst, Some, arith}
use Rattle.std.specs.Prelude.{slice_get}
use Rattle.std.proofs.lemmas.List.Concat.{flat_map_single}
use Rattle.chain_upgrade.specs.Chains.{ChainParts}
use Rattle.call_history.specs.Trace.{taken}
use Rattle.call_history.specs.declared.happening.AcceptedCall.{AcceptedCall}
use Rattle.conn_core.specs.Connections.{conn_trace}
use Rattle.telemetry.specs.Counts.{CountedEvent as Counted}
use Rattle.run_report.specs.Counting.{pending_counted}
use Rattle.run_report.specs.Counts.{CanCount, HaveCounted, count_if_any}
use Rattle.run_report.proofs.Counted.{CountsOn, can-next, counts-all, counts-next}
use Rattle.run_report.proofs.Lines.{rows-long, there}
use Rattle.run_report.proofs.counting.count_pending.Goals as goal

abbrev each : List AcceptedCall → ℕ × ℕ → List Counted
each calls call = pending_counted calls call ∷ []

pub count_some-requires : goal.count_some-requires
count_some-requires c =
    let row = c.args.calls.now.chain.row in
    let calls = taken (conn_trace c.args.calls.now) in
    let long : length row ≡ length c.args.calls.now.chain.calls =
    rows-long row c.args.calls.now.chain.calls c.is_connection.ensures.is_chain_state.row in
    let count : c.len-place-end.result ≡ length c.args.calls.now.chain.calls =
    c.len-place-end.ensures.count ∙ ap length (c.calls.ensures ∙ ap (λ (ch : ChainParts). ch.calls) c.chain.ensures) in
    let one : (call : ℕ × ℕ) × (slice_get row c.loop-place.place ≡ Some call) =
    there row c.loop-place.place (omega arith) in
    let same : count_if_any c.pending_at.result ≡ each calls one.0 = c.pending_at.ensures one.0 one.1 in
    record {
      few = subst (λ (l : List Counted). CanCount l c.loop-place.totals) (sym same)
          (can-next (each calls) row c.loop-place.place one.0 c.args.totals.now c.loop-place.totals one.1
          (subst (λ (l : List Counted). CanCount l c.args.totals.now) (sym (flat_map_single (pending_counted calls) row))
          c.requires.few) c.loop-place.invariant);
    }

pub loop-place-preserved : goal.loop-place-preserved
loop-place-preserved c =
    let row = c.args.calls.now.chain.row in
    let calls = taken (conn_trace c.args.calls.now) in
    let long : length row ≡ length c.args.calls.now.chain.calls =
    rows-long row c.args.calls.now.chain.calls c.is_connection.ensures.is_chain_state.row in
    let count : c.len-place-end.result ≡ length c.args.calls.now.chain.calls =
    c.len-place-end.ensures.count ∙ ap length (c.calls.ensures ∙ ap (λ (ch : ChainParts). ch.calls) c.chain.ensures) in
    let one : (call : ℕ × ℕ) × (slice_get row c.loop-place.place ≡ Some call) =
    there row c.loop-place.place (omega arith) in
    let same : count_if_any c.pending_at.result ≡ each calls one.0 = c.pending_at.ensures one.0 one.1 in
    counts-next (each calls) row c.loop-place.place one.0 c.args.totals.now c.loop-place.totals c.count_some.new.totals one.1
    c.loop-place.invariant
    (λ happened so. subst (λ (l : List Counted). HaveCounted (happened ++ l) c.count_some.new.totals) same
    (c.in_ok-count_some.ensures happened so))

pub returns : goal.returns
returns c =
    let row = c.args.calls.now.chain.row in
    let calls = taken (conn_trace c.args.calls.now) in
    let long : length row ≡ length c.args.calls.now.chain.calls =
    rows-long row c.args.calls.now.chain.calls c.is_connection.ensures.is_chain_state.row in
    let count : c.len-place-end.result ≡ length c.args.calls.now.chain.calls =
    c.len-place-end.ensures.count ∙ ap length (c.calls.ensures ∙ ap (λ (ch : ChainParts). ch.calls) c.chain.ensures) in
    subst (λ (l : List Counted). CountsOn l c.args.totals.now c.loop-place.totals) (flat_map_single (pending_counted calls) row)
    (counts-all (each calls) row c.loop-place.place c.args.totals.now c.loop-place.totals (omega arith) c.loop-place.invariant)
