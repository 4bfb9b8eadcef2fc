-- An operation preserves the invariant of a connection's own fields.
use Rattle.std.proofs.Common.{◌≡◌, ℕ, ◌*◌, ◌≤◌, Bool, List, [], ◌∷◌, ◌++◌, length, reverse, refl, ap, sym, ◌∙◌, subst, arith}
use Rattle.std.specs.Prelude.{All}
use Rattle.mrpc_table.specs.declared.table.Table.{Table}
use Rattle.engine_core.specs.Chains.{Chain, HasChanged, changed}
use Rattle.engine_core.specs.Marks.{PendingCall}
use Rattle.engine_core.specs.Moves.{Row, moved_by}
use Rattle.engine_core.specs.declared.op.Op.{Op as Step}
use Rattle.chain_upgrade.specs.Chains.{ChainParts, IsChainState, chain_of_state}
use Rattle.call_history.specs.Trace.{chain}
use Rattle.call_history.specs.Transitions.{changes, operates}
use Rattle.call_history.specs.Records.{StoredHistory}
use Rattle.call_history.specs.Rules.{payload}
use Rattle.call_history.specs.declared.happening.Happening.TheVariants.{Op}
use Rattle.conn_core.specs.Connections.{Connection, conn_trace}
use Rattle.std.specs.List.{AllZip}
use Rattle.conn_core.specs.Invariant.{IsChanged, HasConnInvariant, IsPolicyOp, op_indices_after, connection_of}
use Rattle.conn_core.proofs.Changed.{ChangesOnly, fits-changed, places-changed, same-chain}
use Rattle.conn_core.proofs.Fitting.{EventsKeep, fits-of}
use Rattle.conn_core.proofs.KeptNext.{Stepped, stepped}
use Rattle.conn_core.proofs.Rooms.{has-room}
use Rattle.conn_core.proofs.Told.{behind-one}

pub kept-operated : EventsKeep → ChangesOnly
    → (conn : ℕ) (T : Table) (limit : ℕ) (c c' : ChainParts) (history history' : StoredHistory) (ended : Bool)
    (places places' : List ℕ) (accepted ms place : ℕ) (step : Step)
    → HasConnInvariant (connection_of conn T limit c history ended) places history accepted ms → IsChanged step ms c c'
    → IsChainState c' → history'.steps ≡ history.steps ++ step ∷ []
    → history'.happenings ≡ history.happenings ++ Op step ∷ [] → 9 * length c.calls ≤ history'.room
    → place ≡ length history.steps
    → places' ≡ op_indices_after step (chain_of_state c).entries place places
    → Stepped (connection_of conn T limit c history ended) (connection_of conn T limit c' history' ended)
    (operates step) places' history' accepted ms
kept-operated keeps only conn T limit c c' history history' ended places places' accepted ms place step kept h stands
    steps told room at places-is =
    let old : Connection = connection_of conn T limit c history ended in
    let before : IsChainState c = kept.connection.is_chain_state in
    let chain-is : chain_of_state c ≡ chain (conn_trace old) = kept.connection.same_chain in
    let after-is : chain_of_state c' ≡ changed step (chain (conn_trace old)) =
    same-chain only conn ms (conn_trace old) step c c' (fits-of old kept.connection) before h in
    let may : HasChanged (chain (conn_trace old)) step (changed step (chain (conn_trace old))) =
    subst (λ (ch : Chain). HasChanged (chain (conn_trace old)) step ch) after-is
    (subst (λ (ch : Chain). HasChanged ch step (chain_of_state c')) chain-is h.changes) in
    let row : c'.row ≡ moved_by step (chain (conn_trace old)).entries c.row =
    h.row ∙ ap (λ (ch : Chain). moved_by step ch.entries c.row) chain-is in
    stepped keeps conn T limit c c' history history' ended ended places places' accepted ms ms (operates step)
    (Op step ∷ conn_trace old) kept
    (ap reverse told ∙ behind-one history.happenings (Op step))
    (changes step refl may (ap (λ (r : Row). record { past = Op step ∷ conn_trace old; row = r; ended = ended }) row))
    (record {
      stands = stands;
      fits = fits-changed only conn ms step (conn_trace old) c c' (fits-of old kept.connection) before h kept.latest;
      count = kept.count;
      latest = kept.latest;
      engine_steps = subst (λ s. AllZip (IsPolicyOp s) places' (chain_of_state c').entries) (sym steps)
          (subst (λ ps. AllZip (IsPolicyOp (history.steps ++ step ∷ [])) ps (chain_of_state c').entries) (sym places-is)
          (places-changed step ms place history.steps places c c' h at kept.engine_steps));
      short = subst (λ (cs : List PendingCall). All (λ s. length (payload T s.call) ≤ 262144) cs)
          (sym h.calls) kept.short;
      room = has-room c'.calls (chain_of_state c').entries history'.room stands.stands.chain.few
          (omega (arith, ap length h.calls, room));
    })
