-- How a chain agrees with the trace, besides the state: its levels, marks and forms.
use Rattle.std.proofs.Common.{◌≡◌, ℕ, ◌<◌, ◌^◌, length, sym, subst}
use Rattle.std.specs.Prelude.{All, Some}
use Rattle.engine_core.specs.Marks.{past_of}
use Rattle.chain_upgrade.specs.Chains.{ChainParts, IsChainState, chain_of_state}
use Rattle.call_history.specs.Trace.{Trace, chain, form, level_in_trace, timestamp, noted, taken}
use Rattle.call_history.specs.Transitions.{IsTransition, ConnState, Transition, IsValidState}
use Rattle.call_history.specs.Rules.{JudgeContext}
use Rattle.conn_core.specs.Connections.{Connection, IsConnection, conn_trace, judge_context}

-- each transition preserves the invariant of a state
abbrev pub EventsKeep : Type 0
EventsKeep = (u : JudgeContext) (old new : ConnState) (event : Transition) → IsValidState u old → IsTransition u old event new → IsValidState u new

pub record Fits (conn : ℕ) (past : Trace) (c : ChainParts) : Type 0 where
  pub same_chain : chain_of_state c ≡ chain past
  pub levels : All (λ e. e.level ≡ level_in_trace e.entry.name past) c.engines
  pub moments : All (λ e. e.last ≡ timestamp past) c.engines
  pub notes : All (λ s. All (λ e. past_of s.marks e.entry.attach ≡ noted e.entry.name s.call.seq past) c.engines)
      c.calls
  pub forms : All (λ s. form conn s.call.seq past ≡ Some s.call) c.calls

pub fits-of : (c : Connection) → IsConnection c → Fits c.conn (conn_trace c) c.chain
fits-of c h = record {
  same_chain = h.same_chain;
  levels = h.levels;
  moments = h.moments;
  notes = h.notes;
  forms = h.forms;
}

-- a connection with this trace
pub connected : (c : Connection) (past : Trace) → conn_trace c ≡ past → IsValidState (judge_context c) (record {
  past = past;
  row = c.chain.row;
  ended = c.ended;
})
    → IsChainState c.chain → Fits c.conn past c.chain → length (taken past) < 2 ^ 32 → IsConnection c
connected c past is held stands fits few =
    let fits' : Fits c.conn (conn_trace c) c.chain = subst (λ (p : Trace). Fits c.conn p c.chain) (sym is) fits in record {
      is_valid_state = subst (λ (p : Trace). IsValidState (judge_context c) (record {
        past = p;
        row = c.chain.row;
        ended = c.ended;
      })) (sym is) held;
      is_chain_state = stands;
      same_chain = fits'.same_chain;
      levels = fits'.levels;
      moments = fits'.moments;
      notes = fits'.notes;
      forms = fits'.forms;
      few = subst (λ (p : Trace). length (taken p) < 2 ^ 32) (sym is) few;
    }
