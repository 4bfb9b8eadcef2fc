-- A connection as contracts see it (this project's own).
use Rattle.std.specs.Prelude.{◌≡◌, ℕ, ◌<◌, ◌^◌, Bool, List, Some, All, length, reverse}
use Rattle.mrpc_table.specs.declared.table.Table.{Table}
use Rattle.engine_core.specs.Marks.{past_of}
use Rattle.chain_upgrade.specs.Chains.{ChainParts, IsChainState, chain_of_state}
use Rattle.call_history.specs.Trace.{Trace, chain, form, level_in_trace, timestamp, noted, taken}
use Rattle.call_history.specs.Transitions.{ConnState, IsValidState}
use Rattle.call_history.specs.Frames.{frames_of_trace}
use Rattle.call_history.specs.Rules.{JudgeContext}
use Rattle.call_history.specs.declared.happening.Happening.{Happening}

-- its number, table and limit of loads, its chain with the pending calls, its events in order, and whether its
-- link has failed
pub record Connection : Type 0 where
  pub conn : ℕ
  pub table : Table
  pub limit : ℕ
  pub chain : ChainParts
  pub happenings : List Happening
  pub ended : Bool

-- the context in which its events are judged
abbrev pub judge_context : Connection → JudgeContext
judge_context c = record { conn = c.conn; table = c.table; limit = c.limit }

-- its trace: the events, latest first
abbrev pub conn_trace : Connection → Trace
conn_trace c = reverse c.happenings

-- its state: the trace, the positions of its calls, and whether its link has failed
abbrev pub conn_state : Connection → ConnState
conn_state c = record { past = conn_trace c; row = c.chain.row; ended = c.ended }

-- the frames that were sent, in order
abbrev pub conn_frames : Connection → List (List ℕ)
conn_frames c = frames_of_trace c.table c.conn (conn_trace c)

-- number, table and limit of a connection are unchanged
pub record IsSameConnection (before after : Connection) : Type 0 where
  pub conn : after.conn ≡ before.conn
  pub table : after.table ≡ before.table
  pub limit : after.limit ≡ before.limit

-- The invariant of a connection. Its history is legal and its calls are at legal positions. The chain with its
-- levels and marks is the one that follows from the history.
pub record IsConnection (c : Connection) : Type 0 where
  pub is_valid_state : IsValidState (judge_context c) (conn_state c)
  pub is_chain_state : IsChainState c.chain
  pub same_chain : chain_of_state c.chain ≡ chain (conn_trace c)
  -- the level of each bucket, at the latest timestamp
  pub levels : All (λ e. e.level ≡ level_in_trace e.entry.name (conn_trace c)) c.chain.engines
  pub moments : All (λ e. e.last ≡ timestamp (conn_trace c)) c.chain.engines
  -- a call's marks agree with what was noted of it since the attachment, and the call is its form
  pub notes : All (λ s. All (λ e. past_of s.marks e.entry.attach ≡ noted e.entry.name s.call.seq (conn_trace c))
      c.chain.engines) c.chain.calls
  pub forms : All (λ s. form c.conn s.call.seq (conn_trace c) ≡ Some s.call) c.chain.calls
  pub few : length (taken (conn_trace c)) < 2 ^ 32
