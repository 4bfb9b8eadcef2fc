-- A drain of a connection: each entry in order has turns until no call can advance, then all ready calls are
-- sent (this project's own).
use Rattle.std.specs.Prelude.{◌≡◌, ℕ, ◌+◌, ◌<◌, length, None}
use Rattle.engine_core.specs.Chains.{Entry}
use Rattle.engine_core.specs.Moves.{first_at}
use Rattle.engine_core.specs.declared.outcome.Outcome.{Outcome}
use Rattle.engine_core.specs.declared.outcome.Outcome.TheVariants.{Passed, Held, Refused, Redacted}
use Rattle.call_history.specs.Trace.{chain}
use Rattle.call_history.specs.Transitions.{ConnState, IsTransition, IsEntryTurn, fails, sends, trace_after_turn}
use Rattle.call_history.specs.Rules.{JudgeContext}

-- the turn is final for its call at this entry: the call passed or is refused
abbrev pub IsFinalOutcome : Outcome → Type 0
IsFinalOutcome (Passed noted) = Unit {0}
IsFinalOutcome (Held level cost) = ⊥
IsFinalOutcome (Refused noted why) = Unit {0}
IsFinalOutcome Redacted = ⊥

-- how the turns of an entry end: no call can advance, or fields were cleared and the drain starts over
pub data TurnsEnding : Type 0 where
  at_rest : TurnsEnding
  again : TurnsEnding

-- the entry at a position has turns until no call can advance there or a turn clears fields
pub data HasTurns (u : JudgeContext) (position : ℕ) : ConnState → TurnsEnding → ConnState → Type 0 where
  is_idle : (old : ConnState) → first_at position old.row ≡ None → HasTurns u position old at_rest old
  is_held : (old : ConnState) (seq level cost : ℕ) (e : Entry) → IsEntryTurn u old position seq (Held level cost) e
      → HasTurns u position old at_rest old
  redacts : (old : ConnState) (seq : ℕ) (e : Entry) → IsEntryTurn u old position seq Redacted e
      → HasTurns u position old again (trace_after_turn e seq Redacted old)
  goes : (old new : ConnState) (ending : TurnsEnding) (seq : ℕ) (outcome : Outcome) (e : Entry)
      → IsEntryTurn u old position seq outcome e → IsFinalOutcome outcome
      → HasTurns u position (trace_after_turn e seq outcome old) ending new → HasTurns u position old ending new

-- The entries from a position on have turns, in order. After a turn that clears fields, all entries start over.
pub data IsPass (u : JudgeContext) : ℕ → ConnState → ConnState → Type 0 where
  is_over : (position : ℕ) (old : ConnState) → position ≡ length (chain old.past).entries → IsPass u position old old
  next : (position : ℕ) (old between new : ConnState) → position < length (chain old.past).entries
      → HasTurns u position old at_rest between → IsPass u (position + 1) between new → IsPass u position old new
  begins_again : (position : ℕ) (old between new : ConnState) → position < length (chain old.past).entries
      → HasTurns u position old again between → IsPass u 0 between new → IsPass u position old new

-- some ready calls are sent, in order
pub data HasSentSome (u : JudgeContext) : ConnState → ConnState → Type 0 where
  none : (old : ConnState) → HasSentSome u old old
  one : (old between new : ConnState) (seq bytes : ℕ) → IsTransition u old (sends seq bytes) between → HasSentSome u between new
      → HasSentSome u old new

-- a drain as far as it went: entries had turns until no call could advance, and some ready calls were sent
pub record HasPartlyDrained (u : JudgeContext) (old new : ConnState) : Type 0 where
  pub between : ConnState
  pub passes : IsPass u 0 old between
  pub sent : HasSentSome u between new

-- a complete drain: no call is ready any more
pub record HasDrained (u : JudgeContext) (old new : ConnState) : Type 0 where
  pub begins : HasPartlyDrained u old new
  pub none_ready : first_at (length (chain new.past).entries) new.row ≡ None

-- a drain whose link failed while a call was ready
pub record HasFailedDrain (u : JudgeContext) (old new : ConnState) : Type 0 where
  pub between : ConnState
  pub begins : HasPartlyDrained u old between
  pub ready : first_at (length (chain between.past).entries) between.row ≡ None → ⊥
  pub failed : IsTransition u between fails new
