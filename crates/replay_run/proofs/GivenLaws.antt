-- The laws of histories, as parameters of these proofs.
use Rattle.std.proofs.Common.{◌≡◌, ◌≢◌, ℕ, [], ◌∷◌, ◌++◌}
use Rattle.std.specs.Prelude.{All}
use Rattle.call_history.specs.Draining.{HasPartlyDrained, HasDrained}
use Rattle.call_history.specs.Transitions.{IsTransition, ConnState, Transition, IsValidState, initial_state}
use Rattle.call_history.specs.Legal.{History, trace_of}
use Rattle.call_history.specs.Rules.{JudgeContext}
use Rattle.call_history.specs.declared.happening.ConnectionEvent.{ConnectionEvent}

pub record HistoryLaws : Type 0 where
  pub joined : (conn : ℕ) (h k : History) → trace_of conn (h ++ k) ≡ trace_of conn k ++ trace_of conn h
  pub one_more : (conn : ℕ) (h : History) (x : ConnectionEvent) → x.conn ≡ conn → trace_of conn (h ++ x ∷ []) ≡ x.what ∷ trace_of conn h
  pub apart : (conn : ℕ) (h k : History) → All (λ x. x.conn ≢ conn) k → trace_of conn (h ++ k) ≡ trace_of conn h
  pub begins : (u : JudgeContext) → IsValidState u initial_state
  pub event : (u : JudgeContext) (old new : ConnState) (event : Transition) → IsValidState u old → IsTransition u old event new → IsValidState u new
  pub partly : (u : JudgeContext) (old new : ConnState) → IsValidState u old → HasPartlyDrained u old new → IsValidState u new
  pub whole : (u : JudgeContext) (old new : ConnState) → IsValidState u old → HasDrained u old new → IsValidState u new
