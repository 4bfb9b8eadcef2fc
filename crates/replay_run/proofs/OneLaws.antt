-- The laws of determinism, as parameters of these proofs.
use Rattle.std.proofs.Common.{◌≡◌, ℕ, List}
use Rattle.mrpc_table.specs.declared.table.Table.{Table}
use Rattle.engine_core.specs.Answers.{note, ticket_in}
use Rattle.engine_core.specs.Chains.{Entry, IsChain}
use Rattle.engine_core.specs.Turns.{noted_in}
use Rattle.engine_core.specs.declared.outcome.Outcome.{Outcome}
use Rattle.graph_form.specs.Malformed.{HasOutcome, GraphOutcome as Copied, AreReadBy}
use Rattle.call_history.specs.Trace.{Trace, chain}
use Rattle.call_history.specs.Transitions.{IsTransition, ConnState, Transition, IsEntryTurn}
use Rattle.call_history.specs.Legal.{IsLegalPrefix}
use Rattle.call_history.specs.Rules.{JudgeContext}
use Rattle.replay_run.proofs.GivenLaws.{HistoryLaws}

pub record OneLaws : Type 0 where
  pub history : HistoryLaws
  pub is_chain : (u : JudgeContext) (past : Trace) → IsLegalPrefix u past → IsChain (chain past)
  pub end : (u : JudgeContext) (old new other : ConnState) (event : Transition) → IsTransition u old event new → IsTransition u old event other → new ≡ other
  pub turn : (u : JudgeContext) (c : ConnState) (position s t : ℕ) (a b : Outcome) (d e : Entry) → IsEntryTurn u c position s a d → IsEntryTurn u c position t b e
      → (s ≡ t) × (d ≡ e) × (ticket_in (note (noted_in a)) ≡ ticket_in (note (noted_in b)) → a ≡ b)
  pub reading : (T : Table) (H msg address limit : ℕ) (reads : ℕ → ℕ → ℕ) (xs ys : List (ℕ × ℕ)) (o q : Copied) → AreReadBy reads 1 xs → AreReadBy reads 1 ys
      → HasOutcome T H msg address limit xs o → HasOutcome T H msg address limit ys q → (xs ≡ ys) × (o ≡ q)
