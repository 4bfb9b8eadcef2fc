-- The line of a pending call (this project's own).
use Rattle.std.specs.Prelude.{◌≡◌, ℕ, ◌<◌, ◌≤◌, List, All, length, codes, option_map, unwrap_or, slice_get, Option, Some, None}
use Rattle.engine_core.specs.Chains.{Entry}
use Rattle.call_history.specs.Trace.{Trace, chain, pending_calls}
use Rattle.call_history.specs.Positions.{IsHeld, IsLegalPosition}
use Rattle.call_history.specs.Rules.{JudgeContext}
use Rattle.call_history.specs.declared.happening.AcceptedCall.{AcceptedCall}

-- the name of the entry at a position, `-` at the end of the chain
abbrev pub entry_name_at : List Entry → ℕ → List ℕ
entry_name_at entries position = unwrap_or (option_map (λ e. e.name) (slice_get entries position)) (codes "-")

-- A line has the level and cost exactly if the call is held: it is the first call at its position, and the entry there
-- holds it.
abbrev pub IsHoldingOf : JudgeContext → Trace → List ℕ → AcceptedCall → ℕ → Option (ℕ × ℕ) → Type 0
IsHoldingOf u past before call position None = (level cost : ℕ) → All (λ p. position < p) before
    → IsHeld u past call position level cost → ⊥
IsHoldingOf u past before call position (Some held) =
    All (λ p. position < p) before × IsHeld u past call position held.0 held.1

-- after lines of the first calls, at these positions, a line lists the next one. It has the call's number, a legal
-- position that isn't above those before, the name there, and the level and cost if the call is held
pub record IsNextPending (u : JudgeContext) (past : Trace) (before : List ℕ) (seq position : ℕ) (name : List ℕ)
    (held : Option (ℕ × ℕ)) : Type 0 where
  pub call : AcceptedCall
  pub is_call : slice_get (pending_calls past) (length before) ≡ Some call
  pub number : call.seq ≡ seq
  pub legal_position : IsLegalPosition u past call position
  pub falls : All (λ p. position ≤ p) before
  pub named : name ≡ entry_name_at (chain past).entries position
  pub tells : IsHoldingOf u past before call position held
