-- Each script has exactly one history, with its loads, and one for each point at which a send of it can fail (this
-- project's own).
use Rattle.std.specs.Prelude.{◌≡◌, ℕ, All, length}
use Rattle.mrpc_table.specs.declared.call.Call.{Call}
use Rattle.replay_script.specs.declared.script.Script.{Script}
use Rattle.call_history.specs.Frames.{frames}
use Rattle.call_history.specs.Legal.{IsLegal}
use Rattle.replay_run.specs.Follows.{Follows, FollowsUntil, ScriptState}
use Rattle.replay_run.specs.Consistency.{IsConsistentOn}

-- One end follows from the script: its history, its loads, and its pending calls. The history is legal. On each
-- connection the loads are those of its calls, and pending calls are at legal positions.
pub record HasOneEnd (s : Script) : Type 0 where
  pub end : ScriptState
  pub follows : Follows s end
  pub only : (other : ScriptState) → Follows s other → other ≡ end
  pub legal : IsLegal s.table s.loads end.history
  pub sound : All (IsConsistentOn s end.history) end.opened

-- One end follows from the script up to a send that fails after this many sends, with the same properties. The call
-- whose send fails is unique, too.
pub record HasOneFailure (s : Script) (sent : ℕ) : Type 0 where
  pub tried : Call
  pub end : ScriptState
  pub follows : FollowsUntil s tried end
  pub behind : length (frames s.table end.history) ≡ sent
  pub only : (instead : Call) (other : ScriptState) → FollowsUntil s instead other
      → length (frames s.table other.history) ≡ sent → (instead ≡ tried) × (other ≡ end)
  pub legal : IsLegal s.table s.loads end.history
  pub sound : All (IsConsistentOn s end.history) end.opened
