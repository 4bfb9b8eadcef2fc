-- A script has one end, and one for each point at which a send of it can fail.
use Rattle.std.proofs.Common.{◌≡◌, ℕ, ◌<◌, length, sym, ◌∙◌, subst}
use Rattle.std.specs.Prelude.{All}
use Rattle.mrpc_table.specs.declared.call.Call.{Call}
use Rattle.replay_script.specs.Lines.{IsScript}
use Rattle.replay_script.specs.declared.script.Script.{Script}
use Rattle.call_history.specs.Frames.{frames}
use Rattle.call_history.specs.Legal.{IsLegal}
use Rattle.replay_run.specs.Follows.{Follows, FollowsUntil, ScriptState}
use Rattle.replay_run.specs.Consistency.{IsConsistentOn}
use Rattle.replay_laws.specs.Histories.{HasOneEnd, HasOneFailure}
use Rattle.replay_laws.proofs.Scripts.{Laws, follows-somehow}

-- the laws of what follows
pub record EndLaws : Type 0 where
  pub one : (s : Script) (end other : ScriptState) → IsScript s → Follows s end → Follows s other → end ≡ other
  pub one_failure : (s : Script) (tried instead : Call) (end other : ScriptState) → IsScript s → FollowsUntil s tried end
      → FollowsUntil s instead other → length (frames s.table end.history) ≡ length (frames s.table other.history)
      → (tried ≡ instead) × (end ≡ other)
  pub legal : (s : Script) (end : ScriptState) → IsScript s → Follows s end → IsLegal s.table s.loads end.history
  pub legal_until : (s : Script) (tried : Call) (end : ScriptState) → IsScript s → FollowsUntil s tried end → IsLegal s.table s.loads end.history
  pub sound : (s : Script) (end : ScriptState) → IsScript s → Follows s end → All (IsConsistentOn s end.history) end.opened
  pub sound_until : (s : Script) (tried : Call) (end : ScriptState) → IsScript s → FollowsUntil s tried end → All (IsConsistentOn s end.history) end.opened

pub one-end : Laws → EndLaws → (s : Script) → IsScript s → HasOneEnd s
one-end laws ends s script =
    let some = follows-somehow laws s script in
    record {
      end = some.end;
      follows = some.follows;
      only = λ other follows. ends.one s other some.end script follows some.follows;
      legal = ends.legal s some.end script some.follows;
      sound = ends.sound s some.end script some.follows;
    }

pub one-failure : Laws → EndLaws → (s : Script) (end : ScriptState) (sent : ℕ) → IsScript s → Follows s end
    → sent < length (frames s.table end.history) → HasOneFailure s sent
one-failure laws ends s end sent script follows low =
    let some = follows-somehow laws s script in
    let found = some.tries sent (subst (λ (st : ScriptState). sent < length (frames s.table st.history)) (ends.one s end some.end script follows some.follows) low) in
    record {
      tried = found.tried;
      end = found.end;
      follows = found.follows;
      behind = found.count;
      only = λ instead other until count. ends.one_failure s instead found.tried other found.end script until found.follows (count ∙ sym found.count);
      legal = ends.legal_until s found.tried found.end script found.follows;
      sound = ends.sound_until s found.tried found.end script found.follows;
    }
