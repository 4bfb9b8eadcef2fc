-- Properties of each connection of a script, after any of its lines (this project's own).
use Rattle.std.specs.Prelude.{◌≡◌, ℕ, All}
use Rattle.replay_script.specs.declared.script.Script.{Script}
use Rattle.call_history.specs.Trace.{chain}
use Rattle.call_history.specs.Transitions.{ConnState, IsValidState}
use Rattle.call_history.specs.Legal.{History, trace_of}
use Rattle.call_history.specs.Loads.{AreSpelled}
use Rattle.call_history.specs.Rules.{JudgeContext, IsAllowedInTrace}
use Rattle.replay_run.specs.Follows.{OpenConnection, script_context}

-- Its state is that of its events, which are legal; the pending calls are in its row, at legal positions. Its loads are
-- those of its calls, and no others.
pub record IsConsistentOn (s : Script) (h : History) (o : OpenConnection) : Type 0 where
  pub past : o.course.past ≡ trace_of o.conn h
  pub course : IsValidState (script_context s o.conn) o.course
  pub spelled : AreSpelled s.table o.words s.loads (trace_of o.conn h) o.loads

-- every entry of the chain lets a call pass, with nothing left to note
abbrev pub IsAllowed : JudgeContext → ConnState → (seq : ℕ) → Type 0
IsAllowed u c seq = All (IsAllowedInTrace u c.past seq) (chain c.past).entries
