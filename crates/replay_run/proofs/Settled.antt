-- After a line that drains a connection, the connection is settled.
use Rattle.std.proofs.Common.{◌≡◌, map, sym, subst}
use Rattle.std.specs.Prelude.{Some, None}
use Rattle.replay_script.specs.declared.script.ScriptLine.TheVariants.{Drain}
use Rattle.replay_script.specs.declared.script.Script.{Script}
use Rattle.call_history.specs.Draining.{HasDrained}
use Rattle.call_history.specs.Transitions.{ConnState, IsValidState}
use Rattle.call_history.specs.Positions.{IsSettled}
use Rattle.call_history.specs.Rules.{JudgeContext}
use Rattle.replay_run.specs.Follows.{OpenConnection, script_context, IsLineEffect, stores, races, submits, is_away, operates_on, advances_clock, is_idle, has_turn, none_ready, is_sent, drains}

abbrev pub Settles : Type 0
Settles = (u : JudgeContext) (old new : ConnState) → IsValidState u old → HasDrained u old new → IsSettled u new.past (map (λ call. call.1) new.row)

abbrev IsSettledOn : Script → OpenConnection → OpenConnection → Type 0
IsSettledOn s old new = IsSettled (script_context s old.conn) new.course.past (map (λ call. call.1) new.course.row)

pub drained-settled : Settles → (s : Script) (old new : OpenConnection) → IsValidState (script_context s old.conn) old.course → IsLineEffect s (Drain old.conn) old new → IsSettledOn s old new
drained-settled settles s old new course (stores place value is makes) = cc
drained-settled settles s old new course (races load place value is makes) = cc
drained-settled settles s old new course (submits call own c is after reads loaded comes makes) = cc
drained-settled settles s old new course (is_away method number addr c is comes makes) = cc
drained-settled settles s old new course (operates_on step c is comes makes) = let none : None ≡ Some step = is in cc
drained-settled settles s old new course (advances_clock ms c is comes makes) = cc
drained-settled settles s old new course (is_idle position is empty makes) = cc
drained-settled settles s old new course (has_turn position seq outcome c is comes makes) = cc
drained-settled settles s old new course (none_ready is empty makes) = cc
drained-settled settles s old new course (is_sent seq bytes c is comes makes) = cc
drained-settled settles s old new course (drains c is drained makes) = subst (IsSettledOn s old) (sym makes) (settles (script_context s old.conn) old.course c course drained)
