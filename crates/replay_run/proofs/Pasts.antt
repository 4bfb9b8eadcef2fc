-- What each line adds to the trace of its connection, and whether its link is still up.
use Rattle.std.proofs.Common.{◌≡◌, ℕ, ◌+◌, List, [], ◌∷◌, ◌++◌, drop, length, reverse, refl, sym, ap, ◌∙◌, subst}
use Rattle.std.proofs.lemmas.List.{reverse-append, reverse-reverse}
use Rattle.engine_core.specs.Chains.{Entry}
use Rattle.engine_core.specs.declared.outcome.Outcome.{Outcome}
use Rattle.engine_core.specs.declared.outcome.Outcome.TheVariants as outcomes
use Rattle.mrpc_table.specs.declared.call.Call.{Call}
use Rattle.replay_script.specs.declared.script.ScriptLine.{ScriptLine}
use Rattle.replay_script.specs.declared.script.Script.{Script}
use Rattle.call_history.specs.Trace.{Trace}
use Rattle.call_history.specs.Draining.{TurnsEnding, at_rest, again, HasTurns, is_idle, is_held, redacts, goes, IsPass, is_over, next, begins_again, HasSentSome, none, one, HasPartlyDrained}
use Rattle.call_history.specs.Transitions.{ConnState, IsTransition, Transition, accepts, operates, sends, shows, turns, turns_away, fails}
use Rattle.call_history.specs.Transitions.{takes, is_away, changes, rises, stays, has_turn, is_sent, link_failed, trace_after_turn}
use Rattle.call_history.specs.Rules.{JudgeContext}
use Rattle.call_history.specs.declared.happening.Happening.{Happening}
use Rattle.call_history.specs.declared.happening.AcceptedCall.{AcceptedCall}
use Rattle.call_history.specs.declared.happening.TookCopy.{TookCopy}
use Rattle.call_history.specs.declared.happening.TookCopy.TheVariants.{Copy, Malformed}
use Rattle.replay_run.specs.Follows.{OpenConnection, script_context, IsLineEffect, stores, races, submits, is_away as is_turned_away}
use Rattle.replay_run.specs.Follows.{operates_on, advances_clock, is_idle as has_none, has_turn as does_turn, none_ready}
use Rattle.replay_run.specs.Follows.{is_sent as does_send, drains, CanSendAt, by_send, by_drain, IsSendFailure}
use Rattle.replay_run.proofs.Adds.{accepted_as, Adds, IsOfChange, IsOfDrain, IsOfTurn, adds-more, adds-nothing, adds-weaker, begins-adds, changing-adds, sending-adds, turning-adds}

abbrev pub IsAny : Happening → Type 0
IsAny x = Unit {0}

-- events were added, in order
pub record IsPiece (old new : Trace) (piece : List Happening) : Type 0 where
  pub is : new ≡ reverse piece ++ old

pub any-adds : (P : Happening → Type 0) (old new : Trace) → Adds P old new → Adds IsAny old new
any-adds P old new adds = adds-weaker P IsAny (λ x holds. tt) old new adds

module _ (s : Script) where
  along : (old new : OpenConnection) (c : ConnState) → new.course ≡ c → Adds IsAny old.course.past c.past → Adds IsAny old.course.past new.course.past
  along old new c same adds = subst (λ (d : ConnState). Adds IsAny old.course.past d.past) (sym same) adds

  pub does-adds : (l : ScriptLine) (old new : OpenConnection) → IsLineEffect s l old new → Adds IsAny old.course.past new.course.past
  does-adds l old new (stores place value is makes) = along old new old.course (ap (λ (o : OpenConnection). o.course) makes) (adds-nothing IsAny old.course.past)
  does-adds l old new (races load place value is makes) = along old new old.course (ap (λ (o : OpenConnection). o.course) makes) (adds-nothing IsAny old.course.past)
  does-adds l old new (submits call own c is after reads loaded comes makes) =
      along old new c (ap (λ (o : OpenConnection). o.course) makes) (any-adds IsOfChange old.course.past c.past (changing-adds (script_context s old.conn) old.course (accepts call) c tt comes))
  does-adds l old new (is_turned_away method number addr c is comes makes) =
      along old new c (ap (λ (o : OpenConnection). o.course) makes)
      (any-adds IsOfChange old.course.past c.past (changing-adds (script_context s old.conn) old.course (turns_away method number addr) c tt comes))
  does-adds l old new (operates_on step c is comes makes) =
      along old new c (ap (λ (o : OpenConnection). o.course) makes) (any-adds IsOfChange old.course.past c.past (changing-adds (script_context s old.conn) old.course (operates step) c tt comes))
  does-adds l old new (advances_clock ms c is comes makes) =
      along old new c (ap (λ (o : OpenConnection). o.course) makes) (any-adds IsOfChange old.course.past c.past (changing-adds (script_context s old.conn) old.course (shows ms) c tt comes))
  does-adds l old new (has_none position is empty makes) = along old new old.course (ap (λ (o : OpenConnection). o.course) makes) (adds-nothing IsAny old.course.past)
  does-adds l old new (does_turn position seq outcome c is comes makes) =
      along old new c (ap (λ (o : OpenConnection). o.course) makes)
      (any-adds IsOfTurn old.course.past c.past (turning-adds (script_context s old.conn) old.course (turns position seq outcome) c tt comes))
  does-adds l old new (none_ready is empty makes) = along old new old.course (ap (λ (o : OpenConnection). o.course) makes) (adds-nothing IsAny old.course.past)
  does-adds l old new (does_send seq bytes c is comes makes) =
      along old new c (ap (λ (o : OpenConnection). o.course) makes) (any-adds IsOfDrain old.course.past c.past (sending-adds (script_context s old.conn) old.course seq bytes c comes))
  does-adds l old new (drains c is drained makes) =
      along old new c (ap (λ (o : OpenConnection). o.course) makes) (any-adds IsOfDrain old.course.past c.past (begins-adds (script_context s old.conn) old.course c drained.begins))

  gets-adds : (l : ScriptLine) (old : OpenConnection) (c : ConnState) → CanSendAt s l old c → Adds IsAny old.course.past c.past
  gets-adds l old c (by_send is same) = subst (λ (d : ConnState). Adds IsAny old.course.past d.past) (sym same) (adds-nothing IsAny old.course.past)
  gets-adds l old c (by_drain is begins) = any-adds IsOfDrain old.course.past c.past (begins-adds (script_context s old.conn) old.course c begins)

  pub fails-adds : (l : ScriptLine) (old new : OpenConnection) (tried : Call) → IsSendFailure s l old tried new → Adds IsAny old.course.past new.course.past
  fails-adds l old new tried failing =
      adds-more IsAny old.course.past failing.at.past new.course.past (gets-adds l old failing.at failing.gets)
      (any-adds IsOfTurn failing.at.past new.course.past (turning-adds (script_context s old.conn) failing.at fails new.course tt failing.refused))

-- ---- the events that were added

pub piece-added : (P : Happening → Type 0) (old new : Trace) (adds : Adds P old new) → IsPiece old new (reverse adds.more)
piece-added P old new adds = record { is = adds.is ∙ ap (λ xs. xs ++ old) (sym (reverse-reverse adds.more)) }

drop-behind : {X : Type 0} (xs ys : List X) → drop (length xs) (xs ++ ys) ≡ ys
drop-behind [] ys = refl
drop-behind (x ∷ xs) ys = drop-behind xs ys

-- in order, they come after all earlier events
pub piece-behind : (before after piece : List Happening) → IsPiece (reverse before) (reverse after) piece → after ≡ before ++ piece
piece-behind before after piece it =
    sym (reverse-reverse after) ∙ ap reverse it.is ∙ reverse-append (reverse piece) (reverse before)
    ∙ ap (λ xs. xs ++ reverse (reverse piece)) (reverse-reverse before) ∙ ap (λ ys. before ++ ys) (reverse-reverse piece)

pub piece-dropped : (before after piece : List Happening) → IsPiece (reverse before) (reverse after) piece → drop (length before) after ≡ piece
piece-dropped before after piece it = ap (drop (length before)) (piece-behind before after piece it) ∙ drop-behind before piece

-- ---- a link that stays up

turned-going : (e : Entry) (seq : ℕ) (outcome : Outcome) (c : ConnState) → (trace_after_turn e seq outcome c).ended ≡ c.ended
turned-going e seq (outcomes.Passed n) c = refl
turned-going e seq (outcomes.Held left cost) c = refl
turned-going e seq (outcomes.Refused n why) c = refl
turned-going e seq outcomes.Redacted c = refl

accepted-going : (call : AcceptedCall) (copy : TookCopy) (c : ConnState) → (accepted_as call copy c).ended ≡ c.ended
accepted-going call (Copy tree) c = refl
accepted-going call (Malformed reason place value) c = refl

abbrev GoesOnBy : Transition → Type 0
GoesOnBy (accepts call) = Unit {0}
GoesOnBy (turns_away method number addr) = Unit {0}
GoesOnBy (operates step) = Unit {0}
GoesOnBy (shows ms) = Unit {0}
GoesOnBy (turns position seq outcome) = Unit {0}
GoesOnBy (sends seq bytes) = Unit {0}
GoesOnBy fails = ⊥

event-going : (u : JudgeContext) (old : ConnState) (event : Transition) (new : ConnState) → GoesOnBy event → IsTransition u old event new → new.ended ≡ old.ended
event-going u old event new going (takes call is open_ may makes) = ap (λ (c : ConnState). c.ended) makes ∙ accepted-going call call.copy old
event-going u old event new going (is_away method number addr is full makes) = ap (λ (c : ConnState). c.ended) makes
event-going u old event new going (changes step is made makes) = ap (λ (c : ConnState). c.ended) makes
event-going u old event new going (rises ms is later makes) = ap (λ (c : ConnState). c.ended) makes
event-going u old event new going (stays ms is earlier makes) = ap (λ (c : ConnState). c.ended) makes
event-going u old event new going (has_turn position seq outcome e is turn makes) = ap (λ (c : ConnState). c.ended) makes ∙ turned-going e seq outcome old
event-going u old event new going (is_sent seq bytes is open_ ready makes) = ap (λ (c : ConnState). c.ended) makes
event-going u old event new going (link_failed is makes) = absurd (subst GoesOnBy is going)

turns-going : (u : JudgeContext) (position : ℕ) (old : ConnState) (ending : TurnsEnding) (new : ConnState) → HasTurns u position old ending new → new.ended ≡ old.ended
turns-going u position old ending new (is_idle c empty) = refl
turns-going u position old ending new (is_held c seq level cost e turn) = refl
turns-going u position old ending new (redacts c seq e turn) = refl
turns-going u position old ending new (goes c d other seq outcome e turn done rest) =
    turns-going u position (trace_after_turn e seq outcome c) other d rest ∙ turned-going e seq outcome c

passes-going : (u : JudgeContext) (position : ℕ) (old new : ConnState) → IsPass u position old new → new.ended ≡ old.ended
passes-going u position old new (is_over p c end) = refl
passes-going u position old new (next p c between d within these rest) =
    passes-going u (p + 1) between d rest ∙ turns-going u p c at_rest between these
passes-going u position old new (begins_again p c between d within these rest) =
    passes-going u 0 between d rest ∙ turns-going u p c again between these

sends-going : (u : JudgeContext) (old new : ConnState) → HasSentSome u old new → new.ended ≡ old.ended
sends-going u old new (none c) = refl
sends-going u old new (one c between d seq bytes comes rest) = sends-going u between d rest ∙ event-going u c (sends seq bytes) between tt comes

begins-going : (u : JudgeContext) (old new : ConnState) → HasPartlyDrained u old new → new.ended ≡ old.ended
begins-going u old new begins = sends-going u begins.between new begins.sent ∙ passes-going u 0 old begins.between begins.passes

pub does-going : (s : Script) (l : ScriptLine) (old new : OpenConnection) → IsLineEffect s l old new → new.course.ended ≡ old.course.ended
does-going s l old new (stores place value is makes) = ap (λ (o : OpenConnection). o.course.ended) makes
does-going s l old new (races load place value is makes) = ap (λ (o : OpenConnection). o.course.ended) makes
does-going s l old new (submits call own c is after reads loaded comes makes) =
    ap (λ (o : OpenConnection). o.course.ended) makes ∙ event-going (script_context s old.conn) old.course (accepts call) c tt comes
does-going s l old new (is_turned_away method number addr c is comes makes) =
    ap (λ (o : OpenConnection). o.course.ended) makes ∙ event-going (script_context s old.conn) old.course (turns_away method number addr) c tt comes
does-going s l old new (operates_on step c is comes makes) =
    ap (λ (o : OpenConnection). o.course.ended) makes ∙ event-going (script_context s old.conn) old.course (operates step) c tt comes
does-going s l old new (advances_clock ms c is comes makes) =
    ap (λ (o : OpenConnection). o.course.ended) makes ∙ event-going (script_context s old.conn) old.course (shows ms) c tt comes
does-going s l old new (has_none position is empty makes) = ap (λ (o : OpenConnection). o.course.ended) makes
does-going s l old new (does_turn position seq outcome c is comes makes) =
    ap (λ (o : OpenConnection). o.course.ended) makes ∙ event-going (script_context s old.conn) old.course (turns position seq outcome) c tt comes
does-going s l old new (none_ready is empty makes) = ap (λ (o : OpenConnection). o.course.ended) makes
does-going s l old new (does_send seq bytes c is comes makes) =
    ap (λ (o : OpenConnection). o.course.ended) makes ∙ event-going (script_context s old.conn) old.course (sends seq bytes) c tt comes
does-going s l old new (drains c is drained makes) =
    ap (λ (o : OpenConnection). o.course.ended) makes ∙ begins-going (script_context s old.conn) old.course c drained.begins
