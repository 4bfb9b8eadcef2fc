-- What a transition adds to the loads of a connection's calls.
use Rattle.std.proofs.Common.{◌≡◌, ◌≢◌, ℕ, List, [], ◌∷◌, ◌++◌, refl, sym, subst}
use Rattle.engine_core.specs.Chains.{Entry}
use Rattle.engine_core.specs.declared.outcome.Noted.{Noted}
use Rattle.engine_core.specs.declared.outcome.Noted.TheVariants as notes
use Rattle.engine_core.specs.declared.outcome.Outcome.{Outcome}
use Rattle.engine_core.specs.declared.outcome.Outcome.TheVariants as outcomes
use Rattle.call_history.specs.Trace.{Trace, pending_calls}
use Rattle.call_history.specs.Draining.{at_rest, again, HasPartlyDrained, TurnsEnding, IsPass, HasSentSome, HasTurns, begins_again, goes, is_held, is_idle, is_over, next, none, one, redacts}
use Rattle.call_history.specs.Transitions.{IsTransition, ConnState, Transition, accepted, accepts, changes, has_turn, is_away, is_sent}
use Rattle.call_history.specs.Transitions.{link_failed, with_note, refused_for_link, rises, sends, stays, takes, trace_after_turn}
use Rattle.call_history.specs.Loads.{AreSpelled, IsLoaded, Loads}
use Rattle.call_history.specs.Rules.{JudgeContext}
use Rattle.call_history.specs.declared.happening.Cause.TheVariants as cause
use Rattle.call_history.specs.declared.happening.Happening.TheVariants.{Refused, Took}
use Rattle.call_history.specs.declared.happening.AcceptedCall.{AcceptedCall}
use Rattle.call_history.specs.declared.happening.TookCopy.{TookCopy}
use Rattle.call_history.specs.declared.happening.TookCopy.TheVariants.{Copy, Malformed}
use Rattle.conn_core.specs.Connections.{Connection, conn_trace, conn_state, judge_context}
use Rattle.conn_core.specs.ConnectionSteps.{IsAcceptance}
use Rattle.conn_core.specs.declared.answers.Ask.{Ask}

-- ---- an acceptance

spelled-copy : (u : JudgeContext) (H : ℕ) (call : AcceptedCall) (own loads : Loads) (c : ConnState) (copy : TookCopy)
    → call.copy ≡ copy → IsLoaded u.table H u.limit call own → AreSpelled u.table H u.limit c.past loads
    → AreSpelled u.table H u.limit (accepted call c).past (loads ++ own)
spelled-copy u H call own loads c (Copy tree) is loaded h =
    let past : (accepted call c).past ≡ Took call ∷ c.past = rw is refl in
    subst (λ (p : Trace). AreSpelled u.table H u.limit p (loads ++ own)) (sym past) (loads, own, refl, loaded, h)
spelled-copy u H call own loads c (Malformed reason place value) is loaded h =
    let past : (accepted call c).past ≡ Refused call.seq cause.Malformed ∷ Took call ∷ c.past = rw is refl in
    subst (λ (p : Trace). AreSpelled u.table H u.limit p (loads ++ own)) (sym past) (loads, own, refl, loaded, h)

spelled-taken : (u : JudgeContext) (H : ℕ) (call : AcceptedCall) (own loads : Loads) (old new : ConnState)
    → IsTransition u old (accepts call) new
    → IsLoaded u.table H u.limit call own → AreSpelled u.table H u.limit old.past loads
    → AreSpelled u.table H u.limit new.past (loads ++ own)
spelled-taken u H call own loads old new (takes taken is running may new-is) loaded h =
    let same : taken ≡ call = cc in
    subst (λ (c : ConnState). AreSpelled u.table H u.limit c.past (loads ++ own)) (sym new-is)
    (subst (λ (t : AcceptedCall). AreSpelled u.table H u.limit (accepted t old).past (loads ++ own)) (sym same)
    (spelled-copy u H call own loads old call.copy refl loaded h))
spelled-taken u H call own loads old new (is_away method number addr is full new-is) loaded h = absurd cc
spelled-taken u H call own loads old new (changes step is may new-is) loaded h = absurd cc
spelled-taken u H call own loads old new (rises ms is above new-is) loaded h = absurd cc
spelled-taken u H call own loads old new (stays ms is below new-is) loaded h = absurd cc
spelled-taken u H call own loads old new (has_turn position seq outcome e is has new-is) loaded h = absurd cc
spelled-taken u H call own loads old new (is_sent seq bytes is running ready new-is) loaded h = absurd cc
spelled-taken u H call own loads old new (link_failed is new-is) loaded h = absurd cc

pub spelled-accepted : (H seq : ℕ) (ask : Ask) (own loads : Loads) (before after : Connection)
    → IsAcceptance H ask seq own before after → AreSpelled before.table H before.limit (conn_trace before) loads
    → AreSpelled before.table H before.limit (conn_trace after) (loads ++ own)
spelled-accepted H seq ask own loads before after a h =
    spelled-taken (judge_context before) H a.call own loads (conn_state before) (conn_state after) a.step a.loaded h

-- ---- other transitions

spelled-noted : (u : JudgeContext) (H : ℕ) (loads : Loads) (name : List ℕ) (seq : ℕ) (n : Noted) (past : Trace)
    → AreSpelled u.table H u.limit past loads → AreSpelled u.table H u.limit (with_note name seq n past) loads
spelled-noted u H loads name seq notes.Nothing past h = h
spelled-noted u H loads name seq (notes.Charged left) past h = h
spelled-noted u H loads name seq (notes.Drawn window ticket) past h = h
spelled-noted u H loads name seq notes.Counted past h = h

spelled-turned : (u : JudgeContext) (H : ℕ) (loads : Loads) (e : Entry) (seq : ℕ) (outcome : Outcome) (c : ConnState)
    → AreSpelled u.table H u.limit c.past loads → AreSpelled u.table H u.limit (trace_after_turn e seq outcome c).past loads
spelled-turned u H loads e seq (outcomes.Passed n) c h = spelled-noted u H loads e.name seq n c.past h
spelled-turned u H loads e seq (outcomes.Held left cost) c h = h
spelled-turned u H loads e seq (outcomes.Refused n why) c h = spelled-noted u H loads e.name seq n c.past h
spelled-turned u H loads e seq outcomes.Redacted c h = h

spelled-refused : (u : JudgeContext) (H : ℕ) (loads : Loads) (calls : List AcceptedCall) (past : Trace)
    → AreSpelled u.table H u.limit past loads → AreSpelled u.table H u.limit (refused_for_link calls past) loads
spelled-refused u H loads [] past h = h
spelled-refused u H loads (call ∷ calls) past h =
    spelled-refused u H loads calls (Refused call.seq cause.Transport ∷ past) h

pub spelled-still : (u : JudgeContext) (H : ℕ) (loads : Loads) (old new : ConnState) (event : Transition) → IsTransition u old event new
    → ((call : AcceptedCall) → event ≢ accepts call) → AreSpelled u.table H u.limit old.past loads
    → AreSpelled u.table H u.limit new.past loads
spelled-still u H loads old new event (takes call is running may new-is) other h = absurd (other call is)
spelled-still u H loads old new event (is_away method number addr is full new-is) other h =
    subst (λ (c : ConnState). AreSpelled u.table H u.limit c.past loads) (sym new-is) h
spelled-still u H loads old new event (changes step is may new-is) other h =
    subst (λ (c : ConnState). AreSpelled u.table H u.limit c.past loads) (sym new-is) h
spelled-still u H loads old new event (rises ms is above new-is) other h =
    subst (λ (c : ConnState). AreSpelled u.table H u.limit c.past loads) (sym new-is) h
spelled-still u H loads old new event (stays ms is below new-is) other h =
    subst (λ (c : ConnState). AreSpelled u.table H u.limit c.past loads) (sym new-is) h
spelled-still u H loads old new event (has_turn position seq outcome e is has new-is) other h =
    subst (λ (c : ConnState). AreSpelled u.table H u.limit c.past loads) (sym new-is)
    (spelled-turned u H loads e seq outcome old h)
spelled-still u H loads old new event (is_sent seq bytes is running ready new-is) other h =
    subst (λ (c : ConnState). AreSpelled u.table H u.limit c.past loads) (sym new-is) h
spelled-still u H loads old new event (link_failed is new-is) other h =
    subst (λ (c : ConnState). AreSpelled u.table H u.limit c.past loads) (sym new-is)
    (spelled-refused u H loads (pending_calls old.past) old.past h)

-- ---- drains

spelled-turns : (u : JudgeContext) (H : ℕ) (loads : Loads) (position : ℕ) (old new : ConnState) (ending : TurnsEnding)
    → HasTurns u position old ending new → AreSpelled u.table H u.limit old.past loads
    → AreSpelled u.table H u.limit new.past loads
spelled-turns u H loads position old new ending (is_idle c empty) h = h
spelled-turns u H loads position old new ending (is_held c seq level cost e has) h = h
spelled-turns u H loads position old new ending (redacts c seq e has) h = h
spelled-turns u H loads position old new ending (goes c last end seq outcome e has done rest) h =
    spelled-turns u H loads position (trace_after_turn e seq outcome old) new ending rest
    (spelled-turned u H loads e seq outcome old h)

spelled-passes : (u : JudgeContext) (H : ℕ) (loads : Loads) (position : ℕ) (old new : ConnState) → IsPass u position old new
    → AreSpelled u.table H u.limit old.past loads → AreSpelled u.table H u.limit new.past loads
spelled-passes u H loads position old new (is_over p c last) h = h
spelled-passes u H loads position old new (next p c between d within turns rest) h =
    spelled-passes u H loads _ between new rest
    (spelled-turns u H loads position old between at_rest turns h)
spelled-passes u H loads position old new (begins_again p c between d within turns rest) h =
    spelled-passes u H loads 0 between new rest (spelled-turns u H loads position old between again turns h)

spelled-sends : (u : JudgeContext) (H : ℕ) (loads : Loads) (old new : ConnState) → HasSentSome u old new
    → AreSpelled u.table H u.limit old.past loads → AreSpelled u.table H u.limit new.past loads
spelled-sends u H loads old new (none c) h = h
spelled-sends u H loads old new (one c between d seq bytes comes rest) h =
    spelled-sends u H loads between new rest
    (spelled-still u H loads old between (sends seq bytes) comes (λ call is. absurd cc) h)

pub spelled-drained : (u : JudgeContext) (H : ℕ) (loads : Loads) (old new : ConnState) → HasPartlyDrained u old new
    → AreSpelled u.table H u.limit old.past loads → AreSpelled u.table H u.limit new.past loads
spelled-drained u H loads old new begins h =
    spelled-sends u H loads begins.between new begins.sent
    (spelled-passes u H loads 0 old begins.between begins.passes h)
