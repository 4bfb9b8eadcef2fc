-- Each transition preserves the invariant of a connection.
use Rattle.std.proofs.Common.{ℕ, List, [], ◌∷◌, refl, sym, subst, arith}
use Rattle.engine_core.specs.Chains.{HasChanged, Entry}
use Rattle.engine_core.specs.Turns.{IsTurnOutcome, passes, is_noted_and_passes, is_held, is_refused, is_noted_and_refused, is_redacted}
use Rattle.engine_core.specs.declared.op.Op.{Op as Step}
use Rattle.engine_core.specs.declared.op.Op.TheVariants.{Attach, Detach, Upgrade}
use Rattle.engine_core.specs.declared.outcome.Outcome.{Outcome}
use Rattle.call_history.specs.Trace.{chain, level_in_trace, timestamp, noted}
use Rattle.engine_core.specs.Chains.{changed}
use Rattle.call_history.specs.Transitions.{ConnState, Transition, IsEntryTurn, trace_after_turn, IsTransition, takes, is_away, changes, rises, stays, has_turn, is_sent, link_failed, AreTransitions, initial_state, IsValidState}
use Rattle.engine_core.specs.Moves.{moved_by}
use Rattle.call_history.specs.Rules.{JudgeContext}
use Rattle.call_history.specs.declared.happening.Happening.TheVariants.{Op}
use Rattle.call_history.proofs.Accepting.{taken_in}
use Rattle.call_history.proofs.Attaching.{attached_holds}
use Rattle.call_history.proofs.Detaching.{detached_holds}
use Rattle.call_history.proofs.Failing.{failed-holds}
use Rattle.call_history.proofs.Holding.{Holds, to_course, from_course}
use Rattle.call_history.proofs.Noting.{IsTurn, turn_of, gives-by}
use Rattle.call_history.proofs.Passing.{passed, passed-noted}
use Rattle.call_history.proofs.Prefixes.{StaysChain}
use Rattle.call_history.proofs.Redacting.{cleared_again}
use Rattle.call_history.proofs.Refusing.{refused, refused-noted}
use Rattle.call_history.proofs.Sending.{sent}
use Rattle.call_history.proofs.Showing.{away, shown}
use Rattle.call_history.proofs.Upgrading.{upgraded_holds}
use Rattle.engine_core.specs.Answers.{pass}

-- ---- the initial state

begins : (u : JudgeContext) → Holds u initial_state
begins u = record {
  prefix = tt;
  settled = record { malformed = λ awaits. awaits; quota = λ awaits. awaits; link = λ awaits. awaits.some_pending refl };
  row = tt;
  calls = refl;
  notes_ascend = λ name seq stands none. absurd (omega (arith, stands.1));
  failed = λ failed. (let wrong = failed in absurd cc);
  none_left = λ ended. refl;
}

-- ---- a turn

outcome-holds : (u : JudgeContext) (c : ConnState) (position seq : ℕ) (outcome : Outcome) (e : Entry) → StaysChain → Holds u c
    → IsTurn u c position seq e → (has : IsEntryTurn u c position seq outcome e)
    → IsTurnOutcome e.policy (level_in_trace e.name c.past) (timestamp c.past) has.call (noted e.name seq c.past) outcome → Holds u (trace_after_turn e seq outcome c)
outcome-holds u c position seq outcome e chains h turn has (passes answers is) =
    subst (λ (o : Outcome). Holds u (trace_after_turn e seq o c)) (sym is) (passed u c position seq e h turn has.first (gives-by u c.past seq e has.call pass has.is_form answers))
outcome-holds u c position seq outcome e chains h turn has (is_noted_and_passes n calls after is) =
    subst (λ (o : Outcome). Holds u (trace_after_turn e seq o c)) (sym is) (passed-noted u c position seq e n has.call chains h turn has.entry has.first has.is_form calls after)
outcome-holds u c position seq outcome e chains h turn has (is_held left cost answers is) = subst (λ (o : Outcome). Holds u (trace_after_turn e seq o c)) (sym is) h
outcome-holds u c position seq outcome e chains h turn has (is_refused why answers is) =
    subst (λ (o : Outcome). Holds u (trace_after_turn e seq o c)) (sym is) (refused u c position seq e why has.call h turn has.is_form answers)
outcome-holds u c position seq outcome e chains h turn has (is_noted_and_refused n why calls after is) =
    subst (λ (o : Outcome). Holds u (trace_after_turn e seq o c)) (sym is) (refused-noted u c position seq e n why has.call chains h turn has.entry has.first has.is_form calls after)
outcome-holds u c position seq outcome e chains h turn has (is_redacted answers is) =
    subst (λ (o : Outcome). Holds u (trace_after_turn e seq o c)) (sym is) (cleared_again u c position seq e has.call h turn has.is_form answers)

-- ---- an operation

step-holds : (u : JudgeContext) (c : ConnState) (step : Step) → StaysChain → Holds u c → HasChanged (chain c.past) step (changed step (chain c.past))
    → Holds u (record c { past = Op step ∷ c.past; row = moved_by step (chain c.past).entries c.row })
step-holds u c (Attach at name label policy) chains h may = attached_holds u c at name label policy h may
step-holds u c (Detach name) chains h may = detached_holds u c name chains h may
step-holds u c (Upgrade name label policy) chains h may = upgraded_holds u c name label policy h may

-- ---- a transition

pub event-holds : (u : JudgeContext) (old new : ConnState) (event : Transition) → StaysChain → Holds u old → IsTransition u old event new → Holds u new
event-holds u old new event chains h (takes call is running may new_is) = subst (Holds u) (sym new_is) (taken_in u old call h running may)
event-holds u old new event chains h (is_away method number addr is full new_is) = subst (Holds u) (sym new_is) (away u old method number addr h full)
event-holds u old new event chains h (changes step is may new_is) = subst (Holds u) (sym new_is) (step-holds u old step chains h may)
event-holds u old new event chains h (rises ms is above new_is) = subst (Holds u) (sym new_is) (shown u old ms h above)
event-holds u old new event chains h (stays ms is below new_is) = subst (Holds u) (sym new_is) h
event-holds u old new event chains h (has_turn position seq outcome e is has new_is) =
    subst (Holds u) (sym new_is) (outcome-holds u old position seq outcome e chains h (turn_of u old position seq e chains h has.entry has.first) has has.comes)
event-holds u old new event chains h (is_sent seq bytes is running ready new_is) = subst (Holds u) (sym new_is) (sent u old seq bytes h running ready)
event-holds u old new event chains h (link_failed is new_is) = subst (Holds u) (sym new_is) (failed-holds u old h)

events-hold : (u : JudgeContext) (old new : ConnState) (events : List Transition) → StaysChain → Holds u old → AreTransitions u old events new → Holds u new
events-hold u old new [] chains h is = subst (Holds u) (sym is) h
events-hold u old new (event ∷ events) chains h (next, comes, rest) = events-hold u next new events chains (event-holds u old next event chains h comes) rest

-- ---- in the words of the laws

pub course-begins : (u : JudgeContext) → IsValidState u initial_state
course-begins u = to_course u initial_state (begins u)

pub event-keeps : StaysChain → (u : JudgeContext) (old new : ConnState) (event : Transition) → IsValidState u old → IsTransition u old event new → IsValidState u new
event-keeps chains u old new event h comes = to_course u new (event-holds u old new event chains (from_course u old h) comes)

pub events-keep : StaysChain → (u : JudgeContext) (old new : ConnState) (events : List Transition) → IsValidState u old → AreTransitions u old events new → IsValidState u new
events-keep chains u old new events h leads = to_course u new (events-hold u old new events chains (from_course u old h) leads)
