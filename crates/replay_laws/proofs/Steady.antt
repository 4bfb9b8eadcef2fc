-- What the transitions of a connection preserve: that the link hasn't failed, and, if no call is accepted, that none is
-- pending.
use Rattle.std.proofs.Common.{◌≡◌, ◌≢◌, ◌∙◌, ℕ, ◌+◌, ◌==◌, false, List, [], ◌∷◌, refl, sym, ap, subst}
use Rattle.std.specs.Prelude.{filter}
use Rattle.std.specs.List.{list_any}
use Rattle.std.proofs.lemmas.List.Elements.{All-weaker}
use Rattle.engine_core.specs.Chains.{Entry}
use Rattle.engine_core.specs.declared.outcome.Noted.{Noted}
use Rattle.engine_core.specs.declared.outcome.Noted.TheVariants as notes
use Rattle.engine_core.specs.declared.outcome.Outcome.{Outcome}
use Rattle.engine_core.specs.declared.outcome.Outcome.TheVariants as outcomes
use Rattle.engine_core.specs.declared.outcome.Why.{Why}
use Rattle.engine_core.specs.declared.outcome.Why.TheVariants.{Denied, Short, Over}
use Rattle.call_history.specs.Trace.{Trace, has_failed, is_fate_of, pending_calls, is_pending, taken}
use Rattle.call_history.specs.Draining.{HasDrained, TurnsEnding, IsPass, HasSentSome, HasTurns}
use Rattle.call_history.specs.Draining.TurnsEnding.{at_rest, again}
use Rattle.call_history.specs.Draining.HasTurns.{is_idle, is_held, redacts, goes}
use Rattle.call_history.specs.Draining.IsPass.{is_over, next, begins_again}
use Rattle.call_history.specs.Draining.HasSentSome.{none, one}
use Rattle.call_history.specs.Transitions.{IsTransition, ConnState, Transition, accepted, accepts, cause_of, fails, with_note, sends, trace_after_turn}
use Rattle.call_history.specs.Transitions.IsTransition.{takes, is_away, changes, rises, stays, has_turn, is_sent, link_failed}
use Rattle.call_history.specs.Rules.{JudgeContext}
use Rattle.call_history.specs.declared.happening.Cause.{Cause}
use Rattle.call_history.specs.declared.happening.Happening.TheVariants.{Away, Moment, Charged, Drawn, Counted, Redacted, Sent, Refused}
use Rattle.call_history.specs.declared.happening.AcceptedCall.{AcceptedCall}
use Rattle.call_history.specs.declared.happening.TookCopy.{TookCopy}
use Rattle.call_history.specs.declared.happening.TookCopy.TheVariants.{Copy, Malformed}
use Rattle.replay_laws.proofs.Lists.{none-kept, none-left}
use Rattle.replay_laws.proofs.Sending.{still-gone}

-- the link hasn't failed, if it hadn't
abbrev pub Goes : Trace → Trace → Type 0
Goes old new = has_failed old ≡ false → has_failed new ≡ false

-- no call is pending, if none was
abbrev pub Rests : Trace → Trace → Type 0
Rests old new = pending_calls old ≡ [] → pending_calls new ≡ []

pub record Steady (old new : Trace) : Type 0 where
  pub going : Goes old new
  pub rests : Rests old new

pub same : (past : Trace) → Steady past past
same past = record { going = λ h. h; rests = λ h. h }

pub further : (a b c : Trace) → Steady a b → Steady b c → Steady a c
further a b c x y = record { going = λ h. y.going (x.going h); rests = λ h. y.rests (x.rests h) }

-- ---- single events

more-fates : (past new : Trace) → taken new ≡ taken past
    → ((c : AcceptedCall) → is_pending past c ≡ false → is_pending new c ≡ false) → Rests past new
more-fates past new calls gone empty =
    ap (filter (is_pending new)) calls
    ∙ none-kept (is_pending new) (taken past)
    (All-weaker (λ c. is_pending past c ≡ false) (λ c. is_pending new c ≡ false) gone (taken past)
    (none-left (is_pending past) (taken past) empty))

sent-steady : (past : Trace) (seq bytes : ℕ) → Steady past (Sent seq bytes ∷ past)
sent-steady past seq bytes = record {
  going = λ h. h;
  rests = more-fates past (Sent seq bytes ∷ past) refl (λ c gone. still-gone (seq == c.seq) (list_any (is_fate_of c.seq) past) gone);
}

refused-rests : (past : Trace) (seq : ℕ) (why : Cause) → Rests past (Refused seq why ∷ past)
refused-rests past seq why =
    more-fates past (Refused seq why ∷ past) refl (λ c gone. still-gone (seq == c.seq) (list_any (is_fate_of c.seq) past) gone)

denied-steady : (past : Trace) (seq : ℕ) (e : Entry) (why : Why) → Steady past (Refused seq (cause_of e why) ∷ past)
denied-steady past seq e (Denied rule) =
    record { going = λ h. h; rests = refused-rests past seq (cause_of e (Denied rule)) }
denied-steady past seq e (Short left cost) =
    record { going = λ h. h; rests = refused-rests past seq (cause_of e (Short left cost)) }
denied-steady past seq e (Over ticket most) =
    record { going = λ h. h; rests = refused-rests past seq (cause_of e (Over ticket most)) }

noted-steady : (name : List ℕ) (seq : ℕ) (n : Noted) (past : Trace) → Steady past (with_note name seq n past)
noted-steady name seq notes.Nothing past = same past
noted-steady name seq (notes.Charged left) past = record { going = λ h. h; rests = λ h. h }
noted-steady name seq (notes.Drawn window ticket) past = record { going = λ h. h; rests = λ h. h }
noted-steady name seq notes.Counted past = record { going = λ h. h; rests = λ h. h }

turn-steady : (e : Entry) (seq : ℕ) (outcome : Outcome) (c : ConnState) → Steady c.past (trace_after_turn e seq outcome c).past
turn-steady e seq (outcomes.Passed n) c = noted-steady e.name seq n c.past
turn-steady e seq (outcomes.Held left cost) c = same c.past
turn-steady e seq (outcomes.Refused n why) c =
    further c.past (with_note e.name seq n c.past) (Refused seq (cause_of e why) ∷ with_note e.name seq n c.past)
    (noted-steady e.name seq n c.past) (denied-steady (with_note e.name seq n c.past) seq e why)
turn-steady e seq outcomes.Redacted c = record { going = λ h. h; rests = λ h. h }

-- ---- transitions

become : (old : Trace) (new is : ConnState) → new ≡ is → Steady old is.past → Steady old new.past
become old new is e h = subst (λ (c : ConnState). Steady old c.past) (sym e) h

pub event-steady : (u : JudgeContext) (old new : ConnState) (event : Transition) → ((call : AcceptedCall) → event ≢ accepts call)
    → event ≢ fails → IsTransition u old event new → Steady old.past new.past
event-steady u old new event not-taken not-failed (takes call e going may is) = absurd (not-taken call e)
event-steady u old new event not-taken not-failed (is_away method number addr e many is) =
    become old.past new (record old { past = Away method number addr ∷ old.past }) is (record { going = λ h. h; rests = λ h. h })
event-steady u old new event not-taken not-failed (changes step e may is) =
    subst (λ (c : ConnState). Steady old.past c.past) (sym is) (record { going = λ h. h; rests = λ h. h })
event-steady u old new event not-taken not-failed (rises ms e less is) =
    become old.past new (record old { past = Moment ms ∷ old.past }) is (record { going = λ h. h; rests = λ h. h })
event-steady u old new event not-taken not-failed (stays ms e le is) = become old.past new old is (same old.past)
event-steady u old new event not-taken not-failed (has_turn position seq outcome entry e turn is) =
    become old.past new (trace_after_turn entry seq outcome old) is (turn-steady entry seq outcome old)
event-steady u old new event not-taken not-failed (is_sent seq bytes e going ready is) =
    subst (λ (c : ConnState). Steady old.past c.past) (sym is) (sent-steady old.past seq bytes)
event-steady u old new event not-taken not-failed (link_failed e is) = absurd (not-failed e)

accepted-goes : (call : AcceptedCall) (copy : TookCopy) (c : ConnState) → call.copy ≡ copy → Goes c.past (accepted call c).past
accepted-goes call (Copy tree) c is h = rw is h
accepted-goes call (Malformed reason place value) c is h = rw is h

-- if a call is accepted, the link hasn't failed either
pub acceptance-goes : (u : JudgeContext) (old new : ConnState) (call : AcceptedCall) → IsTransition u old (accepts call) new
    → Goes old.past new.past
acceptance-goes u old new call (takes other e going may is) h =
    subst (λ (c : ConnState). has_failed c.past ≡ false) (sym is) (accepted-goes other other.copy old refl h)
acceptance-goes u old new call (is_away method number addr e many is) h = absurd cc
acceptance-goes u old new call (changes step e may is) h = absurd cc
acceptance-goes u old new call (rises ms e less is) h = absurd cc
acceptance-goes u old new call (stays ms e le is) h = absurd cc
acceptance-goes u old new call (has_turn position seq outcome entry e turn is) h = absurd cc
acceptance-goes u old new call (is_sent seq bytes e going ready is) h = absurd cc
acceptance-goes u old new call (link_failed e is) h = absurd cc

-- ---- drains

turns-steady : (u : JudgeContext) (position : ℕ) (old : ConnState) (ending : TurnsEnding) (new : ConnState)
    → HasTurns u position old ending new → Steady old.past new.past
turns-steady u position old ending new (is_idle c idle) = same c.past
turns-steady u position old ending new (is_held c seq level cost e turn) = same c.past
turns-steady u position old ending new (redacts c seq e turn) = turn-steady e seq outcomes.Redacted c
turns-steady u position old ending new (goes c end how seq outcome e turn done more) =
    further c.past (trace_after_turn e seq outcome c).past end.past (turn-steady e seq outcome c)
    (turns-steady u position (trace_after_turn e seq outcome c) how end more)

passes-steady : (u : JudgeContext) (position : ℕ) (old new : ConnState) → IsPass u position old new → Steady old.past new.past
passes-steady u position old new (is_over at c end) = same c.past
passes-steady u position old new (next at c between end less turns more) =
    further c.past between.past end.past (turns-steady u at c at_rest between turns)
    (passes-steady u (at + 1) between end more)
passes-steady u position old new (begins_again at c between end less turns more) =
    further c.past between.past end.past (turns-steady u at c again between turns)
    (passes-steady u 0 between end more)

sends-steady : (u : JudgeContext) (old new : ConnState) → HasSentSome u old new → Steady old.past new.past
sends-steady u old new (none c) = same c.past
sends-steady u old new (one c between end seq bytes comes more) =
    further c.past between.past end.past (event-steady u c between (sends seq bytes) (λ call e. absurd cc) (λ e. absurd cc) comes)
    (sends-steady u between end more)

pub drain-steady : (u : JudgeContext) (old new : ConnState) → HasDrained u old new → Steady old.past new.past
drain-steady u old new drains =
    further old.past drains.begins.between.past new.past
    (passes-steady u 0 old drains.begins.between drains.begins.passes)
    (sends-steady u drains.begins.between new drains.begins.sent)
