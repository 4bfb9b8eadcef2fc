-- Turns, sends and the end of a link preserve the calls accepted, the operations applied and the timestamps.
use Rattle.std.proofs.Common.{◌≡◌, ℕ, ◌+◌, true, List, [], ◌∷◌, refl, ap, sym, ◌∙◌, subst}
use Rattle.engine_core.specs.Chains.{Entry}
use Rattle.engine_core.specs.declared.outcome.Noted.{Noted}
use Rattle.engine_core.specs.declared.outcome.Noted.TheVariants as notes
use Rattle.engine_core.specs.declared.outcome.Outcome.{Outcome}
use Rattle.engine_core.specs.declared.outcome.Outcome.TheVariants as outcomes
use Rattle.call_history.specs.Trace.{Trace, timestamp, pending_calls, taken}
use Rattle.call_history.specs.Draining.{HasPartlyDrained, HasDrained, TurnsEnding, IsPass, HasSentSome, HasTurns, again, at_rest, begins_again, goes, is_held, is_idle, is_over, next, none, one, redacts}
use Rattle.call_history.specs.Transitions.{IsTransition, ConnState, cause_of, changes, fails, has_turn, is_away, is_sent, link_failed, with_note, refused_for_link, rises, sends, stays, takes, trace_after_turn}
use Rattle.call_history.specs.Rules.{JudgeContext}
use Rattle.call_history.specs.declared.happening.Cause.{Cause}
use Rattle.call_history.specs.declared.happening.Cause.TheVariants as cause
use Rattle.call_history.specs.declared.happening.Happening.TheVariants.{Charged, Counted, Drawn, Redacted, Refused, Sent}
use Rattle.call_history.specs.declared.happening.AcceptedCall.{AcceptedCall}
use Rattle.service_loop.specs.Calls.{timestamps_at_calls, timestamps_in, rejected_count}
use Rattle.service_loop.specs.ScheduledOps.{applied_ops}

pub record SameViews (past new : Trace) : Type 0 where
  pub taken : taken new ≡ taken past
  pub steps : applied_ops new ≡ applied_ops past
  pub moments : timestamps_in new ≡ timestamps_in past
  pub at_calls : timestamps_at_calls new ≡ timestamps_at_calls past
  pub away : rejected_count new ≡ rejected_count past
  pub moment : timestamp new ≡ timestamp past

pub same-views : (past : Trace) → SameViews past past
same-views past = record {
  taken = refl;
  steps = refl;
  moments = refl;
  at_calls = refl;
  away = refl;
  moment = refl;
}

pub views-then : (a b c : Trace) → SameViews a b → SameViews b c → SameViews a c
views-then a b c ab bc = record {
  taken = bc.taken ∙ ab.taken;
  steps = bc.steps ∙ ab.steps;
  moments = bc.moments ∙ ab.moments;
  at_calls = bc.at_calls ∙ ab.at_calls;
  away = bc.away ∙ ab.away;
  moment = bc.moment ∙ ab.moment;
}

pub views-as : (past new other : Trace) → new ≡ other → SameViews past other → SameViews past new
views-as past new other is same = subst (SameViews past) (sym is) same

-- one more event that is none of these
one-charged : (seq : ℕ) (name : List ℕ) (left : ℕ) (past : Trace) → SameViews past (Charged seq name left ∷ past)
one-charged seq name left past = record {
  taken = refl;
  steps = refl;
  moments = refl;
  at_calls = refl;
  away = refl;
  moment = refl;
}

one-drawn : (seq : ℕ) (name : List ℕ) (window : ℕ) (ticket : ℕ) (past : Trace)
    → SameViews past (Drawn seq name window ticket ∷ past)
one-drawn seq name window ticket past = record {
  taken = refl;
  steps = refl;
  moments = refl;
  at_calls = refl;
  away = refl;
  moment = refl;
}

one-counted : (seq : ℕ) (name : List ℕ) (past : Trace) → SameViews past (Counted seq name ∷ past)
one-counted seq name past = record {
  taken = refl;
  steps = refl;
  moments = refl;
  at_calls = refl;
  away = refl;
  moment = refl;
}

one-redacted : (seq : ℕ) (name : List ℕ) (version : ℕ) (past : Trace)
    → SameViews past (Redacted seq name version ∷ past)
one-redacted seq name version past = record {
  taken = refl;
  steps = refl;
  moments = refl;
  at_calls = refl;
  away = refl;
  moment = refl;
}

one-sent : (seq : ℕ) (bytes : ℕ) (past : Trace) → SameViews past (Sent seq bytes ∷ past)
one-sent seq bytes past = record {
  taken = refl;
  steps = refl;
  moments = refl;
  at_calls = refl;
  away = refl;
  moment = refl;
}

one-refused : (seq : ℕ) (why : Cause) (past : Trace) → SameViews past (Refused seq why ∷ past)
one-refused seq why past = record {
  taken = refl;
  steps = refl;
  moments = refl;
  at_calls = refl;
  away = refl;
  moment = refl;
}

views-noted : (name : List ℕ) (seq : ℕ) (n : Noted) (past : Trace) → SameViews past (with_note name seq n past)
views-noted name seq notes.Nothing past = same-views past
views-noted name seq (notes.Charged left) past = one-charged seq name left past
views-noted name seq (notes.Drawn window ticket) past = one-drawn seq name window ticket past
views-noted name seq notes.Counted past = one-counted seq name past

views-turned : (e : Entry) (seq : ℕ) (outcome : Outcome) (c : ConnState) → SameViews c.past (trace_after_turn e seq outcome c).past
views-turned e seq (outcomes.Passed n) c = views-noted e.name seq n c.past
views-turned e seq (outcomes.Held left cost) c = same-views c.past
views-turned e seq (outcomes.Refused n why) c =
    views-then c.past (with_note e.name seq n c.past) (Refused seq (cause_of e why) ∷ with_note e.name seq n c.past)
    (views-noted e.name seq n c.past) (one-refused seq (cause_of e why) (with_note e.name seq n c.past))
views-turned e seq outcomes.Redacted c = one-redacted seq e.name e.version c.past

ended-turned : (e : Entry) (seq : ℕ) (outcome : Outcome) (c : ConnState) → (trace_after_turn e seq outcome c).ended ≡ c.ended
ended-turned e seq (outcomes.Passed n) c = refl
ended-turned e seq (outcomes.Held left cost) c = refl
ended-turned e seq (outcomes.Refused n why) c = refl
ended-turned e seq outcomes.Redacted c = refl

-- a connection advanced by turns and sends alone
pub record StaysLinked (old new : ConnState) : Type 0 where
  pub views : SameViews old.past new.past
  pub ended : new.ended ≡ old.ended

linked-same : (c : ConnState) → StaysLinked c c
linked-same c = record { views = same-views c.past; ended = refl }

linked-then : (a b c : ConnState) → StaysLinked a b → StaysLinked b c → StaysLinked a c
linked-then a b c ab bc = record {
  views = views-then a.past b.past c.past ab.views bc.views;
  ended = bc.ended ∙ ab.ended;
}

linked-turned : (e : Entry) (seq : ℕ) (outcome : Outcome) (c : ConnState) → StaysLinked c (trace_after_turn e seq outcome c)
linked-turned e seq outcome c = record { views = views-turned e seq outcome c; ended = ended-turned e seq outcome c }

linked-turns : (u : JudgeContext) (position : ℕ) (old new : ConnState) (ending : TurnsEnding) → HasTurns u position old ending new
    → StaysLinked old new
linked-turns u position old new ending (is_idle c idle) = linked-same c
linked-turns u position old new ending (is_held c seq left cost e has) = linked-same c
linked-turns u position old new ending (redacts c seq e has) = linked-turned e seq outcomes.Redacted c
linked-turns u position old new ending (goes c last end seq outcome e has done rest) =
    linked-then c (trace_after_turn e seq outcome c) last (linked-turned e seq outcome c)
    (linked-turns u position (trace_after_turn e seq outcome c) last end rest)

linked-passes : (u : JudgeContext) (position : ℕ) (old new : ConnState) → IsPass u position old new → StaysLinked old new
linked-passes u position old new (is_over p c over) = linked-same c
linked-passes u position old new (next p c between last within turns rest) =
    linked-then c between last (linked-turns u p c between at_rest turns) (linked-passes u (p + 1) between last rest)
linked-passes u position old new (begins_again p c between last within turns rest) =
    linked-then c between last (linked-turns u p c between again turns) (linked-passes u 0 between last rest)

-- ---- sends

linked-sent : (u : JudgeContext) (old new : ConnState) (seq bytes : ℕ) → IsTransition u old (sends seq bytes) new → StaysLinked old new
linked-sent u old new seq bytes (takes call is running may new-is) = absurd cc
linked-sent u old new seq bytes (is_away method number addr is full new-is) = absurd cc
linked-sent u old new seq bytes (changes step is may new-is) = absurd cc
linked-sent u old new seq bytes (rises ms is above new-is) = absurd cc
linked-sent u old new seq bytes (stays ms is below new-is) = absurd cc
linked-sent u old new seq bytes (has_turn p s o e is has new-is) = absurd cc
linked-sent u old new seq bytes (is_sent s b is running ready new-is) = record {
  views = views-as old.past new.past (Sent s b ∷ old.past) (ap (λ (c : ConnState). c.past) new-is) (one-sent s b old.past);
  ended = ap (λ (c : ConnState). c.ended) new-is;
}
linked-sent u old new seq bytes (link_failed is new-is) = absurd cc

linked-sends : (u : JudgeContext) (old new : ConnState) → HasSentSome u old new → StaysLinked old new
linked-sends u old new (none c) = linked-same c
linked-sends u old new (one c between last seq bytes comes rest) =
    linked-then c between last (linked-sent u c between seq bytes comes) (linked-sends u between last rest)

-- ---- the end of a link

pub record HasFailed (old new : ConnState) : Type 0 where
  pub past : new.past ≡ refused_for_link (pending_calls old.past) old.past
  pub row : new.row ≡ []
  pub ended : new.ended ≡ true

pub failed-in : (u : JudgeContext) (old new : ConnState) → IsTransition u old fails new → HasFailed old new
failed-in u old new (takes call is running may new-is) = absurd cc
failed-in u old new (is_away method number addr is full new-is) = absurd cc
failed-in u old new (changes step is may new-is) = absurd cc
failed-in u old new (rises ms is above new-is) = absurd cc
failed-in u old new (stays ms is below new-is) = absurd cc
failed-in u old new (has_turn p s o e is has new-is) = absurd cc
failed-in u old new (is_sent s b is running ready new-is) = absurd cc
failed-in u old new (link_failed is new-is) = record {
  past = ap (λ (c : ConnState). c.past) new-is;
  row = ap (λ (c : ConnState). c.row) new-is;
  ended = ap (λ (c : ConnState). c.ended) new-is;
}

views-refused : (calls : List AcceptedCall) (past : Trace) → SameViews past (refused_for_link calls past)
views-refused [] past = same-views past
views-refused (call ∷ calls) past =
    views-then past (Refused call.seq cause.Transport ∷ past)
    (refused_for_link calls (Refused call.seq cause.Transport ∷ past)) (one-refused call.seq cause.Transport past)
    (views-refused calls (Refused call.seq cause.Transport ∷ past))

pub views-failed : (u : JudgeContext) (old new : ConnState) → IsTransition u old fails new → SameViews old.past new.past
views-failed u old new comes =
    views-as old.past new.past _ (failed-in u old new comes).past (views-refused (pending_calls old.past) old.past)

-- ---- drains

pub linked-begun : (u : JudgeContext) (old new : ConnState) → HasPartlyDrained u old new → StaysLinked old new
linked-begun u old new begins =
    linked-then old begins.between new (linked-passes u 0 old begins.between begins.passes)
    (linked-sends u begins.between new begins.sent)

pub linked-drained : (u : JudgeContext) (old new : ConnState) → HasDrained u old new → StaysLinked old new
linked-drained u old new drains = linked-begun u old new drains.begins

-- a drain whose link failed
pub views-failing : (u : JudgeContext) (old between new : ConnState) → HasPartlyDrained u old between → IsTransition u between fails new
    → SameViews old.past new.past
views-failing u old between new begins failed =
    views-then old.past between.past new.past (linked-begun u old between begins).views
    (views-failed u between new failed)
