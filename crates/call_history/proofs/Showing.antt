-- A timestamp doesn't affect calls, nor does a rejected submission.
use Rattle.std.proofs.Common.{◌≡◌, ℕ, ◌<◌, true, ◌∷◌, length, refl, ap, arith}
use Rattle.call_history.specs.Trace.{Trace, chain, timestamp, taken, pending_calls, has_failed}
use Rattle.call_history.specs.Transitions.{ConnState}
use Rattle.call_history.specs.Rules.{JudgeContext}
use Rattle.call_history.specs.declared.happening.Happening.TheVariants.{Away, Moment}
use Rattle.engine_core.specs.declared.call_row.TheConstants.{MAX_CALLS}
use Rattle.std.proofs.lemmas.Bool.{false_from_ne_true}
use Rattle.call_history.specs.declared.happening.AcceptedCall.{AcceptedCall}
use Rattle.call_history.proofs.Going.{IsOpen, may, ended, may-show}
use Rattle.call_history.proofs.Holding.{Holds, stands-still, works-on}
use Rattle.call_history.proofs.Looking.{lets-still}
use Rattle.call_history.proofs.Rowed.{row-kept}

pub shown : (u : JudgeContext) (c : ConnState) (ms : ℕ) → Holds u c → timestamp c.past < ms → Holds u (record c { past = Moment ms ∷ c.past })
shown u c ms h rises = record {
  prefix = (h.prefix, may-show u c.past ms h.settled rises);
  settled = record { malformed = λ awaits. awaits; quota = λ awaits. awaits; link = λ awaits. h.settled.link (record { failed = awaits.failed; some_pending = awaits.some_pending }) };
  row = row-kept u c.past (Moment ms ∷ c.past) 0 (length (taken c.past)) (length (chain c.past).entries) c.row
      (λ seq position few. stands-still u c.past (Moment ms ∷ c.past) seq position refl (λ e. lets-still u c.past (Moment ms ∷ c.past) seq e refl refl)) h.row;
  calls = h.calls;
  notes_ascend = h.notes_ascend;
  failed = h.failed;
  none_left = h.none_left;
}

pub away : (u : JudgeContext) (c : ConnState) (method number addr : ℕ) → Holds u c → length (pending_calls c.past) ≡ MAX_CALLS → Holds u (record c { past = Away method number addr ∷ c.past })
away u c method number addr h full =
    let new : Trace = Away method number addr ∷ c.past in
    record {
      prefix = (
        h.prefix,
        may u c.past (Away method number addr) free (record { numbered = full; no_malformed = tt; chain_kept = tt; notes_due = tt; in_order = tt; answered = tt; link_refusal = tt }),
      );
      settled = record { malformed = λ awaits. awaits; quota = λ awaits. awaits; link = works-on new free.works };
      row = row-kept u c.past new 0 (length (taken c.past)) (length (chain c.past).entries) c.row
          (λ seq position few. stands-still u c.past new seq position refl (λ e. lets-still u c.past new seq e refl refl)) h.row;
      calls = h.calls;
      notes_ascend = h.notes_ascend;
      failed = h.failed;
      none_left = h.none_left;
    }
  where
    -- calls are pending, so the link works
    not-failed : has_failed c.past ≡ true → ⊥
    not-failed failed = let none : length (pending_calls c.past) ≡ 0 = ap (length {A = AcceptedCall}) (ended c.past h.settled failed) in omega (arith, none, full)

    free : IsOpen c.past
    free = record { settled = h.settled; works = false_from_ne_true (has_failed c.past) not-failed }
