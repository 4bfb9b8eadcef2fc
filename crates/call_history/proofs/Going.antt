-- Which event can follow if no refusal is owed, and which refusal is owed after it.
use Rattle.std.proofs.Common.{◌≡◌, ℕ, ◌<◌, true, false, List, [], ◌∷◌, refl, sym, ◌∙◌, arith}
use Rattle.engine_core.specs.Chains.{HasChanged}
use Rattle.engine_core.specs.declared.outcome.Noted.TheVariants as notes
use Rattle.engine_core.specs.declared.op.Op.{Op as Step}
use Rattle.call_history.specs.Trace.{Trace, chain, timestamp, pending_calls, has_failed}
use Rattle.engine_core.specs.Chains.{changed}
use Rattle.call_history.specs.Legal.{HasNoCopy, HasMalformedObligation, HasQuotaObligation, HasNoObligation}
use Rattle.call_history.specs.Rules.{JudgeContext, MayTake, IsRefusedAtOnce, IsNoMalformedRefusal, IsMalformedRefusedAtOnce}
use Rattle.call_history.specs.Rules.{IsNumbered, IsChainPreserved, IsNotedAsDue, IsSentInOrder, IsRefusedAsAnswered}
use Rattle.call_history.specs.Rules.{IsRefusedIfPastCap, IsNoteDue, IsRedactionDue, IsSentNext, IsQuiet, IsNextAfterFailure, IsLinkRefusal}
use Rattle.call_history.specs.Rules.{CanFollow}
use Rattle.call_history.specs.declared.happening.Cause.TheVariants as cause
use Rattle.call_history.specs.declared.happening.Happening.{Happening}
use Rattle.call_history.specs.declared.happening.Happening.TheVariants.{Took, Op, Moment, Charged, Drawn, Counted, Redacted, Sent, Refused}
use Rattle.call_history.specs.declared.happening.AcceptedCall.{AcceptedCall}
use Rattle.call_history.specs.declared.happening.TookCopy.{TookCopy}
use Rattle.call_history.specs.declared.happening.TookCopy.TheVariants.{Copy, Malformed}

-- no refusal is owed, and the link works
pub record IsOpen (past : Trace) : Type 0 where
  pub settled : HasNoObligation past
  pub works : has_failed past ≡ false

-- ---- the rules on refusals that are owed

at-once : (copy : TookCopy) (seq : ℕ) (next : Happening) → (HasNoCopy copy → ⊥) → IsNoMalformedRefusal next → IsRefusedAtOnce copy seq next
at-once (Copy tree) seq (Refused call cause.Malformed) settled clean = clean
at-once (Copy tree) seq next settled clean = tt
at-once (Malformed reason place value) seq next settled clean = absurd (settled tt)

pub no-malformed : (past : Trace) (next : Happening) → (HasMalformedObligation past → ⊥) → IsNoMalformedRefusal next → IsMalformedRefusedAtOnce past next
no-malformed (Took call ∷ past) next settled clean = at-once call.copy call.seq next settled clean
no-malformed past next settled clean = clean

pub no-draw : (past : Trace) (next : Happening) → (HasQuotaObligation past → ⊥) → IsRefusedIfPastCap past next
no-draw (Drawn seq name window ticket ∷ past) next settled = λ policy cap is is_cap more.
    absurd (settled (record { policy = policy; cap = cap; is_policy = is; is_cap = is_cap; over = λ less. omega (arith, less, more) }))
no-draw past next settled = tt

none-left : {X : Type 0} (xs : List X) → ((xs ≡ [] → ⊥) → ⊥) → xs ≡ []
none-left [] h = refl
none-left (x ∷ xs) h = absurd (h (λ none. cc))

pub ended : (past : Trace) → HasNoObligation past → has_failed past ≡ true → pending_calls past ≡ []
ended past settled failed = none-left (pending_calls past) (λ some. settled.link (record { failed = failed; some_pending = some }))

works-still : (past : Trace) (X : Type 0) → has_failed past ≡ false → has_failed past ≡ true → X
works-still past X works failed = let wrong : false ≡ true = sym works ∙ failed in absurd cc

-- ---- which events can follow

-- the rules that an event satisfies by itself
pub record MeetsOwn (u : JudgeContext) (past : Trace) (next : Happening) : Type 0 where
  pub numbered : IsNumbered u past next
  pub no_malformed : IsNoMalformedRefusal next
  pub chain_kept : IsChainPreserved past next
  pub notes_due : IsNotedAsDue u past next
  pub in_order : IsSentInOrder u past next
  pub answered : IsRefusedAsAnswered u past next
  pub link_refusal : IsLinkRefusal past next

pub may : (u : JudgeContext) (past : Trace) (next : Happening) → IsOpen past → MeetsOwn u past next → CanFollow u past next
may u past next free own = record {
  numbered = own.numbered;
  malformed = no-malformed past next free.settled.malformed own.no_malformed;
  chain_kept = own.chain_kept;
  notes_due = own.notes_due;
  drawn_refused = no-draw past next free.settled.quota;
  in_order = own.in_order;
  answered = own.answered;
  link_end = (works-still past (IsNextAfterFailure (pending_calls past) next) free.works, own.link_refusal);
}

pub may-take : (u : JudgeContext) (past : Trace) (call : AcceptedCall) → IsOpen past → MayTake u past call → CanFollow u past (Took call)
may-take u past call free take = may u past (Took call) free (record { numbered = take; no_malformed = tt; chain_kept = tt; notes_due = tt; in_order = tt; answered = tt; link_refusal = tt })

pub may-charge : (u : JudgeContext) (past : Trace) (seq : ℕ) (name : List ℕ) (left : ℕ) → IsOpen past
    → IsNoteDue u past seq name (notes.Charged left) → CanFollow u past (Charged seq name left)
may-charge u past seq name left free due =
    may u past (Charged seq name left) free (record {
      numbered = tt;
      no_malformed = tt;
      chain_kept = tt;
      notes_due = due;
      in_order = tt;
      answered = tt;
      link_refusal = tt;
    })

pub may-draw : (u : JudgeContext) (past : Trace) (seq : ℕ) (name : List ℕ) (window ticket : ℕ) → IsOpen past
    → IsNoteDue u past seq name (notes.Drawn window ticket) → CanFollow u past (Drawn seq name window ticket)
may-draw u past seq name window ticket free due =
    may u past (Drawn seq name window ticket) free (record {
      numbered = tt;
      no_malformed = tt;
      chain_kept = tt;
      notes_due = due;
      in_order = tt;
      answered = tt;
      link_refusal = tt;
    })

pub may-count : (u : JudgeContext) (past : Trace) (seq : ℕ) (name : List ℕ) → IsOpen past → IsNoteDue u past seq name notes.Counted → CanFollow u past (Counted seq name)
may-count u past seq name free due =
    may u past (Counted seq name) free (record {
      numbered = tt;
      no_malformed = tt;
      chain_kept = tt;
      notes_due = due;
      in_order = tt;
      answered = tt;
      link_refusal = tt;
    })

pub may-redact : (u : JudgeContext) (past : Trace) (seq : ℕ) (name : List ℕ) (version : ℕ) → IsOpen past → IsRedactionDue u past seq name version → CanFollow u past (Redacted seq name version)
may-redact u past seq name version free due =
    may u past (Redacted seq name version) free (record {
      numbered = tt;
      no_malformed = tt;
      chain_kept = tt;
      notes_due = due;
      in_order = tt;
      answered = tt;
      link_refusal = tt;
    })

pub may-send : (u : JudgeContext) (past : Trace) (seq bytes : ℕ) → IsOpen past → IsSentNext u past seq bytes → CanFollow u past (Sent seq bytes)
may-send u past seq bytes free next =
    may u past (Sent seq bytes) free (record {
      numbered = tt;
      no_malformed = tt;
      chain_kept = tt;
      notes_due = tt;
      in_order = next;
      answered = tt;
      link_refusal = tt;
    })

-- operations and timestamps, also after a failure of the link
quiet-left : (calls : List AcceptedCall) (next : Happening) → calls ≡ [] → IsQuiet next → IsNextAfterFailure calls next
quiet-left [] next none quiet = quiet
quiet-left (call ∷ calls) next none quiet = absurd cc

pub may-operate : (u : JudgeContext) (past : Trace) (step : Step) → HasNoObligation past → HasChanged (chain past) step (changed step (chain past)) → CanFollow u past (Op step)
may-operate u past step settled changes = record {
  numbered = tt;
  malformed = no-malformed past (Op step) settled.malformed tt;
  chain_kept = changes;
  notes_due = tt;
  drawn_refused = no-draw past (Op step) settled.quota;
  in_order = tt;
  answered = tt;
  link_end = (λ failed. quiet-left (pending_calls past) (Op step) (ended past settled failed) tt, tt);
}

pub may-show : (u : JudgeContext) (past : Trace) (ms : ℕ) → HasNoObligation past → timestamp past < ms → CanFollow u past (Moment ms)
may-show u past ms settled rises = record {
  numbered = tt;
  malformed = no-malformed past (Moment ms) settled.malformed tt;
  chain_kept = rises;
  notes_due = tt;
  drawn_refused = no-draw past (Moment ms) settled.quota;
  in_order = tt;
  answered = tt;
  link_end = (λ failed. quiet-left (pending_calls past) (Moment ms) (ended past settled failed) tt, tt);
}

-- a call is refused at once because it is malformed
pub may-refuse_malformed : (u : JudgeContext) (past : Trace) (call : AcceptedCall) → HasNoCopy call.copy → has_failed past ≡ false → CanFollow u (Took call ∷ past) (Refused call.seq cause.Malformed)
may-refuse_malformed u past call none works = record {
  numbered = tt;
  malformed = at-once-refused call.copy call.seq none;
  chain_kept = tt;
  notes_due = tt;
  drawn_refused = tt;
  in_order = tt;
  answered = tt;
  link_end = (works-still past (IsNextAfterFailure (pending_calls (Took call ∷ past)) (Refused call.seq cause.Malformed)) works, tt);
}
  where
    at-once-refused : (copy : TookCopy) (seq : ℕ) → HasNoCopy copy → IsRefusedAtOnce copy seq (Refused seq cause.Malformed)
    at-once-refused (Copy tree) seq none = absurd none
    at-once-refused (Malformed reason place value) seq none = refl
