-- The link fails, and the pending calls are refused for it, in order.
use Rattle.std.proofs.Common.{◌≡◌, ◌≢◌, ℕ, ◌≤◌, cond, not, true, List, [], ◌∷◌, length, map, refl, sym, ap, ◌∙◌, subst, arith}
use Rattle.std.specs.Prelude.{Contains}
use Rattle.std.proofs.lemmas.Bool.{eq-eqb, ne_eqb}
use Rattle.call_history.specs.Trace.{Trace, taken, pending_calls}
use Rattle.call_history.specs.Transitions.{ConnState, refused_for_link}
use Rattle.call_history.specs.Legal.{IsLegalPrefix, HasMalformedObligation, HasQuotaObligation}
use Rattle.call_history.specs.Rules.{JudgeContext, CanFollow, IsNextAfterFailure, IsOldest}
use Rattle.call_history.specs.declared.happening.Cause.TheVariants as cause
use Rattle.call_history.specs.declared.happening.Happening.{Happening}
use Rattle.call_history.specs.declared.happening.Happening.TheVariants.{Refused}
use Rattle.call_history.specs.declared.happening.AcceptedCall.{AcceptedCall}
use Rattle.call_history.proofs.Going.{no-malformed, no-draw}
use Rattle.call_history.proofs.Holding.{Holds}
use Rattle.call_history.proofs.Prefixes.{Rising, rising}
use Rattle.call_history.proofs.Standing.{standing-refused, others_of}

-- the rule on obligations after a failure of the link, if no call is pending
pub record IsOver (u : JudgeContext) (past : Trace) : Type 0 where
  pub prefix : IsLegalPrefix u past
  pub malformed : HasMalformedObligation past → ⊥
  pub quota : HasQuotaObligation past → ⊥
  pub none : pending_calls past ≡ []

others-behind : (below top seq : ℕ) (calls : List AcceptedCall) → seq ≤ below → Rising below top calls → others_of seq calls ≡ calls
others-behind below top seq [] behind h = refl
others-behind below top seq (call ∷ calls) behind h =
    let apart : seq ≢ call.seq = λ same. omega (arith, same, behind, h.0) in
    ap (λ b. cond (not b) (call ∷ others_of seq calls) (others_of seq calls)) (ne_eqb seq call.seq apart)
    ∙ ap (λ (cs : List AcceptedCall). call ∷ cs) (others-behind call.seq top seq calls (omega (arith, behind, h.0)) h.2)

-- without the oldest pending call
pub without-first : (top : ℕ) (call : AcceptedCall) (calls : List AcceptedCall) → Rising 0 top (call ∷ calls) → others_of call.seq (call ∷ calls) ≡ calls
without-first top call calls h =
    ap (λ b. cond (not b) (call ∷ others_of call.seq calls) (others_of call.seq calls)) (eq-eqb call.seq call.seq refl)
    ∙ others-behind call.seq top call.seq calls (omega arith) h.2

may-refuse_first : (u : JudgeContext) (past : Trace) (call : AcceptedCall) (calls : List AcceptedCall) → (HasMalformedObligation past → ⊥) → (HasQuotaObligation past → ⊥) → pending_calls past ≡ call ∷ calls
    → CanFollow u past (Refused call.seq cause.Transport)
may-refuse_first u past call calls malformed quota first =
    let next : Happening = Refused call.seq cause.Transport in
    let own : IsNextAfterFailure (pending_calls past) next = subst (λ (cs : List AcceptedCall). IsNextAfterFailure cs next) (sym first) refl in
    let is_first : IsOldest (pending_calls past) call.seq = subst (λ (cs : List AcceptedCall). IsOldest cs call.seq) (sym first) refl in
    record {
      numbered = tt;
      malformed = no-malformed past next malformed tt;
      chain_kept = tt;
      notes_due = tt;
      drawn_refused = no-draw past next quota;
      in_order = tt;
      answered = tt;
      link_end = (λ failed. own, is_first);
    }

pub refuse-all : (u : JudgeContext) (past : Trace) (calls : List AcceptedCall) → IsLegalPrefix u past → (HasMalformedObligation past → ⊥)
    → (HasQuotaObligation past → ⊥) → pending_calls past ≡ calls → IsOver u (refused_for_link calls past)
refuse-all u past [] prefix malformed quota none = record { prefix = prefix; malformed = malformed; quota = quota; none = none }
refuse-all u past (call ∷ calls) prefix malformed quota first =
    let rises : Rising 0 (length (taken past)) (call ∷ calls) = subst (Rising 0 (length (taken past))) first (rising u past prefix) in
    refuse-all u (Refused call.seq cause.Transport ∷ past) calls (prefix, may-refuse_first u past call calls malformed quota first) (λ awaits. awaits) (λ awaits. awaits)
    (standing-refused past call.seq cause.Transport ∙ ap (others_of call.seq) first ∙ without-first (length (taken past)) call calls rises)

pub failed-holds : (u : JudgeContext) (c : ConnState) → Holds u c → Holds u (record { past = refused_for_link (pending_calls c.past) c.past; row = []; ended = true })
failed-holds u c h =
    let over : IsOver u (refused_for_link (pending_calls c.past) c.past) = refuse-all u c.past (pending_calls c.past) h.prefix h.settled.malformed h.settled.quota refl in
    record {
      prefix = over.prefix;
      settled = record { malformed = over.malformed; quota = over.quota; link = λ awaits. awaits.some_pending over.none };
      row = tt;
      calls = ap (map (λ (call : AcceptedCall). call.seq)) (sym over.none);
      notes_ascend = λ name s stands none. absurd (none-stands s (subst (λ (cs : List AcceptedCall). Contains (map (λ call. call.seq) cs) s) over.none stands));
      failed = λ failed. refl;
      none_left = λ ended. refl;
    }
  where
    none-stands : (s : ℕ) → Contains [] s → ⊥
    none-stands s has = omega (arith, has.1)
