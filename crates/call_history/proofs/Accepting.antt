-- A call is accepted, and refused at once if it is malformed.
use Rattle.std.proofs.Common.{◌≡◌, ◌≢◌, ℕ, ◌+◌, ◌<◌, ◌≤◌, ◌==◌, cond, not, false, true, inl, inr, List, [], ◌∷◌, ◌++◌}
use Rattle.std.proofs.Common.{length, map, refl, sym, ap, ◌∙◌, subst, arith, length-append, append-nil}
use Rattle.std.specs.Prelude.{All, Contains}
use Rattle.std.proofs.lemmas.Bool.{eq-eqb, ne_eqb}
use Rattle.std.proofs.lemmas.List.{map-append}
use Rattle.std.proofs.lemmas.List.Elements.{All-weaker, filter-append, Contains-push_cases}
use Rattle.call_history.specs.Trace.{Trace, chain, taken, pending_calls, form, noted, noted_calls, copied}
use Rattle.engine_core.specs.Answers.{nothing}
use Rattle.call_history.specs.Transitions.{ConnState, accepted}
use Rattle.call_history.specs.Legal.{HasNoCopy, IsLegalPrefix}
use Rattle.call_history.specs.Rules.{JudgeContext, MayTake}
use Rattle.call_history.specs.declared.happening.Cause.TheVariants as cause
use Rattle.call_history.specs.declared.happening.Happening.TheVariants.{Took, Refused}
use Rattle.call_history.specs.declared.happening.AcceptedCall.{AcceptedCall}
use Rattle.call_history.specs.declared.happening.TookCopy.{TookCopy}
use Rattle.call_history.specs.declared.happening.TookCopy.TheVariants.{Copy, Malformed}
use Rattle.call_history.proofs.Going.{IsOpen, may-take, may-refuse_malformed}
use Rattle.call_history.proofs.Holding.{Holds, stands-still, works-running, works-on}
use Rattle.call_history.proofs.Looking.{lets-still}
use Rattle.call_history.proofs.Prefixes.{Rising, rising, noted-few}
use Rattle.call_history.proofs.Rowed.{Keeps, row-kept, row-more, row-weaker}
use Rattle.call_history.proofs.Standing.{standing-took, standing-refused, others_of}

-- the form of a call with another number is unchanged
pub form-other : (conn s : ℕ) (past : Trace) (call : AcceptedCall) → call.seq ≢ s → form conn s (Took call ∷ past) ≡ form conn s past
form-other conn s past call apart = ap (λ b. cond b (copied conn call call.copy) (form conn s past)) (ne_eqb call.seq s apart)

keeps-taken : (u : JudgeContext) (past : Trace) (call : AcceptedCall) (top : ℕ) → top < call.seq → Keeps u past (Took call ∷ past) top
keeps-taken u past call top above s position few = stands-still u past (Took call ∷ past) s position refl
    (λ e. lets-still u past (Took call ∷ past) s e (form-other u.conn s past call (λ same. omega (arith, same, few, above))) refl)

keeps-refused : (u : JudgeContext) (past : Trace) (call : AcceptedCall) (top : ℕ) → top < call.seq → Keeps u past (Refused call.seq cause.Malformed ∷ Took call ∷ past) top
keeps-refused u past call top above s position few = stands-still u past (Refused call.seq cause.Malformed ∷ Took call ∷ past) s position refl
    (λ e. lets-still u past (Refused call.seq cause.Malformed ∷ Took call ∷ past) s e (form-other u.conn s past call (λ same. omega (arith, same, few, above))) refl)

-- ---- with a copy

copied-holds : (u : JudgeContext) (c : ConnState) (call : AcceptedCall) → Holds u c → c.ended ≡ false → MayTake u c.past call → (HasNoCopy call.copy → ⊥)
    → Holds u (record c { past = Took call ∷ c.past; row = c.row ++ (call.seq, 0) ∷ [] })
copied-holds u c call h running take has =
    let free : IsOpen c.past = works-running u c h running in
    let new : Trace = Took call ∷ c.past in
    let next : call.seq ≡ length (taken c.past) + 1 = take.number in
    let longer : length (taken c.past ++ call ∷ []) ≡ length (taken c.past) + 1 = length-append (taken c.past) (call ∷ []) in
    record {
      prefix = (h.prefix, may-take u c.past call free take);
      settled = record { malformed = has; quota = λ awaits. awaits; link = works-on new free.works };
      row = row-weaker u new 0 0 call.seq (length (taken new)) (length (chain new).entries)
          (length (chain new).entries) (c.row ++ (call.seq, 0) ∷ []) (omega arith) (omega (arith, next, longer))
          (omega arith)
          (row-more u new 0 (length (taken c.past)) call.seq (length (chain c.past).entries) c.row (omega (arith, next)) (omega (arith, next))
          (row-kept u c.past new 0 (length (taken c.past)) (length (chain c.past).entries) c.row (keeps-taken u c.past call (length (taken c.past)) (omega (arith, next))) h.row));
      calls =
          map-append (λ (other : ℕ × ℕ). other.0) c.row ((call.seq, 0) ∷ [])
          ∙ ap (λ (ns : List ℕ). ns ++ call.seq ∷ []) h.calls
          ∙ sym (map-append (λ (other : AcceptedCall). other.seq) (pending_calls c.past) (call ∷ []))
          ∙ ap (map (λ (other : AcceptedCall). other.seq)) (sym (standing-took u c.past call h.prefix next));
      notes_ascend = λ name s stands none. ascends name s none (subst (λ (ns : List ℕ). Contains ns s)
          (ap (map (λ (other : AcceptedCall). other.seq)) (standing-took u c.past call h.prefix next) ∙ map-append (λ (other : AcceptedCall). other.seq) (pending_calls c.past) (call ∷ [])) stands);
      failed = h.failed;
      none_left = λ ended. (let wrong : false ≡ true = sym running ∙ ended in absurd cc);
    }
  where
    ascends : (name : List ℕ) (s : ℕ) → noted name s c.past ≡ nothing
        → Contains (map (λ (other : AcceptedCall). other.seq) (pending_calls c.past) ++ call.seq ∷ []) s
        → All (λ other. other < s) (noted_calls name c.past)
    ascends name s none has = elim (Contains-push_cases (map (λ (other : AcceptedCall). other.seq) (pending_calls c.past)) call.seq s has) [
      | inl stood ↦ h.notes_ascend name s stood none
      | inr same ↦ All-weaker (λ n. n ≤ length (taken c.past)) (λ n. n < s)
          (λ n few. omega (arith, few, same, take.number)) (noted_calls name c.past)
          (noted-few u c.past name h.prefix)
    ]

-- ---- without a copy

others-same : (below top seq : ℕ) (calls : List AcceptedCall) → top < seq → Rising below top calls → others_of seq calls ≡ calls
others-same below top seq [] above h = refl
others-same below top seq (call ∷ calls) above h =
    let apart : seq ≢ call.seq = λ same. omega (arith, same, above, h.1) in
    ap (λ b. cond (not b) (call ∷ others_of seq calls) (others_of seq calls)) (ne_eqb seq call.seq apart)
    ∙ ap (λ (cs : List AcceptedCall). call ∷ cs) (others-same call.seq top seq calls above h.2)

-- the same calls are pending as before
pub standing-malformed : (u : JudgeContext) (past : Trace) (call : AcceptedCall) → IsLegalPrefix u past → call.seq ≡ length (taken past) + 1
    → pending_calls (Refused call.seq cause.Malformed ∷ Took call ∷ past) ≡ pending_calls past
standing-malformed u past call prefix next =
    standing-refused (Took call ∷ past) call.seq cause.Malformed
    ∙ ap (others_of call.seq) (standing-took u past call prefix next)
    ∙ filter-append (λ other. not (call.seq == other.seq)) (pending_calls past) (call ∷ [])
    ∙ ap (λ b. others_of call.seq (pending_calls past) ++ cond (not b) (call ∷ []) []) (eq-eqb call.seq call.seq refl)
    ∙ append-nil (others_of call.seq (pending_calls past))
    ∙ others-same 0 (length (taken past)) call.seq (pending_calls past) (omega (arith, next)) (rising u past prefix)

malformed-holds : (u : JudgeContext) (c : ConnState) (call : AcceptedCall) → Holds u c → c.ended ≡ false → MayTake u c.past call → HasNoCopy call.copy
    → Holds u (record c { past = Refused call.seq cause.Malformed ∷ Took call ∷ c.past })
malformed-holds u c call h running take lacks =
    let free : IsOpen c.past = works-running u c h running in
    let new : Trace = Refused call.seq cause.Malformed ∷ Took call ∷ c.past in
    let next : call.seq ≡ length (taken c.past) + 1 = take.number in
    let longer : length (taken c.past ++ call ∷ []) ≡ length (taken c.past) + 1 = length-append (taken c.past) (call ∷ []) in
    let stand : pending_calls new ≡ pending_calls c.past = standing-malformed u c.past call h.prefix next in
    record {
      prefix = ((h.prefix, may-take u c.past call free take), may-refuse_malformed u c.past call lacks free.works);
      settled = record { malformed = λ awaits. awaits; quota = λ awaits. awaits; link = works-on new free.works };
      row = row-weaker u new 0 0 (length (taken c.past)) (length (taken new)) (length (chain new).entries)
          (length (chain new).entries) c.row (omega arith) (omega (arith, longer)) (omega arith)
          (row-kept u c.past new 0 (length (taken c.past)) (length (chain c.past).entries) c.row (keeps-refused u c.past call (length (taken c.past)) (omega (arith, next))) h.row);
      calls = h.calls ∙ ap (map (λ (other : AcceptedCall). other.seq)) (sym stand);
      notes_ascend = λ name s stands none. h.notes_ascend name s (subst (λ (calls : List AcceptedCall). Contains (map (λ other. other.seq) calls) s) stand stands) none;
      failed = h.failed;
      none_left = h.none_left;
    }

-- ---- with or without a copy

by-copy : (u : JudgeContext) (c : ConnState) (call : AcceptedCall) (copy : TookCopy)
    → ((HasNoCopy copy → ⊥) → Holds u (record c { past = Took call ∷ c.past; row = c.row ++ (call.seq, 0) ∷ [] }))
    → (HasNoCopy copy → Holds u (record c { past = Refused call.seq cause.Malformed ∷ Took call ∷ c.past }))
    → Holds u (elim copy [
      | Copy tree ↦ record c {
        past = Took call ∷ c.past;
        row = c.row ++ (call.seq, 0) ∷ [];
      }
      | Malformed reason place value ↦ record c {
        past =
            Refused call.seq cause.Malformed ∷ Took call ∷ c.past;
      }
    ])
by-copy u c call (Copy tree) has lacks = has (λ none. none)
by-copy u c call (Malformed reason place value) has lacks = lacks tt

pub taken_in : (u : JudgeContext) (c : ConnState) (call : AcceptedCall) → Holds u c → c.ended ≡ false → MayTake u c.past call → Holds u (accepted call c)
taken_in u c call h running take = by-copy u c call call.copy (copied-holds u c call h running take) (malformed-holds u c call h running take)
