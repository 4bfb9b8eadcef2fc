-- What holds of each trace that follows the rules.
use Rattle.std.proofs.Common.{◌≡◌, ℕ, ◌+◌, ◌<◌, ◌≤◌, Bool, true, false, ◌==◌, cond, List, [], ◌∷◌, ◌++◌, length, map, refl, subst, arith, length-append}
use Rattle.std.specs.Prelude.{filter, All, Contains}
use Rattle.std.specs.List.{list_any}
use Rattle.std.proofs.lemmas.Bool.{ne_eqb, or_from}
use Rattle.std.proofs.lemmas.List.Elements.{All-nil, All-cons, All-contains, All-weaker}
use Rattle.engine_core.specs.Chains.{Chain, IsChain, HasChanged}
use Rattle.std.specs.Str.{bytes_eq}
use Rattle.engine_core.specs.declared.op.Op.{Op as Step}
use Rattle.engine_core.specs.declared.op.Op.TheVariants.{Attach}
use Rattle.call_history.specs.Trace.{Trace, chain, taken, is_fate_of, is_pending, pending_calls, noted_calls}
use Rattle.engine_core.specs.Chains.{changed}
use Rattle.call_history.specs.Legal.{IsLegalPrefix}
use Rattle.call_history.specs.Rules.{JudgeContext, CanFollow, IsRefusedAtOnce, IsMalformedRefusedAtOnce, IsOldest, IsSentNext}
use Rattle.call_history.specs.declared.happening.Cause.{Cause}
use Rattle.call_history.specs.declared.happening.Cause.TheVariants as cause
use Rattle.call_history.specs.declared.happening.Happening.TheVariants.{Took, Op, Charged, Drawn, Counted, Sent, Refused}
use Rattle.call_history.specs.declared.happening.AcceptedCall.{AcceptedCall}
use Rattle.call_history.specs.declared.happening.TookCopy.{TookCopy}
use Rattle.call_history.specs.declared.happening.TookCopy.TheVariants.{Copy, Malformed}

-- ---- the chain

-- after an operation a chain is still a chain
abbrev pub StaysChain : Type 0
StaysChain = (before after : Chain) (op : Step) → IsChain before → HasChanged before op after → IsChain after

pub chained : StaysChain → (u : JudgeContext) (past : Trace) → IsLegalPrefix u past → IsChain (chain past)
chained stays u [] prefix = record { few = omega arith; names = tt; attachments = tt; numbered = All-nil (λ attach. attach ≤ 0) }
chained stays u (Op step ∷ past) prefix = stays (chain past) (changed step (chain past)) step (chained stays u past prefix.0) prefix.1.chain_kept
chained stays u (x ∷ past) prefix = chained stays u past prefix.0

-- ---- numbers

-- calls are numbered in order, after this number
abbrev pub Numbered : ℕ → List AcceptedCall → Type 0
Numbered last [] = Unit {0}
Numbered last (call ∷ calls) = (call.seq ≡ last + 1) × Numbered (last + 1) calls

numbered-more : (last : ℕ) (calls : List AcceptedCall) (call : AcceptedCall) → Numbered last calls → call.seq ≡ (last + length calls) + 1 → Numbered last (calls ++ call ∷ [])
numbered-more last [] call h next = (omega (arith, next), tt)
numbered-more last (first ∷ calls) call h next =
    let further : call.seq ≡ ((last + 1) + length calls) + 1 = omega (arith, next) in
    (h.0, numbered-more (last + 1) calls call h.1 further)

pub numbered : (u : JudgeContext) (past : Trace) → IsLegalPrefix u past → Numbered 0 (taken past)
numbered u [] prefix = tt
numbered u (Took call ∷ past) prefix = numbered-more 0 (taken past) call (numbered u past prefix.0)
    (let next : call.seq ≡ length (taken past) + 1 = prefix.1.numbered.number in omega (arith, next))
numbered u (x ∷ past) prefix = numbered u past prefix.0

-- each number is greater than the one before, and none is greater than this one
abbrev pub Rising : (below top : ℕ) → List AcceptedCall → Type 0
Rising below top [] = Unit {0}
Rising below top (call ∷ calls) = (below < call.seq) × (call.seq ≤ top) × Rising call.seq top calls

pub rising-filter : (p : AcceptedCall → Bool) (below last top : ℕ) (calls : List AcceptedCall) → below ≤ last
    → last + length calls ≤ top → Numbered last calls → Rising below top (filter p calls)
rising-filter p below last top [] le within h = tt
rising-filter p below last top (call ∷ calls) le within h =
    elim (p call) as (λ b. Rising below top (cond b (call ∷ filter p calls) (filter p calls))) [
      | true ↦ (omega (arith, h.0, le), omega (arith, h.0, within), rising-filter p call.seq (last + 1) top calls (omega (arith, h.0)) (omega (arith, within)) h.1)
      | false ↦ rising-filter p below (last + 1) top calls (omega (arith, le)) (omega (arith, within)) h.1
    ]

pub rising : (u : JudgeContext) (past : Trace) → IsLegalPrefix u past → Rising 0 (length (taken past)) (pending_calls past)
rising u past prefix = rising-filter (is_pending past) 0 0 (length (taken past)) (taken past) (omega arith) (omega arith) (numbered u past prefix)

pub few-numbers : (below top : ℕ) (calls : List AcceptedCall) → Rising below top calls → All (λ seq. seq ≤ top) (map (λ call. call.seq) calls)
few-numbers below top [] h = All-nil (λ seq. seq ≤ top)
few-numbers below top (call ∷ calls) h = All-cons (λ seq. seq ≤ top) call.seq (map (λ other. other.seq) calls) h.1 (few-numbers call.seq top calls h.2)

-- the number of a pending call is at most the number of accepted calls
pub stood : (u : JudgeContext) (past : Trace) (seq : ℕ) → IsLegalPrefix u past → Contains (map (λ call. call.seq) (pending_calls past)) seq → seq ≤ length (taken past)
stood u past seq prefix there =
    All-contains (λ n. n ≤ length (taken past)) (map (λ call. call.seq) (pending_calls past)) seq (few-numbers 0 (length (taken past)) (pending_calls past) (rising u past prefix)) there

-- ---- fates

first-few : (top : ℕ) (calls others : List AcceptedCall) (call : AcceptedCall) → Rising 0 top calls → calls ≡ call ∷ others → call.seq ≤ top
first-few top [] others call h is = absurd cc
first-few top (x ∷ calls) others call h is = let same : x ≡ call = cc in subst (λ (c : AcceptedCall). c.seq ≤ top) same h.1

is-first-few : (top : ℕ) (calls : List AcceptedCall) (seq : ℕ) → Rising 0 top calls → IsOldest calls seq → seq ≤ top
is-first-few top [] seq h is = absurd is
is-first-few top (x ∷ calls) seq h is = omega (arith, h.1, is)

-- a call is refused as malformed right after its acceptance
pub refused-at-once : (copy : TookCopy) (seq number : ℕ) → IsRefusedAtOnce copy seq (Refused number cause.Malformed) → number ≡ seq
refused-at-once (Copy tree) seq number is = absurd is
refused-at-once (Malformed reason place value) seq number is = cc

malformed-few : (u : JudgeContext) (past : Trace) (seq : ℕ) → IsLegalPrefix u past → IsMalformedRefusedAtOnce past (Refused seq cause.Malformed) → seq ≤ length (taken past)
malformed-few u (Took call ∷ past) seq prefix is =
    let next : call.seq ≡ length (taken past) + 1 = prefix.1.numbered.number in
    let same : seq ≡ call.seq = refused-at-once call.copy call.seq seq is in
    omega (arith, next, same, length-append (taken past) (call ∷ []))
malformed-few u past seq prefix is = absurd is

refused-few : (u : JudgeContext) (past : Trace) (seq : ℕ) (why : Cause) → IsLegalPrefix u past → CanFollow u past (Refused seq why) → seq ≤ length (taken past)
refused-few u past seq cause.Malformed prefix may = malformed-few u past seq prefix may.malformed
refused-few u past seq (cause.Access name version rule) prefix may = stood u past seq prefix may.answered.at.is_pending
refused-few u past seq (cause.Rate name left cost) prefix may = stood u past seq prefix may.answered.at.is_pending
refused-few u past seq (cause.Quota name ticket cap) prefix may = stood u past seq prefix may.answered.at.is_pending
refused-few u past seq cause.Transport prefix may = is-first-few (length (taken past)) (pending_calls past) seq (rising u past prefix) may.link_end.1

-- a number greater than those of the accepted calls has no fate
pub fateless : (u : JudgeContext) (past : Trace) (seq : ℕ) → IsLegalPrefix u past → length (taken past) < seq → list_any (is_fate_of seq) past ≡ false
fateless u [] seq prefix above = refl
fateless u (Took call ∷ past) seq prefix above = fateless u past seq prefix.0 (omega (arith, above, length-append (taken past) (call ∷ [])))
fateless u (Sent call bytes ∷ past) seq prefix above =
    let next : IsSentNext u past call bytes = prefix.1.in_order in
    let few : next.call.seq ≤ length (taken past) = first-few (length (taken past)) (pending_calls past) next.others next.call (rising u past prefix.0) next.first in
    let number : next.call.seq ≡ call = next.number in
    or_from (call == seq) (list_any (is_fate_of seq) past) (ne_eqb call seq (λ same. omega (arith, few, number, same, above))) (fateless u past seq prefix.0 above)
fateless u (Refused call why ∷ past) seq prefix above =
    let few : call ≤ length (taken past) = refused-few u past call why prefix.0 prefix.1 in
    or_from (call == seq) (list_any (is_fate_of seq) past) (ne_eqb call seq (λ same. omega (arith, few, same, above))) (fateless u past seq prefix.0 above)
fateless u (x ∷ past) seq prefix above = fateless u past seq prefix.0 above

-- ---- which calls were noted

one-noted : (call top : ℕ) (b : Bool) (calls : List ℕ) → call ≤ top → All (λ seq. seq ≤ top) calls → All (λ seq. seq ≤ top) (cond b (call ∷ calls) calls)
one-noted call top true calls few rest = All-cons (λ seq. seq ≤ top) call calls few rest
one-noted call top false calls few rest = rest

-- no call with a number greater than those of the accepted calls
pub noted-few : (u : JudgeContext) (past : Trace) (name : List ℕ) → IsLegalPrefix u past → All (λ seq. seq ≤ length (taken past)) (noted_calls name past)
noted-few u [] name prefix = All-nil (λ seq. seq ≤ 0)
noted-few u (Op (Attach at other label policy) ∷ past) name prefix =
    elim (bytes_eq other name) as (λ b. All (λ seq. seq ≤ length (taken past)) (cond b [] (noted_calls name past)))
    [ true ↦ All-nil (λ seq. seq ≤ length (taken past)) | false ↦ noted-few u past name prefix.0 ]
noted-few u (Took call ∷ past) name prefix =
    All-weaker (λ seq. seq ≤ length (taken past)) (λ seq. seq ≤ length (taken past ++ call ∷ []))
    (λ seq few. omega (arith, few, length-append (taken past) (call ∷ []))) (noted_calls name past) (noted-few u past name prefix.0)
noted-few u (Charged call other left ∷ past) name prefix = one-noted call (length (taken past)) (bytes_eq other name) (noted_calls name past)
    (stood u past call prefix.0 prefix.1.notes_due.meets.at.is_pending) (noted-few u past name prefix.0)
noted-few u (Drawn call other window ticket ∷ past) name prefix = one-noted call (length (taken past)) (bytes_eq other name) (noted_calls name past)
    (stood u past call prefix.0 prefix.1.notes_due.meets.at.is_pending) (noted-few u past name prefix.0)
noted-few u (Counted call other ∷ past) name prefix = one-noted call (length (taken past)) (bytes_eq other name) (noted_calls name past)
    (stood u past call prefix.0 prefix.1.notes_due.meets.at.is_pending) (noted-few u past name prefix.0)
noted-few u (x ∷ past) name prefix = noted-few u past name prefix.0
