-- Each accepted call was sent, was refused, or is pending.
use Rattle.std.proofs.Common.{◌≡◌, ℕ, ◌+◌, ◌<◌, ◌≤◌, ◌==◌, Bool, true, false, cond, not, ◌⊎◌, inl, inr, List, [], ◌∷◌, ◌++◌}
use Rattle.std.proofs.Common.{length, map, refl, sym, ap, ◌∙◌, subst, arith, length-append}
use Rattle.std.specs.Prelude.{Contains, filter}
use Rattle.std.proofs.lemmas.Bool.{eqb-true, eqb-false, ne_eqb}
use Rattle.std.proofs.lemmas.List.{map-append}
use Rattle.std.proofs.lemmas.List.Elements.{Contains-append_cases, Contains-push, Contains-push_cases}
use Rattle.call_history.specs.Trace.{Trace, taken, is_pending, pending_calls}
use Rattle.call_history.specs.Legal.{IsLegalPrefix}
use Rattle.call_history.specs.Rules.{IsOldest, IsRefusedAtOnce, CanFollow, IsMalformedRefusedAtOnce, JudgeContext}
use Rattle.call_history.specs.declared.happening.Cause.{Cause}
use Rattle.call_history.specs.declared.happening.Cause.TheVariants as cause
use Rattle.call_history.specs.declared.happening.Happening.TheVariants.{Took, Refused, Sent}
use Rattle.call_history.specs.declared.happening.AcceptedCall.{AcceptedCall}
use Rattle.call_history.specs.declared.happening.TookCopy.{TookCopy}
use Rattle.call_history.specs.declared.happening.TookCopy.TheVariants.{Copy, Malformed}

-- ---- calls whose numbers rise

-- numbers rise along the calls, above one number and up to another
abbrev pub Rising : ℕ → ℕ → List AcceptedCall → Type 0
Rising low top [] = Unit {0}
Rising low top (call ∷ calls) = (low < call.seq) × (call.seq ≤ top) × Rising call.seq top calls

-- the calls except the one with a number
abbrev pub others_of : ℕ → List AcceptedCall → List AcceptedCall
others_of seq calls = filter (λ call. not (seq == call.seq)) calls

abbrev numbers_of : List AcceptedCall → List ℕ
numbers_of calls = map (λ (call : AcceptedCall). call.seq) calls

rising-from : (low lower top : ℕ) (calls : List AcceptedCall) → lower ≤ low → Rising low top calls → Rising lower top calls
rising-from low lower top [] le rises = tt
rising-from low lower top (call ∷ calls) le rises = (omega (arith, le, rises.0), rises.1, rises.2)

rising-kept : (p : AcceptedCall → Bool) (low top : ℕ) (calls : List AcceptedCall) → Rising low top calls → Rising low top (filter p calls)
rising-kept p low top [] rises = tt
rising-kept p low top (call ∷ calls) rises =
    let rest : Rising call.seq top (filter p calls) = rising-kept p call.seq top calls rises.2 in
    elim (p call) as (λ b. Rising low top (cond b (call ∷ filter p calls) (filter p calls))) [
      | true ↦ (rises.0, rises.1, rest)
      | false ↦ rising-from call.seq low top (filter p calls) (omega (arith, rises.0)) rest
    ]

rising-next : (low top : ℕ) (calls : List AcceptedCall) (call : AcceptedCall) → low ≤ top → call.seq ≡ top + 1 → Rising low top calls
    → Rising low (top + 1) (calls ++ call ∷ [])
rising-next low top [] call le next rises = (omega (arith, le, next), omega (arith, next), tt)
rising-next low top (first ∷ calls) call le next rises =
    (rises.0, omega (arith, rises.1), rising-next first.seq top calls call rises.1 next rises.2)

contains-none : (seq : ℕ) → Contains [] seq → ⊥
contains-none seq has = omega (arith, has.1)

contains-cases : (n : ℕ) (ns : List ℕ) (seq : ℕ) → Contains (n ∷ ns) seq → (n ≡ seq) ⊎ Contains ns seq
contains-cases n ns seq has = elim (Contains-append_cases (n ∷ []) ns seq has) [
  | inl first ↦ elim (Contains-push_cases [] n seq first) [
    | inl none ↦ absurd (contains-none seq none)
    | inr same ↦ inl same
  ]
  | inr rest ↦ inr rest
]

-- none has a number that isn't above the lower bound
none-gone : (low top seq : ℕ) (calls : List AcceptedCall) → seq ≤ low → Rising low top calls → others_of seq calls ≡ calls
none-gone low top seq [] le rises = refl
none-gone low top seq (call ∷ calls) le rises =
    let apart : (seq == call.seq) ≡ false = ne_eqb seq call.seq (λ same. omega (arith, same, le, rises.0)) in
    let rest : others_of seq calls ≡ calls = none-gone call.seq top seq calls (omega (arith, le, rises.0)) rises.2 in
    ap (λ b. cond (not b) (call ∷ others_of seq calls) (others_of seq calls)) apart ∙ ap (λ cs. call ∷ cs) rest

-- without the call with a number there is one less
one-gone : (low top seq : ℕ) (calls : List AcceptedCall) → Rising low top calls → Contains (numbers_of calls) seq
    → length (others_of seq calls) + 1 ≡ length calls
one-gone low top seq [] rises has = absurd (contains-none seq has)
one-gone low top seq (call ∷ calls) rises has =
    let given : (b : Bool) → (seq == call.seq) ≡ b → length (others_of seq (call ∷ calls)) + 1 ≡ length (call ∷ calls) =
    λ b. elim b as (λ b. (seq == call.seq) ≡ b → length (others_of seq (call ∷ calls)) + 1 ≡ length (call ∷ calls)) [
      | true ↦ λ test.
          let same : seq ≡ call.seq = eqb-true seq call.seq test in
          let left : others_of seq (call ∷ calls) ≡ calls =
          ap (λ b. cond (not b) (call ∷ others_of seq calls) (others_of seq calls)) test
          ∙ none-gone call.seq top seq calls (omega (arith, same)) rises.2 in
          let long = ap length left in
          omega (arith, long)
      | false ↦ λ test.
          let left : others_of seq (call ∷ calls) ≡ call ∷ others_of seq calls =
          ap (λ b. cond (not b) (call ∷ others_of seq calls) (others_of seq calls)) test in
          let long = ap length left in
          elim (contains-cases call.seq (numbers_of calls) seq has) [
            | inl same ↦ absurd (eqb-false seq call.seq test (sym same))
            | inr rest ↦ let less = one-gone call.seq top seq calls rises.2 rest in omega (arith, long, less)
          ]
    ] in
    given (seq == call.seq) refl

-- ---- the calls of a legal history

taken-rise : (u : JudgeContext) (past : Trace) → IsLegalPrefix u past → Rising 0 (length (taken past)) (taken past)
taken-rise u [] prefix = tt
taken-rise u (Took call ∷ past) prefix =
    let long : length (taken past ++ call ∷ []) ≡ length (taken past) + 1 = length-append (taken past) (call ∷ []) in
    subst (λ n. Rising 0 n (taken past ++ call ∷ [])) (sym long)
    (rising-next 0 (length (taken past)) (taken past) call (omega arith) prefix.1.numbered.number (taken-rise u past prefix.0))
taken-rise u (x ∷ past) prefix = taken-rise u past prefix.0

standing-rise : (u : JudgeContext) (past : Trace) → IsLegalPrefix u past → Rising 0 (length (taken past)) (pending_calls past)
standing-rise u past prefix = rising-kept (is_pending past) 0 (length (taken past)) (taken past) (taken-rise u past prefix)

contains-first : (n : ℕ) (ns : List ℕ) (seq : ℕ) → n ≡ seq → Contains (n ∷ ns) seq
contains-first n ns seq same = (0, omega arith, same)

first-there : (calls others : List AcceptedCall) (call : AcceptedCall) → calls ≡ call ∷ others → Contains (numbers_of calls) call.seq
first-there calls others call is = subst (λ (cs : List AcceptedCall). Contains (numbers_of cs) call.seq) (sym is)
    (contains-first call.seq (numbers_of others) call.seq refl)

is-first-there : (calls : List AcceptedCall) (seq : ℕ) → IsOldest calls seq → Contains (numbers_of calls) seq
is-first-there [] seq is = absurd is
is-first-there (call ∷ calls) seq is = contains-first call.seq (numbers_of calls) seq is

-- the number of a refused malformed call
refused-at-once : (copy : TookCopy) (n seq : ℕ) → IsRefusedAtOnce copy n (Refused seq cause.Malformed) → seq ≡ n
refused-at-once (Copy tree) n seq is = absurd is
refused-at-once (Malformed reason place value) n seq is = cc

-- how the pending calls change, by the laws of histories
abbrev pub TakesOne : Type 0
TakesOne = (u : JudgeContext) (past : Trace) (call : AcceptedCall) → IsLegalPrefix u past → call.seq ≡ length (taken past) + 1
    → pending_calls (Took call ∷ past) ≡ pending_calls past ++ call ∷ []

abbrev pub SendsOne : Type 0
SendsOne = (past : Trace) (seq bytes : ℕ) → pending_calls (Sent seq bytes ∷ past) ≡ others_of seq (pending_calls past)

abbrev pub RefusesOne : Type 0
RefusesOne = (past : Trace) (seq : ℕ) (why : Cause)
    → pending_calls (Refused seq why ∷ past) ≡ others_of seq (pending_calls past)

-- a malformed call is pending until it is refused
malformed-stood : (u : JudgeContext) (past : Trace) (seq : ℕ) → TakesOne → IsLegalPrefix u past
    → IsMalformedRefusedAtOnce past (Refused seq cause.Malformed) → Contains (numbers_of (pending_calls past)) seq
malformed-stood u (Took call ∷ past) seq takes prefix is =
    let same : seq ≡ call.seq = refused-at-once call.copy call.seq seq is in
    let is_pending : pending_calls (Took call ∷ past) ≡ pending_calls past ++ call ∷ [] =
    takes u past call prefix.0 prefix.1.numbered.number in
    let last : numbers_of (pending_calls (Took call ∷ past)) ≡ numbers_of (pending_calls past) ++ call.seq ∷ [] =
    ap (λ (cs : List AcceptedCall). numbers_of cs) is_pending ∙ map-append (λ (other : AcceptedCall). other.seq) (pending_calls past) (call ∷ []) in
    subst (λ (ns : List ℕ). Contains ns seq) (sym last)
    (subst (λ n. Contains (numbers_of (pending_calls past) ++ call.seq ∷ []) n) (sym same)
    (Contains-push (numbers_of (pending_calls past)) call.seq))
malformed-stood u past seq takes prefix is = absurd is

-- a refusal is that of a pending call
refused-stood : (u : JudgeContext) (past : Trace) (seq : ℕ) (why : Cause) → TakesOne → IsLegalPrefix u past
    → CanFollow u past (Refused seq why) → Contains (numbers_of (pending_calls past)) seq
refused-stood u past seq cause.Malformed takes prefix may = malformed-stood u past seq takes prefix may.malformed
refused-stood u past seq (cause.Access name version rule) takes prefix may = may.answered.at.is_pending
refused-stood u past seq (cause.Rate name left cost) takes prefix may = may.answered.at.is_pending
refused-stood u past seq (cause.Quota name ticket cap) takes prefix may = may.answered.at.is_pending
refused-stood u past seq cause.Transport takes prefix may = is-first-there (pending_calls past) seq may.link_end.1

sent-stood : (u : JudgeContext) (past : Trace) (seq bytes : ℕ) → CanFollow u past (Sent seq bytes)
    → Contains (numbers_of (pending_calls past)) seq
sent-stood u past seq bytes may =
    let next = may.in_order in
    subst (λ n. Contains (numbers_of (pending_calls past)) n) next.number (first-there (pending_calls past) next.others next.call next.first)

-- ---- one more call, or one less

pub one-taken : (u : JudgeContext) (past : Trace) (call : AcceptedCall) → TakesOne → IsLegalPrefix u (Took call ∷ past)
    → length (pending_calls (Took call ∷ past)) ≡ length (pending_calls past) + 1
one-taken u past call takes prefix =
    ap length (takes u past call prefix.0 prefix.1.numbered.number) ∙ length-append (pending_calls past) (call ∷ [])

pub one-sent : (u : JudgeContext) (past : Trace) (seq bytes : ℕ) → SendsOne → IsLegalPrefix u (Sent seq bytes ∷ past)
    → length (pending_calls (Sent seq bytes ∷ past)) + 1 ≡ length (pending_calls past)
one-sent u past seq bytes sends prefix =
    ap (λ (cs : List AcceptedCall). length cs + 1) (sends past seq bytes)
    ∙ one-gone 0 (length (taken past)) seq (pending_calls past) (standing-rise u past prefix.0) (sent-stood u past seq bytes prefix.1)

pub one-refused : (u : JudgeContext) (past : Trace) (seq : ℕ) (why : Cause) → TakesOne → RefusesOne
    → IsLegalPrefix u (Refused seq why ∷ past) → length (pending_calls (Refused seq why ∷ past)) + 1 ≡ length (pending_calls past)
one-refused u past seq why takes refuses prefix =
    ap (λ (cs : List AcceptedCall). length cs + 1) (refuses past seq why)
    ∙ one-gone 0 (length (taken past)) seq (pending_calls past) (standing-rise u past prefix.0)
    (refused-stood u past seq why takes prefix.0 prefix.1)
