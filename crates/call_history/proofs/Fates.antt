-- Each call has at most one fate, and calls are sent in the order of their numbers.
use Rattle.std.proofs.Common.{◌≡◌, ℕ, ◌+◌, ◌<◌, ◌≤◌, ◌==◌, Bool, true, false, cond, not, inl, inr, List, [], ◌∷◌}
use Rattle.std.proofs.Common.{◌++◌, length, map, refl, sym, ap, ◌∙◌, subst, arith, append_assoc}
use Rattle.std.specs.Prelude.{All, Contains, filter, count_by}
use Rattle.std.specs.List.{list_any}
use Rattle.std.proofs.lemmas.Bool.{eq-eqb, eqb-true, not-true, or_parts, or_cases, or_left, or_right, cases_lt, false≢true}
use Rattle.std.proofs.lemmas.List.{map-append}
use Rattle.std.proofs.lemmas.List.Elements.{All-nil, All-cons, All-push, All-filter, All-contains}
use Rattle.std.proofs.lemmas.List.Sums.{sum_by-cons}
use Rattle.call_history.specs.Trace.{Trace, taken, is_fate_of, is_pending, pending_calls}
use Rattle.call_history.specs.Legal.{IsLegalPrefix}
use Rattle.call_history.specs.Rules.{JudgeContext, CanFollow, IsOldest, IsSentNext, IsMalformedRefusedAtOnce}
use Rattle.call_history.specs.declared.happening.Cause.{Cause}
use Rattle.call_history.specs.declared.happening.Cause.TheVariants as cause
use Rattle.call_history.specs.declared.happening.Happening.{Happening}
use Rattle.call_history.specs.declared.happening.Happening.TheVariants.{Took, Sent, Refused}
use Rattle.call_history.specs.declared.happening.AcceptedCall.{AcceptedCall}
use Rattle.call_history.proofs.Failing.{without-first}
use Rattle.call_history.proofs.Further.{contains-cases, contains-first}
use Rattle.call_history.proofs.Prefixes.{Rising, rising, refused-at-once, fateless}
use Rattle.call_history.proofs.Standing.{standing-took, standing-sent, standing-refused, others_of, map-filter}

-- ---- a pending call has no fate

unfated-among : (past : Trace) (calls : List AcceptedCall) (seq : ℕ) → Contains (map (λ call. call.seq) (filter (is_pending past) calls)) seq → list_any (is_fate_of seq) past ≡ false
unfated-among past [] seq has = absurd (omega (arith, has.1))
unfated-among past (call ∷ calls) seq has =
    let given : (b : Bool) → is_pending past call ≡ b
    → Contains (map (λ other. other.seq)
    (cond b (call ∷ filter (is_pending past) calls) (filter (is_pending past) calls))) seq
    → list_any (is_fate_of seq) past ≡ false = λ b. elim b as (λ b. is_pending past call ≡ b
    → Contains (map (λ other. other.seq)
    (cond b (call ∷ filter (is_pending past) calls) (filter (is_pending past) calls))) seq
    → list_any (is_fate_of seq) past ≡ false) [
      | true ↦ λ test has. elim (contains-cases call.seq (map (λ other. other.seq) (filter (is_pending past) calls)) seq has) [
        | inl same ↦ subst (λ n. list_any (is_fate_of n) past ≡ false) same (not-true (list_any (is_fate_of call.seq) past) test)
        | inr rest ↦ unfated-among past calls seq rest
      ]
      | false ↦ λ test has. unfated-among past calls seq has
    ] in
    given (is_pending past call) refl has

pub unfated : (past : Trace) (seq : ℕ) → Contains (map (λ call. call.seq) (pending_calls past)) seq → list_any (is_fate_of seq) past ≡ false
unfated past seq has = unfated-among past (taken past) seq has

first-there : (calls others : List AcceptedCall) (call : AcceptedCall) → calls ≡ call ∷ others → Contains (map (λ other. other.seq) calls) call.seq
first-there calls others call is = subst (λ (cs : List AcceptedCall). Contains (map (λ other. other.seq) cs) call.seq)
    (sym is) (contains-first call.seq (map (λ other. other.seq) others) call.seq refl)

is-first-there : (calls : List AcceptedCall) (seq : ℕ) → IsOldest calls seq → Contains (map (λ other. other.seq) calls) seq
is-first-there [] seq is = absurd is
is-first-there (call ∷ calls) seq is = contains-first call.seq (map (λ other. other.seq) calls) seq is

malformed-fateless : (u : JudgeContext) (past : Trace) (seq : ℕ) → IsLegalPrefix u past → IsMalformedRefusedAtOnce past (Refused seq cause.Malformed) → list_any (is_fate_of seq) past ≡ false
malformed-fateless u (Took call ∷ past) seq prefix is =
    let same : seq ≡ call.seq = refused-at-once call.copy call.seq seq is in
    let next : call.seq ≡ length (taken past) + 1 = prefix.1.numbered.number in
    fateless u past seq prefix.0 (omega (arith, same, next))
malformed-fateless u past seq prefix is = absurd is

-- so a fate is the first one
pub refused-first : (u : JudgeContext) (past : Trace) (seq : ℕ) (why : Cause) → IsLegalPrefix u past → CanFollow u past (Refused seq why) → list_any (is_fate_of seq) past ≡ false
refused-first u past seq cause.Malformed prefix may = malformed-fateless u past seq prefix may.malformed
refused-first u past seq (cause.Access name version rule) prefix may = unfated past seq may.answered.at.is_pending
refused-first u past seq (cause.Rate name left cost) prefix may = unfated past seq may.answered.at.is_pending
refused-first u past seq (cause.Quota name ticket cap) prefix may = unfated past seq may.answered.at.is_pending
refused-first u past seq cause.Transport prefix may = unfated past seq (is-first-there (pending_calls past) seq may.link_end.1)

pub sent-stood : (u : JudgeContext) (past : Trace) (seq bytes : ℕ) → IsSentNext u past seq bytes → Contains (map (λ call. call.seq) (pending_calls past)) seq
sent-stood u past seq bytes next =
    subst (λ n. Contains (map (λ (call : AcceptedCall). call.seq) (pending_calls past)) n) next.number (first-there (pending_calls past) next.others next.call next.first)

-- ---- at most one fate

none-counted : (seq : ℕ) (past : Trace) → list_any (is_fate_of seq) past ≡ false → count_by (is_fate_of seq) past ≡ 0
none-counted seq [] none = refl
none-counted seq (x ∷ past) none =
    let parts = or_parts (is_fate_of seq x) (list_any (is_fate_of seq) past) none in
    let same : count_by (is_fate_of seq) (x ∷ past) ≡ 0 + count_by (is_fate_of seq) past =
    sum_by-cons (λ y. cond (is_fate_of seq y) 1 0) x past ∙ ap (λ b. cond b 1 0 + count_by (is_fate_of seq) past)
    parts.0 in
    omega (arith, same, none-counted seq past parts.1)

fate-first : (u : JudgeContext) (past : Trace) (seq : ℕ) (x : Happening) → IsLegalPrefix u past → CanFollow u past x → is_fate_of seq x ≡ true → list_any (is_fate_of seq) past ≡ false
fate-first u past seq (Sent call bytes) prefix may is =
    subst (λ n. list_any (is_fate_of n) past ≡ false) (eqb-true call seq is) (unfated past call (sent-stood u past call bytes may.in_order))
fate-first u past seq (Refused call why) prefix may is = subst (λ n. list_any (is_fate_of n) past ≡ false) (eqb-true call seq is) (refused-first u past call why prefix may)
fate-first u past seq x prefix may is = absurd (false≢true is)

pub one_at_most : (u : JudgeContext) (past : Trace) (seq : ℕ) → IsLegalPrefix u past → count_by (is_fate_of seq) past ≤ 1
one_at_most u [] seq prefix = omega arith
one_at_most u (x ∷ past) seq prefix =
    let given : (b : Bool) → is_fate_of seq x ≡ b → count_by (is_fate_of seq) (x ∷ past) ≤ 1 =
    λ b. elim b as (λ b. is_fate_of seq x ≡ b → count_by (is_fate_of seq) (x ∷ past) ≤ 1) [
      | true ↦ λ is.
          let more : count_by (is_fate_of seq) (x ∷ past) ≡ 1 + count_by (is_fate_of seq) past =
          sum_by-cons (λ y. cond (is_fate_of seq y) 1 0) x past
          ∙ ap (λ b. cond b 1 0 + count_by (is_fate_of seq) past) is in
          omega (arith, more, none-counted seq past (fate-first u past seq x prefix.0 prefix.1 is))
      | false ↦ λ is.
          let same : count_by (is_fate_of seq) (x ∷ past) ≡ 0 + count_by (is_fate_of seq) past =
          sum_by-cons (λ y. cond (is_fate_of seq y) 1 0) x past
          ∙ ap (λ b. cond b 1 0 + count_by (is_fate_of seq) past) is in
          omega (arith, same, one_at_most u past seq prefix.0)
    ] in
    given (is_fate_of seq x) refl

-- only accepted calls have a fate
pub fate-of-taken : (u : JudgeContext) (past : Trace) (seq : ℕ) → IsLegalPrefix u past → list_any (is_fate_of seq) past ≡ true → seq ≤ length (taken past)
fate-of-taken u past seq prefix fate = elim (cases_lt (length (taken past)) seq) [
  | inl more ↦ absurd (false≢true (sym (fateless u past seq prefix more) ∙ fate))
  | inr few ↦ few
]

-- ---- calls are sent in order

is_sent : ℕ → Happening → Bool
is_sent seq (Sent call bytes) = call == seq
is_sent seq x = false

sent-fate : (seq : ℕ) (past : Trace) → list_any (is_sent seq) past ≡ true → list_any (is_fate_of seq) past ≡ true
unfolding is_sent
sent-fate seq [] is = is
sent-fate seq (Sent call bytes ∷ past) is = elim (or_cases (call == seq) (list_any (is_sent seq) past) is) [
  | inl here ↦ or_left (call == seq) (list_any (is_fate_of seq) past) here
  | inr rest ↦ or_right (call == seq) (list_any (is_fate_of seq) past) (sent-fate seq past rest)
]
sent-fate seq (Refused call why ∷ past) is = or_right (call == seq) (list_any (is_fate_of seq) past) (sent-fate seq past is)
sent-fate seq (x ∷ past) is = sent-fate seq past is

numbers-left : (P : ℕ → Type 0) (seq : ℕ) (calls : List AcceptedCall) → All P (map (λ call. call.seq) calls) → All P (map (λ call. call.seq) (others_of seq calls))
numbers-left P seq calls all =
    subst (λ (ns : List ℕ). All P ns) (sym (map-filter (λ (call : AcceptedCall). call.seq) (λ n. not (seq == n)) calls))
    (All-filter (λ n. not (seq == n)) P (map (λ call. call.seq) calls) all)

all-above : (below top low : ℕ) (calls : List AcceptedCall) → low ≤ below → Rising below top calls → All (λ n. low < n) (map (λ call. call.seq) calls)
all-above below top low [] le h = All-nil (λ n. low < n)
all-above below top low (call ∷ calls) le h = All-cons (λ n. low < n) call.seq (map (λ other. other.seq) calls)
    (omega (arith, le, h.0)) (all-above call.seq top low calls (omega (arith, le, h.0)) h.2)

-- after a send, only calls with greater numbers are pending
later : (u : JudgeContext) (past : Trace) (m : ℕ) → IsLegalPrefix u past → list_any (is_sent m) past ≡ true → All (λ n. m < n) (map (λ call. call.seq) (pending_calls past))
unfolding is_sent
later u [] m prefix is = absurd (false≢true is)
later u (Took call ∷ past) m prefix is =
    let before : All (λ n. m < n) (map (λ other. other.seq) (pending_calls past)) = later u past m prefix.0 is in
    let next : call.seq ≡ length (taken past) + 1 = prefix.1.numbered.number in
    let few : m ≤ length (taken past) = fate-of-taken u past m prefix.0 (sent-fate m past is) in
    subst (λ (ns : List ℕ). All (λ n. m < n) ns)
    (sym (map-append (λ (other : AcceptedCall). other.seq) (pending_calls past) (call ∷ [])) ∙ ap (map (λ (other : AcceptedCall). other.seq)) (sym (standing-took u past call prefix.0 next)))
    (All-push (λ n. m < n) (map (λ other. other.seq) (pending_calls past)) call.seq before (omega (arith, next, few)))
later u (Sent call bytes ∷ past) m prefix is = subst (λ (calls : List AcceptedCall). All (λ n. m < n) (map (λ other. other.seq) calls)) (sym (standing-sent past call bytes)) (
    elim (or_cases (call == m) (list_any (is_sent m) past) is) [
      | inl here ↦ (
          let next : IsSentNext u past call bytes = prefix.1.in_order in
          let number : next.call.seq ≡ m = next.number ∙ eqb-true call m here in
          let rises : Rising 0 (length (taken past)) (next.call ∷ next.others) = subst (Rising 0 (length (taken past))) next.first (rising u past prefix.0) in
          let others : others_of call (pending_calls past) ≡ next.others =
          ap (λ n. others_of n (pending_calls past)) (sym next.number) ∙ ap (others_of next.call.seq) next.first ∙ without-first (length (taken past)) next.call next.others rises in
          subst (λ (calls : List AcceptedCall). All (λ n. m < n) (map (λ other. other.seq) calls)) (sym others)
          (all-above next.call.seq (length (taken past)) m next.others (omega (arith, number)) rises.2)
          )
      | inr rest ↦ numbers-left (λ n. m < n) call (pending_calls past) (later u past m prefix.0 rest)
    ]
    )
later u (Refused call why ∷ past) m prefix is = subst (λ (calls : List AcceptedCall). All (λ n. m < n) (map (λ other. other.seq) calls)) (sym (standing-refused past call why))
    (numbers-left (λ n. m < n) call (pending_calls past) (later u past m prefix.0 is))
later u (x ∷ past) m prefix is = later u past m prefix.0 is

was-sent : (m a : ℕ) (between past : Trace) → list_any (is_sent m) (between ++ Sent m a ∷ past) ≡ true
unfolding is_sent
was-sent m a [] past = or_left (m == m) (list_any (is_sent m) past) (eq-eqb m m refl)
was-sent m a (x ∷ between) past = or_right (is_sent m x) (list_any (is_sent m) (between ++ Sent m a ∷ past)) (was-sent m a between past)

pub earlier-prefix : (u : JudgeContext) (front past : Trace) → IsLegalPrefix u (front ++ past) → IsLegalPrefix u past
earlier-prefix u [] past prefix = prefix
earlier-prefix u (x ∷ front) past prefix = earlier-prefix u front past prefix.0

pub ascend : (u : JudgeContext) (m n a b : ℕ) (front between past : Trace) → IsLegalPrefix u (front ++ Sent n b ∷ between ++ Sent m a ∷ past) → m < n
ascend u m n a b front between past whole =
    let prefix : IsLegalPrefix u (front ++ (Sent n b ∷ (between ++ Sent m a ∷ past))) = subst (IsLegalPrefix u) (append_assoc front (Sent n b ∷ between) (Sent m a ∷ past)) whole in
    let here : IsLegalPrefix u (between ++ Sent m a ∷ past) × CanFollow u (between ++ Sent m a ∷ past) (Sent n b) =
    (let both = earlier-prefix u front (Sent n b ∷ (between ++ Sent m a ∷ past)) prefix in (both.0, both.1)) in
    All-contains (λ k. m < k) (map (λ call. call.seq) (pending_calls (between ++ Sent m a ∷ past))) n (later u (between ++ Sent m a ∷ past) m here.0 (was-sent m a between past))
    (sent-stood u (between ++ Sent m a ∷ past) n b here.1.in_order)
