-- The numbers of accepted calls.
use Rattle.std.proofs.Common.{◌≡◌, ℕ, ◌+◌, ◌<◌, ◌≤◌, List, [], ◌∷◌, ◌++◌, length, sym, subst, arith}
use Rattle.std.specs.Prelude.{All}
use Rattle.std.proofs.lemmas.List.Elements.{All-nil, All-cons, All-weaker}
use Rattle.call_history.specs.Trace.{Trace, taken}
use Rattle.call_history.specs.Legal.{IsLegalPrefix}
use Rattle.call_history.specs.Rules.{JudgeContext}
use Rattle.call_history.specs.declared.happening.Happening.TheVariants.{Took}
use Rattle.call_history.specs.declared.happening.AcceptedCall.{AcceptedCall}

-- calls are numbered consecutively, after this number
abbrev pub Numbered : ℕ → List AcceptedCall → Type 0
Numbered last [] = Unit {0}
Numbered last (call ∷ calls) = (call.seq ≡ last + 1) × Numbered (last + 1) calls

numbered-more : (last : ℕ) (calls : List AcceptedCall) (call : AcceptedCall) → Numbered last calls
    → call.seq ≡ (last + length calls) + 1 → Numbered last (calls ++ call ∷ [])
numbered-more last [] call h next = (omega (arith, next), tt)
numbered-more last (first ∷ calls) call h next =
    let further : call.seq ≡ ((last + 1) + length calls) + 1 = omega (arith, next) in
    (h.0, numbered-more (last + 1) calls call h.1 further)

pub numbered : (u : JudgeContext) (past : Trace) → IsLegalPrefix u past → Numbered 0 (taken past)
numbered u [] prefix = tt
numbered u (Took call ∷ past) prefix =
    numbered-more 0 (taken past) call (numbered u past prefix.0)
    (let next : call.seq ≡ length (taken past) + 1 = prefix.1.numbered.number in omega (arith, next))
numbered u (x ∷ past) prefix = numbered u past prefix.0

above : (last : ℕ) (calls : List AcceptedCall) → Numbered last calls → All (λ c. last < c.seq) calls
above last [] h = All-nil (λ (c : AcceptedCall). last < c.seq)
above last (call ∷ calls) h =
    All-cons (λ (c : AcceptedCall). last < c.seq) call calls (omega (arith, h.0))
    (All-weaker (λ (c : AcceptedCall). last + 1 < c.seq) (λ (c : AcceptedCall). last < c.seq) (λ c less. omega (arith, less)) calls
    (above (last + 1) calls h.1))

-- the calls after one have greater numbers
pub greater-behind : (last : ℕ) (front back : List AcceptedCall) (call : AcceptedCall) → Numbered last (front ++ call ∷ back)
    → All (λ c. call.seq < c.seq) back
greater-behind last [] back call h =
    subst (λ (n : ℕ). All (λ (c : AcceptedCall). n < c.seq) back) (sym h.0) (above (last + 1) back h.1)
greater-behind last (x ∷ front) back call h = greater-behind (last + 1) front back call h.1

-- no number is greater than this number plus the count of calls
pub few-numbers : (last : ℕ) (calls : List AcceptedCall) → Numbered last calls → All (λ c. c.seq ≤ last + length calls) calls
few-numbers last [] h = All-nil (λ (c : AcceptedCall). c.seq ≤ last + length {A = AcceptedCall} [])
few-numbers last (call ∷ calls) h =
    All-cons (λ (c : AcceptedCall). c.seq ≤ last + length (call ∷ calls)) call calls (omega (arith, h.0))
    (All-weaker (λ (c : AcceptedCall). c.seq ≤ (last + 1) + length calls) (λ (c : AcceptedCall). c.seq ≤ last + length (call ∷ calls))
    (λ c less. omega (arith, less)) calls (few-numbers (last + 1) calls h.1))
