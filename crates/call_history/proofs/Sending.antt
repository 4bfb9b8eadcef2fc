-- The oldest pending call is sent.
use Rattle.std.proofs.Common.{◌≡◌, ℕ, ◌==◌, not, cond, Bool, false, true, List, [], ◌∷◌, length, map, take, refl, sym, ap, ◌∙◌, subst, arith}
use Rattle.std.specs.Prelude.{All, Contains, Some}
use Rattle.std.proofs.lemmas.Bool.{eqb-false}
use Rattle.engine_core.specs.Chains.{Entry}
use Rattle.call_history.specs.Trace.{Trace, chain, taken, pending_calls}
use Rattle.call_history.specs.Transitions.{ConnState, IsReady}
use Rattle.engine_core.specs.Moves.{Row, first_at, without_call}
use Rattle.call_history.specs.Rules.{JudgeContext, IsAllowedInTrace, IsSentNext}
use Rattle.call_history.specs.declared.happening.Happening.TheVariants.{Sent}
use Rattle.call_history.specs.declared.happening.AcceptedCall.{AcceptedCall}
use Rattle.call_history.proofs.Further.{found}
use Rattle.call_history.proofs.Going.{IsOpen, may-send}
use Rattle.call_history.proofs.Holding.{Holds, stands-still, works-running, works-on, contains-kept}
use Rattle.call_history.proofs.Looking.{lets-still}
use Rattle.call_history.proofs.Rowed.{IsRow, row-kept, row-without}
use Rattle.call_history.proofs.Standing.{standing-sent, others_of, calls-without, map-filter}

-- a call that is pending after the fate of another was pending before
pub stood-before : (calls : List AcceptedCall) (seq s : ℕ) → Contains (map (λ call. call.seq) (others_of seq calls)) s → Contains (map (λ call. call.seq) calls) s
stood-before calls seq s has = contains-kept (λ n. not (seq == n)) (map (λ call. call.seq) calls) s
    (subst (λ (ns : List ℕ). Contains ns s) (map-filter (λ (call : AcceptedCall). call.seq) (λ n. not (seq == n)) calls) has)

-- ---- the call at the end of the chain is the oldest pending one

record IsHeadOf (row : Row) (calls : List AcceptedCall) (seq : ℕ) : Type 0 where
  call : AcceptedCall
  others : List AcceptedCall
  first : calls ≡ call ∷ others
  number : call.seq ≡ seq

-- the first call at the bound is the first of the row
head-of : (u : JudgeContext) (past : Trace) (below top bound : ℕ) (row : Row) (calls : List AcceptedCall) (call : ℕ × ℕ) → IsRow u past below top bound row → first_at bound row ≡ Some call
    → map (λ other. other.0) row ≡ map (λ other. other.seq) calls → IsHeadOf row calls call.0
head-of u past below top bound [] calls call h is same = absurd cc
head-of u past below top bound (x ∷ row) [] call h is same = absurd cc
head-of u past below top bound (x ∷ row) (y ∷ calls) call h is same =
    let number : x.0 ≡ y.seq = cc in
    let given : (b : Bool) → (x.1 == bound) ≡ b → cond b (Some x) (first_at bound row) ≡ Some call
    → IsHeadOf (x ∷ row) (y ∷ calls) call.0 = λ b. elim b as (λ b. (x.1 == bound) ≡ b
    → cond b (Some x) (first_at bound row) ≡ Some call → IsHeadOf (x ∷ row) (y ∷ calls) call.0) [
      | true ↦ λ test first. (let here : x ≡ call = cc in record { call = y; others = calls; first = refl; number = sym number ∙ ap (λ (z : ℕ × ℕ). z.0) here })
      | false ↦ λ test first.
          let rest = found u past x.0 top x.1 bound row call first h.1 in
          absurd (eqb-false x.1 bound test (omega (arith, rest.at, rest.placed.falls, h.0.falls)))
    ] in
    given (x.1 == bound) refl is

take-whole : {X : Type 0} (xs : List X) → take (length xs) xs ≡ xs
take-whole [] = refl
take-whole {X} (x ∷ xs) = ap (λ (ys : List X). x ∷ ys) (take-whole xs)

sent-next : (u : JudgeContext) (c : ConnState) (seq bytes : ℕ) → Holds u c → IsReady u c seq bytes → IsSentNext u c.past seq bytes
sent-next u c seq bytes h ready =
    let end : ℕ = length (chain c.past).entries in
    let head : IsHeadOf c.row (pending_calls c.past) seq =
    head-of u c.past 0 (length (taken c.past)) (length (chain c.past).entries) c.row (pending_calls c.past) (
      seq,
      length (chain c.past).entries,
    ) h.row ready.first h.calls in
    let call = found u c.past 0 (length (taken c.past)) (length (chain c.past).entries) (length (chain c.past).entries) c.row (seq, length (chain c.past).entries) ready.first h.row in
    record {
      call = head.call;
      others = head.others;
      first = head.first;
      number = head.number;
      allowed = subst (λ (es : List Entry). All (IsAllowedInTrace u c.past seq) es) (take-whole (chain c.past).entries) call.placed.stands.allowed;
      sent = ready.sent;
      is_form = ready.is_form;
      long = ready.long;
    }

pub sent : (u : JudgeContext) (c : ConnState) (seq bytes : ℕ) → Holds u c → c.ended ≡ false → IsReady u c seq bytes
    → Holds u (record c { past = Sent seq bytes ∷ c.past; row = without_call seq c.row })
sent u c seq bytes h running ready =
    let next : IsSentNext u c.past seq bytes = sent-next u c seq bytes h ready in
    let free : IsOpen c.past = works-running u c h running in
    let new : Trace = Sent seq bytes ∷ c.past in
    record {
      prefix = (h.prefix, may-send u c.past seq bytes free next);
      settled = record { malformed = λ awaits. awaits; quota = λ awaits. awaits; link = works-on new free.works };
      row = row-without u new 0 (length (taken c.past)) (length (chain c.past).entries) seq c.row
          (row-kept u c.past new 0 (length (taken c.past)) (length (chain c.past).entries) c.row
          (λ s position few. stands-still u c.past new s position refl (λ e. lets-still u c.past new s e refl refl)) h.row);
      calls = calls-without seq c.row (pending_calls c.past) h.calls ∙ ap (map (λ (call : AcceptedCall). call.seq)) (sym (standing-sent c.past seq bytes));
      notes_ascend = λ name s stands none. h.notes_ascend name s
          (stood-before (pending_calls c.past) seq s (subst (λ (calls : List AcceptedCall). Contains (map (λ call. call.seq) calls) s) (standing-sent c.past seq bytes) stands)) none;
      failed = h.failed;
      none_left = λ ended. (let wrong : false ≡ true = sym running ∙ ended in absurd cc);
    }
