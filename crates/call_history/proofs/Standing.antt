-- The pending calls after one more event.
use Rattle.std.proofs.Common.{◌≡◌, ℕ, ◌+◌, Bool, true, false, ◌||◌, ◌==◌, cond, not, List, [], ◌∷◌, ◌++◌, length, map, refl, sym, ap, ◌∙◌, arith}
use Rattle.std.specs.Prelude.{filter}
use Rattle.std.specs.List.{list_any}
use Rattle.std.proofs.lemmas.List.Elements.{filter-append}
use Rattle.call_history.specs.Trace.{Trace, taken, is_fate_of, is_pending, pending_calls}
use Rattle.engine_core.specs.Moves.{Row, without_call}
use Rattle.call_history.specs.Legal.{IsLegalPrefix}
use Rattle.call_history.specs.Rules.{JudgeContext}
use Rattle.call_history.specs.declared.happening.Cause.{Cause}
use Rattle.call_history.specs.declared.happening.Happening.TheVariants.{Took, Sent, Refused}
use Rattle.call_history.specs.declared.happening.AcceptedCall.{AcceptedCall}
use Rattle.call_history.proofs.Prefixes.{fateless}

-- dropping what passes either of two tests is dropping by one, then by the other
filter-both : {A : Type 0} (p q : A → Bool) (xs : List A) → filter (λ x. not (p x || q x)) xs ≡ filter (λ x. not (p x)) (filter (λ x. not (q x)) xs)
filter-both p q [] = refl
filter-both {A} p q (x ∷ xs) =
    let kept : List A = filter (λ y. not (q y)) xs in
    let rest : filter (λ y. not (p y || q y)) xs ≡ filter (λ y. not (p y)) kept = filter-both p q xs in
    let both : List A = filter (λ y. not (p y || q y)) xs in
    let last : List A = filter (λ y. not (p y)) kept in
    elim (q x) as (λ b. cond (not (p x || b)) (x ∷ both) both ≡ filter (λ y. not (p y)) (cond (not b) (x ∷ kept) kept)) [
      | true ↦ elim (p x) as (λ b. cond (not (b || true)) (x ∷ both) both ≡ last) [ true ↦ rest | false ↦ rest ]
      | false ↦ elim (p x) as (λ b. cond (not (b || false)) (x ∷ both) both ≡ cond (not b) (x ∷ last) last) [ true ↦ rest | false ↦ ap (λ ys. x ∷ ys) rest ]
    ]

pub map-filter : {A B : Type 0} (f : A → B) (p : B → Bool) (xs : List A) → map f (filter (λ x. p (f x)) xs) ≡ filter p (map f xs)
map-filter f p [] = refl
map-filter {A} {B} f p (x ∷ xs) =
    elim (p (f x)) as (λ b. map f (cond b (x ∷ filter (λ y. p (f y)) xs) (filter (λ y. p (f y)) xs)) ≡ cond b (f x ∷ filter p (map f xs)) (filter p (map f xs)))
    [ true ↦ ap (λ ys. f x ∷ ys) (map-filter f p xs) | false ↦ map-filter f p xs ]

-- ---- acceptance

pub standing-took : (u : JudgeContext) (past : Trace) (call : AcceptedCall) → IsLegalPrefix u past → call.seq ≡ length (taken past) + 1 → pending_calls (Took call ∷ past) ≡ pending_calls past ++ call ∷ []
standing-took u past call prefix next =
    filter-append (is_pending past) (taken past) (call ∷ [])
    ∙ ap (λ b. pending_calls past ++ cond (not b) (call ∷ []) []) (fateless u past call.seq prefix (omega (arith, next)))

-- ---- fates

-- the calls without the one with this number
abbrev pub others_of : ℕ → List AcceptedCall → List AcceptedCall
others_of seq calls = filter (λ call. not (seq == call.seq)) calls

pub standing-sent : (past : Trace) (seq bytes : ℕ) → pending_calls (Sent seq bytes ∷ past) ≡ others_of seq (pending_calls past)
standing-sent past seq bytes = filter-both (λ call. seq == call.seq) (λ call. list_any (is_fate_of call.seq) past) (taken past)

pub standing-refused : (past : Trace) (seq : ℕ) (why : Cause) → pending_calls (Refused seq why ∷ past) ≡ others_of seq (pending_calls past)
standing-refused past seq why = filter-both (λ call. seq == call.seq) (λ call. list_any (is_fate_of call.seq) past) (taken past)

-- a row and the pending calls lose the same call
pub calls-without : (seq : ℕ) (row : Row) (calls : List AcceptedCall) → map (λ call. call.0) row ≡ map (λ call. call.seq) calls
    → map (λ call. call.0) (without_call seq row) ≡ map (λ call. call.seq) (others_of seq calls)
calls-without seq row calls same =
    map-filter (λ (call : ℕ × ℕ). call.0) (λ n. not (seq == n)) row
    ∙ ap (filter (λ n. not (seq == n))) same
    ∙ sym (map-filter (λ (call : AcceptedCall). call.seq) (λ n. not (seq == n)) calls)
