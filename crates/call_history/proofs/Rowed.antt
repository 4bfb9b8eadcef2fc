-- The calls of a connection in a row, each with its position. Numbers increase, positions never do, and every
-- entry before a position lets its call pass.
use Rattle.std.proofs.Common.{◌≡◌, ℕ, ◌<◌, ◌≤◌, true, false, ◌==◌, cond, not, [], ◌∷◌, ◌++◌, length, map, take, inl, inr, sym, subst, arith}
use Rattle.std.specs.Prelude.{All, nat_lt}
use Rattle.std.proofs.lemmas.Bool.{cases_lt, lt-ltb, le-ltb}
use Rattle.std.proofs.lemmas.List.Elements.{All-nil}
use Rattle.call_history.specs.Trace.{Trace, chain}
use Rattle.engine_core.specs.Moves.{Row, restarted, without_call}
use Rattle.call_history.specs.Rules.{JudgeContext, IsAllowedInTrace}

-- a position is legal for the call with this number
pub record StandsAt (u : JudgeContext) (past : Trace) (seq position : ℕ) : Type 0 where
  pub within : position ≤ length (chain past).entries
  pub allowed : All (IsAllowedInTrace u past seq) (take position (chain past).entries)

-- numbers above the first one and up to the second, positions up to the bound
pub record IsPlaced (u : JudgeContext) (past : Trace) (below top bound : ℕ) (call : ℕ × ℕ) : Type 0 where
  pub number : below < call.0
  pub few : call.0 ≤ top
  pub falls : call.1 ≤ bound
  pub stands : StandsAt u past call.0 call.1

abbrev pub IsRow : (u : JudgeContext) (past : Trace) (below top bound : ℕ) → Row → Type 0
IsRow u past below top bound [] = Unit {0}
IsRow u past below top bound (call ∷ row) = IsPlaced u past below top bound call × IsRow u past call.0 top call.1 row

-- position 0 is legal for every call
pub stands-first : (u : JudgeContext) (past : Trace) (seq : ℕ) → StandsAt u past seq 0
stands-first u past seq = record { within = omega arith; allowed = All-nil (IsAllowedInTrace u past seq) }

pub placed-weaker : (u : JudgeContext) (past : Trace) (below under top over bound wide : ℕ) (call : ℕ × ℕ) → under ≤ below → top ≤ over → bound ≤ wide
    → IsPlaced u past below top bound call → IsPlaced u past under over wide call
placed-weaker u past below under top over bound wide call a b c placed =
    record { number = omega (arith, placed.number, a); few = omega (arith, placed.few, b); falls = omega (arith, placed.falls, c); stands = placed.stands }

pub row-weaker : (u : JudgeContext) (past : Trace) (below under top over bound wide : ℕ) (row : Row) → under ≤ below → top ≤ over → bound ≤ wide
    → IsRow u past below top bound row → IsRow u past under over wide row
row-weaker u past below under top over bound wide [] a b c h = tt
row-weaker u past below under top over bound wide (call ∷ row) a b c h =
    (placed-weaker u past below under top over bound wide call a b c h.0, row-weaker u past call.0 call.0 top over call.1 call.1 row (omega arith) b (omega arith) h.1)

-- ---- events that move no call

-- positions that were legal still are, for numbers up to a top
abbrev pub Keeps : (u : JudgeContext) (past new : Trace) (top : ℕ) → Type 0
Keeps u past new top = (seq position : ℕ) → seq ≤ top → StandsAt u past seq position → StandsAt u new seq position

pub row-kept : (u : JudgeContext) (past new : Trace) (below top bound : ℕ) (row : Row) → Keeps u past new top → IsRow u past below top bound row → IsRow u new below top bound row
row-kept u past new below top bound [] keeps h = tt
row-kept u past new below top bound (call ∷ row) keeps h = (
  record { number = h.0.number; few = h.0.few; falls = h.0.falls; stands = keeps call.0 call.1 h.0.few h.0.stands },
  row-kept u past new call.0 top call.1 row keeps h.1,
)

-- a new call at position 0
pub row-more : (u : JudgeContext) (past : Trace) (below top seq bound : ℕ) (row : Row) → top < seq → below < seq
    → IsRow u past below top bound row → IsRow u past below seq bound (row ++ (seq, 0) ∷ [])
row-more u past below top seq bound [] above over h = (record { number = over; few = omega arith; falls = omega arith; stands = stands-first u past seq }, tt)
row-more u past below top seq bound (call ∷ row) above over h = (
  record { number = h.0.number; few = omega (arith, h.0.few, above); falls = h.0.falls; stands = h.0.stands },
  row-more u past call.0 top seq call.1 row above (omega (arith, h.0.few, above)) h.1,
)

-- one call is gone
pub row-without : (u : JudgeContext) (past : Trace) (below top bound seq : ℕ) (row : Row) → IsRow u past below top bound row → IsRow u past below top bound (without_call seq row)
row-without u past below top bound seq [] h = tt
row-without u past below top bound seq (call ∷ row) h =
    let rest : IsRow u past call.0 top call.1 (without_call seq row) = row-without u past call.0 top call.1 seq row h.1 in
    elim (not (seq == call.0)) as (λ b. IsRow u past below top bound (cond b (call ∷ without_call seq row) (without_call seq row))) [
      | true ↦ (h.0, rest)
      | false ↦ row-weaker u past call.0 below top top call.1 bound (without_call seq row) (omega (arith, h.0.number)) (omega arith) (omega (arith, h.0.falls)) rest
    ]

-- ---- events that move calls by their positions

pub row-moved : (u : JudgeContext) (past new : Trace) (f : ℕ → ℕ) (below top bound : ℕ) (row : Row) → ((p q : ℕ) → p ≤ q → f p ≤ f q)
    → ((seq position : ℕ) → StandsAt u past seq position → StandsAt u new seq (f position))
    → IsRow u past below top bound row → IsRow u new below top (f bound) (map (λ call. (call.0, f call.1)) row)
row-moved u past new f below top bound [] rises keeps h = tt
row-moved u past new f below top bound (call ∷ row) rises keeps h = (
  record { number = h.0.number; few = h.0.few; falls = rises call.1 bound h.0.falls; stands = keeps call.0 call.1 h.0.stands },
  row-moved u past new f call.0 top call.1 row rises keeps h.1,
)

-- a call and those with greater numbers start over
begin-later : (u : JudgeContext) (past new : Trace) (seq below top bound : ℕ) (row : Row) → seq ≤ below → IsRow u past below top bound row → IsRow u new below top 0 (restarted seq row)
begin-later u past new seq below top bound [] later h = tt
begin-later u past new seq below top bound (call ∷ row) later h =
    let rest : IsRow u new call.0 top 0 (restarted seq row) = begin-later u past new seq call.0 top call.1 row (omega (arith, later, h.0.number)) h.1 in
    let back : nat_lt call.0 seq ≡ false = le-ltb call.0 seq (omega (arith, later, h.0.number)) in
    subst (λ b. IsRow u new below top 0 ((call.0, cond b call.1 0) ∷ restarted seq row)) (sym back)
    (record { number = h.0.number; few = h.0.few; falls = omega arith; stands = stands-first u new call.0 }, rest)

pub row-begins : (u : JudgeContext) (past new : Trace) (seq below top bound : ℕ) (row : Row)
    → ((s position : ℕ) → s < seq → StandsAt u past s position → StandsAt u new s position)
    → IsRow u past below top bound row → IsRow u new below top bound (restarted seq row)
row-begins u past new seq below top bound [] keeps h = tt
row-begins u past new seq below top bound (call ∷ row) keeps h = elim (cases_lt call.0 seq) [
  | inl less ↦ subst (λ b. IsRow u new below top bound ((call.0, cond b call.1 0) ∷ restarted seq row)) (sym (lt-ltb call.0 seq less)) (
    record { number = h.0.number; few = h.0.few; falls = h.0.falls; stands = keeps call.0 call.1 less h.0.stands },
    row-begins u past new seq call.0 top call.1 row keeps h.1,
  )
  | inr more ↦ subst (λ b. IsRow u new below top bound ((call.0, cond b call.1 0) ∷ restarted seq row)) (sym (le-ltb call.0 seq more)) (
    record { number = h.0.number; few = h.0.few; falls = omega arith; stands = stands-first u new call.0 },
    begin-later u past new seq call.0 top call.1 row more h.1,
  )
]
