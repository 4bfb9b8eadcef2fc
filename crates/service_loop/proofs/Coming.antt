-- The operations applied, after one more is.
use Rattle.std.proofs.Common.{◌≡◌, ◌⊎◌, inl, inr, ℕ, ◌+◌, ◌<◌, ◌≤◌, Bool, true, false, List, [], ◌∷◌, ◌++◌, length}
use Rattle.std.proofs.Common.{take, drop, refl, ap, sym, ◌∙◌, subst, arith}
use Rattle.std.specs.Prelude.{Option, Some, None}
use Rattle.std.specs.List.{AllZip}
use Rattle.std.proofs.lemmas.Bool.{cases_eq}
use Rattle.engine_core.specs.declared.op.Op.{Op as Step}
use Rattle.call_history.specs.Trace.{Trace, taken}
use Rattle.service_loop.specs.ScheduledOps.{AreCountsAscending, AreApplied, IsApplied, IsInPlace, all_taken, applied_ops}
use Rattle.service_loop.specs.declared.scheduled_op.ScheduledOp.{ScheduledOp}
use Rattle.service_loop.proofs.Lists.{IsAt, zip-push}

pub ascend-lower : (low high : ℕ) (steps : List ScheduledOp) → low ≤ high → AreCountsAscending high steps → AreCountsAscending low steps
ascend-lower low high [] less h = tt
ascend-lower low high (due ∷ steps) less h = (omega (arith, less, h.0), h.1)

all-same : (closed : Bool) (past new : Trace) → taken new ≡ taken past → all_taken closed new ≡ all_taken closed past
all-same false past new same = refl
all-same true past new same = ap (λ calls. Some (length calls)) same

-- the operations applied stay the same if none is applied and no call is taken
pub come-beside : (closed : Bool) (past new : Trace) (steps : List ScheduledOp) → taken new ≡ taken past
    → applied_ops new ≡ applied_ops past → AreApplied (all_taken closed past) past steps
    → AreApplied (all_taken closed new) new steps
come-beside closed past new steps calls came h =
    subst (λ (xs : List (Step × ℕ)). AllZip (IsApplied (all_taken closed new)) xs steps) (sym came)
    (subst (λ (all : Option ℕ). AllZip (IsApplied all) (applied_ops past) steps) (sym (all-same closed past new calls)) h)

-- a call is taken while more may follow
pub come-open : (past new : Trace) (steps : List ScheduledOp) → applied_ops new ≡ applied_ops past
    → AreApplied (all_taken false past) past steps → AreApplied (all_taken false new) new steps
come-open past new steps came h = subst (λ (xs : List (Step × ℕ)). AllZip (IsApplied None) xs steps) (sym came) h

closing : (n : ℕ) (came : List (Step × ℕ)) (steps : List ScheduledOp) → AllZip (IsApplied None) came steps
    → AllZip (IsApplied (Some n)) came steps
closing n [] [] zip = tt
closing n [] (due ∷ steps) zip = absurd zip
closing n (x ∷ came) [] zip = absurd zip
closing n (x ∷ came) (due ∷ steps) zip =
    (record { step = zip.0.step; place = inl zip.0.place }, closing n came steps zip.1)

-- once it is known that no more calls follow
pub come-closing : (past : Trace) (steps : List ScheduledOp) → AreApplied (all_taken false past) past steps
    → AreApplied (all_taken true past) past steps
come-closing past steps h = closing (length (taken past)) (applied_ops past) steps h

in-place : (closed : Bool) (past : Trace) (count accepted : ℕ) → accepted ≡ length (taken past) → accepted ≤ count
    → (closed ≡ true) ⊎ (count ≤ accepted) → IsInPlace (all_taken closed past) count (length (taken past))
in-place false past count accepted is least (inl closed) = absurd cc
in-place false past count accepted is least (inr reached) =
    let e : length (taken past) ≡ count = omega (arith, is, least, reached) in e
in-place true past count accepted is least reached = elim (cases_eq accepted count) [
  | inl same ↦ inl (sym is ∙ same)
  | inr other ↦ inr (refl, (let less : length (taken past) < count = omega (arith, is, least, other) in less))
]

-- the next operation is applied
pub come-next : (closed : Bool) (past new : Trace) (steps : List ScheduledOp) (applied accepted : ℕ) (due : ScheduledOp)
    → taken new ≡ taken past → applied_ops new ≡ applied_ops past ++ (due.step, length (taken past)) ∷ []
    → accepted ≡ length (taken past) → IsAt steps applied due → AreCountsAscending accepted (drop applied steps)
    → (closed ≡ true) ⊎ (due.count ≤ accepted)
    → AreApplied (all_taken closed past) past (take applied steps)
    → AreApplied (all_taken closed new) new (take (applied + 1) steps)
come-next closed past new steps applied accepted due calls came count at left reached h =
    let first : AreCountsAscending accepted (due ∷ drop (applied + 1) steps) = subst (AreCountsAscending accepted) at.from left in
    let place : IsInPlace (all_taken closed past) due.count (length (taken past)) =
    in-place closed past due.count accepted count first.0 reached in
    let zip : AllZip (IsApplied (all_taken closed past)) (applied_ops past ++ (due.step, length (taken past)) ∷ [])
    (take applied steps ++ due ∷ []) =
    zip-push (IsApplied (all_taken closed past)) (applied_ops past) (take applied steps) (due.step, length (taken past)) due h
    (record { step = refl; place = place }) in
    subst (λ (all : Option ℕ). AllZip (IsApplied all) (applied_ops new) (take (applied + 1) steps))
    (sym (all-same closed past new calls))
    (subst (λ (xs : List (Step × ℕ)). AllZip (IsApplied (all_taken closed past)) xs (take (applied + 1) steps)) (sym came)
    (subst (AllZip (IsApplied (all_taken closed past)) (applied_ops past ++ (due.step, length (taken past)) ∷ []))
    (sym at.upto) zip))

-- the remaining operations
pub left-next : (steps : List ScheduledOp) (applied accepted : ℕ) (due : ScheduledOp) → IsAt steps applied due
    → AreCountsAscending accepted (drop applied steps) → AreCountsAscending accepted (drop (applied + 1) steps)
left-next steps applied accepted due at left =
    let first : AreCountsAscending accepted (due ∷ drop (applied + 1) steps) = subst (AreCountsAscending accepted) at.from left in
    ascend-lower accepted due.count (drop (applied + 1) steps) first.0 first.1
