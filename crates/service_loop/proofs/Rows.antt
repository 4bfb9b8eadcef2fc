-- The definitions on small histories.
use Rattle.std.proofs.Common.{◌≡◌, inr, [], ◌∷◌, refl, arith}
use Rattle.std.specs.Prelude.{Some, None}
use Rattle.engine_core.specs.declared.op.Op.{Op as Step}
use Rattle.call_history.specs.declared.happening.Happening.TheVariants.{Away, Moment, Op, Took}
use Rattle.call_history.specs.declared.happening.AcceptedCall.{AcceptedCall}
use Rattle.service_loop.specs.Calls.{timestamps_at_calls, timestamps_in, rejected_count}
use Rattle.service_loop.specs.ScheduledOps.{AreCountsAscending, IsInPlace, applied_ops}

-- an operation before the first call and one after it
steps-row : (first second : Step) (call : AcceptedCall)
    → applied_ops (Op second ∷ Took call ∷ Op first ∷ []) ≡ (first, 0) ∷ (second, 1) ∷ []
steps-row first second call = refl

-- two calls at one timestamp, and one at the next
moments-row : (a b c : AcceptedCall)
    → timestamps_in (Took c ∷ Moment 7 ∷ Took b ∷ Took a ∷ Moment 3 ∷ []) ≡ 3 ∷ 7 ∷ []
moments-row a b c = refl

calls-row : (a b c : AcceptedCall)
    → timestamps_at_calls (Took c ∷ Moment 7 ∷ Took b ∷ Took a ∷ Moment 3 ∷ []) ≡ 3 ∷ 3 ∷ 7 ∷ []
calls-row a b c = refl

away-row : rejected_count (Away 0 0 4 ∷ Moment 3 ∷ Away 0 0 8 ∷ []) ≡ 2
away-row = refl

-- an operation with count 5 after one call: not while more calls may follow, but if there is only one
early-row : IsInPlace None 5 1 → ⊥
early-row is = absurd (omega (arith, is))

late-row : IsInPlace (Some 1) 5 1
late-row = inr (refl, omega arith)

-- counts may stay equal and rise
ascend-row : (a b c : Step) → AreCountsAscending 0 (record { count = 2; step = a } ∷ record { count = 2; step = b }
    ∷ record { count = 3; step = c } ∷ [])
ascend-row a b c = (omega arith, (omega arith, (omega arith, tt)))
