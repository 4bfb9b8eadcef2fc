-- Legal positions of the pending calls, and the row of those calls.
use Rattle.std.proofs.Common.{◌≡◌, ℕ, ◌≤◌, zero, suc, List, [], ◌∷◌, map, refl, sym, subst, arith}
use Rattle.std.specs.Prelude.{slice_get, Some}
use Rattle.std.specs.List.{AllZip}
use Rattle.call_history.specs.Trace.{Trace, pending_calls}
use Rattle.engine_core.specs.Moves.{Row}
use Rattle.call_history.specs.Positions.{AreNonIncreasing, IsLegalPosition, AreLegalPositions}
use Rattle.call_history.specs.Rules.{JudgeContext}
use Rattle.call_history.specs.declared.happening.AcceptedCall.{AcceptedCall}
use Rattle.call_history.proofs.Prefixes.{Rising}
use Rattle.call_history.proofs.Rowed.{StandsAt, IsRow}

-- ---- from positions to the row

pub row-from : (u : JudgeContext) (past : Trace) (below top bound : ℕ) (row : Row) (calls : List AcceptedCall) → map (λ call. call.0) row ≡ map (λ call. call.seq) calls
    → AllZip (IsLegalPosition u past) calls (map (λ call. call.1) row) → AreNonIncreasing (map (λ call. call.1) row)
    → ((p : ℕ) → slice_get (map (λ call. call.1) row) 0 ≡ Some p → p ≤ bound) → Rising below top calls → IsRow u past below top bound row
row-from u past below top bound [] calls same each falls first rises = tt
row-from u past below top bound (x ∷ row) [] same each falls first rises = absurd cc
row-from u past below top bound (x ∷ row) (call ∷ calls) same each falls first rises =
    let number : x.0 ≡ call.seq = cc in
    let others : map (λ c. c.0) row ≡ map (λ c. c.seq) calls = cc in
    let stands : StandsAt u past x.0 x.1 = subst (λ n. StandsAt u past n x.1) (sym number) (record { within = each.0.within; allowed = each.0.allowed }) in
    let rest : IsRow u past call.seq top x.1 row =
    row-from u past call.seq top x.1 row calls others each.1 (λ i j p q less at_i at_j. falls (suc i) (suc j) p q (omega (arith, less)) at_i at_j)
    (λ p at. falls 0 1 x.1 p (omega arith) refl at) rises.2 in (
      record {
        number = omega (arith, number, rises.0);
        few = omega (arith, number, rises.1);
        falls = first x.1 refl;
        stands = stands;
      },
      subst (λ n. IsRow u past n top x.1 row) (sym number) rest,
    )

-- ---- from the row to positions

pub each-to : (u : JudgeContext) (past : Trace) (below top bound : ℕ) (row : Row) (calls : List AcceptedCall) → map (λ call. call.0) row ≡ map (λ call. call.seq) calls
    → IsRow u past below top bound row → AllZip (IsLegalPosition u past) calls (map (λ call. call.1) row)
each-to u past below top bound [] [] same h = tt
each-to u past below top bound [] (call ∷ calls) same h = absurd cc
each-to u past below top bound (x ∷ row) [] same h = absurd cc
each-to u past below top bound (x ∷ row) (call ∷ calls) same h =
    let number : x.0 ≡ call.seq = cc in
    let others : map (λ c. c.0) row ≡ map (λ c. c.seq) calls = cc in
    let stands : StandsAt u past call.seq x.1 = subst (λ n. StandsAt u past n x.1) number h.0.stands in
    (record { within = stands.within; allowed = stands.allowed }, each-to u past x.0 top x.1 row calls others h.1)

low : (u : JudgeContext) (past : Trace) (below top bound : ℕ) (row : Row) (j q : ℕ) → IsRow u past below top bound row → slice_get (map (λ call. call.1) row) j ≡ Some q → q ≤ bound
low u past below top bound [] j q h at = absurd cc
low u past below top bound (x ∷ row) zero q h at = let same : x.1 ≡ q = cc in omega (arith, same, h.0.falls)
low u past below top bound (x ∷ row) (suc j) q h at = omega (arith, low u past x.0 top x.1 row j q h.1 at, h.0.falls)

pub never-rise : (u : JudgeContext) (past : Trace) (below top bound : ℕ) (row : Row) → IsRow u past below top bound row → AreNonIncreasing (map (λ call. call.1) row)
never-rise u past below top bound [] h i j p q less at_i at_j = absurd cc
never-rise u past below top bound (x ∷ row) h zero zero p q less at_i at_j = absurd (omega (arith, less))
never-rise u past below top bound (x ∷ row) h zero (suc j) p q less at_i at_j =
    let same : x.1 ≡ p = cc in omega (arith, same, low u past x.0 top x.1 row j q h.1 at_j)
never-rise u past below top bound (x ∷ row) h (suc i) zero p q less at_i at_j = absurd (omega (arith, less))
never-rise u past below top bound (x ∷ row) h (suc i) (suc j) p q less at_i at_j = never-rise u past x.0 top x.1 row h.1 i j p q (omega (arith, less)) at_i at_j

pub places-to : (u : JudgeContext) (past : Trace) (below top bound : ℕ) (row : Row) → map (λ call. call.0) row ≡ map (λ call. call.seq) (pending_calls past)
    → IsRow u past below top bound row → AreLegalPositions u past (map (λ call. call.1) row)
places-to u past below top bound row same h = record { each = each-to u past below top bound row (pending_calls past) same h; never_rise = never-rise u past below top bound row h }
