-- The tickets of a quota on small lists, and its rule on two seats.
use Rattle.std.proofs.Common.{◌≡◌, ◌^◌, ◌<◌, ℕ, zero, suc, List, [], ◌∷◌, refl, sym, subst, arith}
use Rattle.std.specs.Prelude.{slice_index}
use Rattle.std.proofs.lemmas.List.Sorted.{IsPermutation-refl, IsPermutation-append_comm, sum_by-IsPermutation}
use mathlib.Core.Option.{some, some-injective, some-ne-none}
use lib.ListN.{get_elem?}
use Rattle.atomic_table.specs.Table.{State}
use Rattle.tenant_quota.specs.declared.view.QuotaView.{QuotaView}
use Rattle.tenant_quota.specs.Drawing.{tickets_in, IsPermutationOfRange, allowed_by_cap}
use Rattle.tenant_quota.specs.Rule.{IsTicketCount, tickets_out, IsViewOfQuota, IsQuota}

of_one_window : tickets_in 0 ((0, 1) ∷ (1, 0) ∷ (0, 0) ∷ []) ≡ 1 ∷ 0 ∷ []
of_one_window = refl

-- two tickets, in whatever order they were drawn
each_once : IsPermutationOfRange (1 ∷ 0 ∷ [])
each_once = IsPermutation-append_comm (0 ∷ []) (1 ∷ [])

-- one ticket that was drawn twice, and one that no seat drew
drawn_twice : IsPermutationOfRange (0 ∷ 0 ∷ []) → ⊥
drawn_twice once =
    let sums : 0 ≡ 1 = sum_by-IsPermutation (λ n. n) (0 ∷ 1 ∷ []) (0 ∷ 0 ∷ []) once in
    absurd (omega (arith, sums))

left_out : IsPermutationOfRange (1 ∷ 2 ∷ []) → ⊥
left_out once =
    let sums : 3 ≡ 1 = sum_by-IsPermutation (λ n. n) (0 ∷ 1 ∷ []) (1 ∷ 2 ∷ []) once in
    absurd (omega (arith, sums))

one_is_allowed : allowed_by_cap 1 (1 ∷ 0 ∷ []) ≡ 1
one_is_allowed = refl

-- the seat that opened the quota has the first ticket, and the one that was split off has the second
abbrev half : ℕ → QuotaView
half ticket = record { windows = 1; draws = (0, ticket) ∷ []; share = 2 ^ 63 }

abbrev seats : List QuotaView
seats = half 0 ∷ half 1 ∷ []

fits : (ticket : ℕ) → IsViewOfQuota 1 (half ticket)
fits ticket = record { knows = λ some_share. refl; none = λ share. absurd (omega (arith, share)) }

abbrev after : ℕ → State (Unit {0}) QuotaView
after word = record { words = word ∷ []; homes = []; views = seats }

two_draws : IsQuota 1 (after 2)
two_draws = record { sized = refl; words = of_window; shares = refl; seats = each }
  where
    of_window : (window : ℕ) → window < 1 → IsTicketCount (slice_index (2 ∷ []) window) (tickets_out window seats)
    of_window zero inside = record { counted = refl; once = λ few. IsPermutation-refl (0 ∷ 1 ∷ []) }
    of_window (suc window) inside = absurd (omega (arith, inside))

    each : (seat : ℕ) (v : QuotaView) → get_elem? seats seat ≡ some v → IsViewOfQuota 1 v
    each zero v e = subst (IsViewOfQuota 1) (some-injective _ _ e) (fits 0)
    each (suc zero) v e = subst (IsViewOfQuota 1) (some-injective _ _ e) (fits 1)
    each (suc (suc seat)) v e = absurd (some-ne-none v (sym e))

-- a draw by a load and a store: the second seat overwrote the first one's draw
a_draw_is_lost : IsQuota 1 (after 1) → ⊥
a_draw_is_lost q = let counted : 1 ≡ 2 = (q.words 0 (omega arith)).counted in absurd (omega (arith, counted))
