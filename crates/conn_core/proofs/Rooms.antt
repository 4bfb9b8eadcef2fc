-- Capacity for the records of the pending calls.
use Rattle.std.proofs.Common.{◌≡◌, ℕ, ◌+◌, ◌*◌, ◌≤◌, List, [], ◌∷◌, length, refl, arith}
use Rattle.std.specs.Prelude.{sum}
use Rattle.std.specs.List.{AllZip, sum_by}
use Rattle.std.proofs.lemmas.List.Sums.{sum_by-cons}
use Rattle.engine_core.specs.Chains.{Entry}
use Rattle.engine_core.specs.Marks.{PendingCall}
use Rattle.conn_core.specs.Invariant.{AreDue, HasRoom, due_of}

-- one record of each entry
ones : List Entry → List ℕ
ones [] = []
ones (e ∷ entries) = 1 ∷ ones entries

sum-ones : (entries : List Entry) → sum (ones entries) ≡ length entries
unfolding ones
sum-ones [] = refl
sum-ones (e ∷ entries) = let rest = sum-ones entries in omega (arith, sum_by-cons (λ (n : ℕ). n) 1 (ones entries), rest)

all-due : (entries : List Entry) (s : PendingCall) → AreDue entries s (ones entries)
unfolding ones
all-due [] s = tt
all-due (e ∷ entries) s = (λ may. omega arith, all-due entries s)

full : List Entry → List PendingCall → List (List ℕ)
full entries [] = []
full entries (s ∷ calls) = ones entries ∷ full entries calls

full-each : (entries : List Entry) (calls : List PendingCall) → AllZip (AreDue entries) calls (full entries calls)
unfolding full
full-each entries [] = tt
full-each entries (s ∷ calls) = (all-due entries s, full-each entries calls)

full-enough : (entries : List Entry) (calls : List PendingCall) → length entries ≤ 8
    → sum_by due_of (full entries calls) ≤ 9 * length calls
unfolding full
full-enough entries [] few = omega arith
full-enough entries (s ∷ calls) few =
    let rest = full-enough entries calls few in
    omega (arith, sum_by-cons due_of (ones entries) (full entries calls), sum-ones entries, rest, few)

-- nine records for each call are enough
pub has-room : (calls : List PendingCall) (entries : List Entry) (room : ℕ) → length entries ≤ 8
    → 9 * length calls ≤ room → HasRoom calls entries room
has-room calls entries room few enough = record {
  dues = full entries calls;
  each = full-each entries calls;
  enough = omega (arith, full-enough entries calls few, enough);
}

room-first-by : (s : PendingCall) (calls : List PendingCall) (entries : List Entry) (room left : ℕ)
    (dues : List (List ℕ))
    → AllZip (AreDue entries) (s ∷ calls) dues → sum_by due_of dues ≤ room → room ≤ left + 1
    → (1 ≤ room) × HasRoom calls entries left
room-first-by s calls entries room left [] each enough le = absurd each
room-first-by s calls entries room left (due ∷ dues) each enough le =
    let total = sum_by-cons due_of due dues in
    (omega (arith, total, enough), record { dues = dues; each = each.1; enough = omega (arith, total, enough, le) })

-- the first call leaves, and its fate is recorded
pub room-first : (s : PendingCall) (calls : List PendingCall) (entries : List Entry) (room left : ℕ)
    → HasRoom (s ∷ calls) entries room → room ≤ left + 1
    → (1 ≤ room) × HasRoom calls entries left
room-first s calls entries room left h le = room-first-by s calls entries room left h.dues h.each h.enough le

room-fates-by : (calls : List PendingCall) (entries : List Entry) (dues : List (List ℕ))
    → AllZip (AreDue entries) calls dues
    → (room : ℕ) → sum_by due_of dues ≤ room → length calls ≤ room
room-fates-by [] entries [] each room enough = omega arith
room-fates-by [] entries (due ∷ dues) each room enough = absurd each
room-fates-by (s ∷ calls) entries [] each room enough = absurd each
room-fates-by (s ∷ calls) entries (due ∷ dues) each room enough =
    let total = sum_by-cons due_of due dues in
    let rest = room-fates-by calls entries dues each.1 (sum_by due_of dues) (omega arith) in
    omega (arith, total, rest, enough)

-- there is capacity for a fate of each call
pub room-fates : (calls : List PendingCall) (entries : List Entry) (room : ℕ) → HasRoom calls entries room
    → length calls ≤ room
room-fates calls entries room h = room-fates-by calls entries h.dues h.each room h.enough
