-- Slices are in the heap, and the slices of nearby replies are disjoint.
use Rattle.std.proofs.Common.{◌≡◌, ℕ, ◌+◌, ◌-◌, ◌*◌, ◌/◌, ◌%◌, ◌<◌, ◌≤◌, ◌⊎◌, inl, inr, arith}
use Rattle.std.proofs.Math.Nat.{mul-div-le, mul-le-mul_left, mul-le-mul_right}
use Rattle.std.proofs.lemmas.Bool.{cases_lt, cases_order}
use Rattle.app_stub.specs.Echoing.{IsInSlice, slice_at, slice_words}

-- slices of this size fill no more words than there are
pub slice_fits : (words m k : ℕ) → 0 < m → (k % m) * (words / m) + words / m ≤ words
slice_fits words m k some =
    let below : k % m + 1 ≤ m = omega arith in
    let most = mul-le-mul_right (words / m) below in
    let all = mul-div-le words m in
    omega (arith, most, all)

-- numbers fewer than m apart have different remainders
pub rests_differ : (i j m : ℕ) → i < j → j < i + m → i % m ≡ j % m → ⊥
rests_differ i j m less near same = by_order (cases_lt (i / m) (j / m))
  where
    by_order : (i / m < j / m) ⊎ (j / m ≤ i / m) → ⊥
    by_order (inl up) =
        let up' : i / m + 1 ≤ j / m = omega (arith, up) in
        let h = mul-le-mul_left m up' in
        let some : 0 < m = omega (arith, less, near) in
        omega (arith, h, some, same, less, near)
    by_order (inr down) =
        let h = mul-le-mul_left m down in
        let some : 0 < m = omega (arith, less, near) in
        omega (arith, h, some, same, less, near)

-- slices with different numbers have no place in common
pieces_apart : (words a b place : ℕ) → a < b → place < 2 + a * words + words → 2 + b * words ≤ place → ⊥
pieces_apart words a b place less below from =
    let less' : a + 1 ≤ b = omega (arith, less) in
    let h = mul-le-mul_right words less' in
    omega (arith, h, below, from)

pub slices_apart : (heap ring i j place : ℕ) → i < j → j < i + (ring + 2)
    → IsInSlice heap ring i place → IsInSlice heap ring j place → ⊥
slices_apart heap ring i j place less near one other =
    by_order (cases_order (i % (ring + 2)) (j % (ring + 2)))
  where
    by_order : (i % (ring + 2) ≡ j % (ring + 2)) ⊎ ((i % (ring + 2) < j % (ring + 2)) ⊎ (j % (ring + 2) < i % (ring + 2))) → ⊥
    by_order (inl same) = rests_differ i j (ring + 2) less near same
    by_order (inr (inl up)) =
        pieces_apart (slice_words heap ring) (i % (ring + 2)) (j % (ring + 2)) place up one.below other.from
    by_order (inr (inr down)) =
        pieces_apart (slice_words heap ring) (j % (ring + 2)) (i % (ring + 2)) place down other.below one.from

pub slice_in_heap : (heap ring k : ℕ) → 2 ≤ heap → slice_at heap ring k + slice_words heap ring ≤ heap
slice_in_heap heap ring k some =
    let fits = slice_fits (heap - 2) (ring + 2) k (omega arith) in
    omega (arith, fits, some)

pub place_in_heap : (heap ring k place : ℕ) → 2 ≤ heap → IsInSlice heap ring k place → (2 ≤ place) × (place < heap)
place_in_heap heap ring k place some within =
    let fits = slice_in_heap heap ring k some in
    let from = within.from in
    let below = within.below in
    (omega (arith, from), omega (arith, below, fits))
