-- The code's own: the invariant of the lists of holes and of held blocks.
use Rattle.std.specs.Prelude.{◌≡◌, ℕ, ◌+◌, ◌<◌, ◌≤◌, ◌⊎◌, cond, List, All, length, slice_index_or}
use Rattle.std.specs.List.{AllWithin, count_by}
use Rattle.mrpc_table.specs.declared.limits.TheConstants.{MAX_HEAP}
use Rattle.receive_heap.specs.declared.holes.PlaceRange.{PlaceRange}
use Rattle.receive_heap.specs.declared.extents.Block.{Block}
use Rattle.receive_heap.specs.Layout.{Layout, AreSeparate, has_place, IsPartition}

-- how many of the holes have a place
abbrev pub holes_at : List PlaceRange → ℕ → ℕ
holes_at holes place = count_by (λ hole. has_place hole.at hole.words place) holes

-- 1 if the span has the place, else 0
abbrev pub one_at : PlaceRange → ℕ → ℕ
one_at span place = cond (has_place span.at span.words place) 1 0

-- the invariant of the holes: ordered by place and apart, none empty, none past the heap
pub record AreHoles (holes : List PlaceRange) : Type 0 where
  pub apart : AreSeparate holes
  pub some : All (λ hole. 1 ≤ hole.words) holes
  pub small : All (λ hole. hole.at + hole.words ≤ MAX_HEAP) holes

-- the hole at an index is the first with at least this many words
pub record IsFirstFitAt (holes : List PlaceRange) (words index : ℕ) : Type 0 where
  pub within : index < length holes
  pub before : AllWithin (λ hole. hole.words < words) holes 0 index
  pub there : (d : PlaceRange) → words ≤ (slice_index_or holes index d).words

-- a nonempty span is after the holes before an index, and before the others
pub record IsInsertedBetween (holes : List PlaceRange) (index : ℕ) (span : PlaceRange) : Type 0 where
  pub within : index ≤ length holes
  pub words : 1 ≤ span.words
  pub small : span.at + span.words ≤ MAX_HEAP
  pub before : (k : ℕ) (d : PlaceRange) → k < index
      → (slice_index_or holes k d).at + (slice_index_or holes k d).words ≤ span.at
  pub behind : (k : ℕ) (d : PlaceRange) → index ≤ k → k < length holes → span.at + span.words ≤ (slice_index_or holes k d).at

-- it touches no later hole
abbrev pub IsClearAfter : List PlaceRange → ℕ → PlaceRange → Type 0
IsClearAfter holes index span = (k : ℕ) (d : PlaceRange) → index ≤ k → k < length holes
    → span.at + span.words < (slice_index_or holes k d).at

-- it touches no earlier hole
abbrev pub IsClearBefore : List PlaceRange → ℕ → PlaceRange → Type 0
IsClearBefore holes index span = (k : ℕ) (d : PlaceRange) → k < index
    → (slice_index_or holes k d).at + (slice_index_or holes k d).words < span.at

-- a span and holes have the same places as another span and other holes
abbrev pub HaveSamePlaces : List PlaceRange → PlaceRange → List PlaceRange → PlaceRange → Type 0
HaveSamePlaces holes span others other = (place : ℕ)
    → holes_at holes place + one_at span place ≡ holes_at others place + one_at other place

-- it overlaps no hole
abbrev pub IsDisjointFrom : List PlaceRange → PlaceRange → Type 0
IsDisjointFrom holes span = All (λ hole. (hole.at + hole.words ≤ span.at) ⊎ (span.at + span.words ≤ hole.at)) holes

-- the invariant of an entry of the map of held blocks
abbrev pub IsEntry : ℕ → ℕ × Block → Type 0
IsEntry next entry = (entry.1.number ≡ entry.0) × (1 ≤ entry.0) × (entry.0 < next) × (1 ≤ entry.1.words)

-- the invariant of a heap's parts
pub record HasLayoutInvariant (layout : Layout) (entries : List (ℕ × Block)) (capacity : ℕ) : Type 0 where
  pub words : layout.words ≤ MAX_HEAP
  pub next : 1 ≤ layout.next
  pub partition : IsPartition layout
  pub apart : AreSeparate layout.holes
  pub some : All (λ hole. 1 ≤ hole.words) layout.holes
  pub known : All (IsEntry layout.next) entries
  -- there is capacity for one more hole for each held block
  pub room : length layout.holes + length entries ≤ capacity

-- a span of this many words from the start of the hole at an index
abbrev pub allocated_span : List PlaceRange → ℕ → ℕ → PlaceRange
allocated_span holes index words = record {
  at = (slice_index_or holes index (record { at = 0; words = 0 })).at;
  words = words;
}
