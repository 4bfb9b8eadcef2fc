-- What the partition implies for one hole and one held block.
use Rattle.std.proofs.Common.{◌≡◌, ◌<◌, ◌≤◌, ◌+◌, ◌-◌, ℕ, Bool, cond, List, All, Some, get_or, length, arith, ap, subst, ⊎_elim, inl, inr}
use Rattle.std.specs.Prelude.{unwrap_or, option_map}
use Rattle.std.specs.List.{sum_by}
use Rattle.std.specs.Map.{values_of, lookup, remove_entry}
use Rattle.std.proofs.lemmas.Bool.{cases_lt}
use Rattle.std.proofs.lemmas.Bool.Decides.{nat_tests}
use Rattle.std.proofs.lemmas.List.Elements.{All-get_or, All-from_get_or}
use Rattle.std.proofs.lemmas.List.Sums.{get_or-le-sum_by}
use Rattle.std.proofs.lemmas.Map.Entries.{sum_by-remove_entry}
use Rattle.receive_heap.specs.declared.holes.PlaceRange.{PlaceRange}
use Rattle.receive_heap.specs.declared.extents.Block.{Block}
use Rattle.receive_heap.specs.Layout.{Layout, IsPartition, AreSeparate, has_place, owners_of}
use Rattle.receive_heap.specs.Parts.{AreHoles, IsDisjointFrom}
use Rattle.mrpc_table.specs.declared.limits.TheConstants.{MAX_HEAP}

abbrev one_of : ℕ → ℕ → ℕ → ℕ
one_of at words place = cond (has_place at words place) 1 0

has_own : (at words place : ℕ) → at ≤ place → place < at + words → one_of at words place ≡ 1
has_own at words place from below = grind (arith, nat_tests)

pub hole_within : (layout : Layout) → IsPartition layout → All (λ hole. 1 ≤ hole.words) layout.holes → (i : ℕ) (d : PlaceRange) → i < length layout.holes
    → (get_or layout.holes i d).at + (get_or layout.holes i d).words ≤ layout.words
hole_within layout is some i d lt =
    let h = get_or layout.holes i d in
    let one : 1 ≤ h.words = All-get_or (λ hole. 1 ≤ hole.words) layout.holes i d lt some in
    ⊎_elim
    (λ (over : layout.words < h.at + h.words).
    let place = h.at + h.words - 1 in
    let own = has_own h.at h.words place (omega (arith, one)) (omega (arith, one)) in
    let part = get_or-le-sum_by (λ (hole : PlaceRange). one_of hole.at hole.words place) layout.holes i d lt in
    let out = is.outside place (inr (omega (arith, over))) in
    omega (arith, own, part, out))
    (λ (le : h.at + h.words ≤ layout.words). le)
    (cases_lt layout.words (h.at + h.words))

-- a hole starts after the first place
pub hole_behind : (layout : Layout) → IsPartition layout → All (λ hole. 1 ≤ hole.words) layout.holes → (i : ℕ) (d : PlaceRange) → i < length layout.holes
    → 1 ≤ (get_or layout.holes i d).at
hole_behind layout is some i d lt =
    let h = get_or layout.holes i d in
    let one : 1 ≤ h.words = All-get_or (λ hole. 1 ≤ hole.words) layout.holes i d lt some in
    ⊎_elim
    (λ (first : h.at < 1).
    let own = has_own h.at h.words 0 (omega (arith, first)) (omega (arith, one)) in
    let part = get_or-le-sum_by (λ (hole : PlaceRange). one_of hole.at hole.words 0) layout.holes i d lt in
    let out = is.outside 0 (inl (omega arith)) in
    omega (arith, own, part, out))
    (λ (le : 1 ≤ h.at). le)
    (cases_lt h.at 1)

pub are_holes : (layout : Layout) → IsPartition layout → layout.words ≤ MAX_HEAP → AreSeparate layout.holes → All (λ hole. 1 ≤ hole.words) layout.holes → AreHoles layout.holes
are_holes layout is most apart some = record {
  apart = apart;
  some = some;
  small = All-from_get_or (λ hole. hole.at + hole.words ≤ MAX_HEAP) layout.holes (record { at = 0; words = 0 })
      (λ i lt. let w = hole_within layout is some i (record { at = 0; words = 0 }) lt in omega (arith, w, most));
}

-- the places of an entry leave with it
pub taken : (f : Block → ℕ) (test : ℕ → Bool) (entries : List (ℕ × Block)) (block : Block) → lookup test entries ≡ Some block
    → sum_by f (values_of (remove_entry test entries)) + f block ≡ sum_by f (values_of entries)
taken f test entries block found =
    subst (λ r. sum_by f (values_of (remove_entry test entries)) + unwrap_or (option_map f r) 0 ≡ sum_by f (values_of entries)) found (sum_by-remove_entry f test entries)

-- a place has at most one owner
at_most_one : (layout : Layout) → IsPartition layout → (place : ℕ) → owners_of layout place ≤ 1
at_most_one layout is place =
    ⊎_elim
    (λ (low : place < 1). let e = is.outside place (inl low) in omega (arith, e))
    (λ (from : 1 ≤ place). ⊎_elim
    (λ (below : place < layout.words). let e = is.inside place from below in omega (arith, e))
    (λ (past : layout.words ≤ place). let e = is.outside place (inr past) in omega (arith, e))
    (cases_lt place layout.words))
    (cases_lt place 1)

pub block_within : (layout : Layout) → IsPartition layout
    → (test : ℕ → Bool) (entries : List (ℕ × Block)) (block : Block) → layout.held ≡ values_of entries
    → lookup test entries ≡ Some block → 1 ≤ block.words
    → block.at + block.words ≤ layout.words
block_within layout is test entries block held found one =
    ⊎_elim
    (λ (over : layout.words < block.at + block.words).
    let place = block.at + block.words - 1 in
    let own = has_own block.at block.words place (omega (arith, one)) (omega (arith, one)) in
    let f : Block → ℕ = λ b. one_of b.at b.words place in
    let part = taken f test entries block found in
    let same = ap (sum_by f) held in
    let out = is.outside place (inr (omega (arith, over))) in
    omega (arith, own, part, same, out))
    (λ (le : block.at + block.words ≤ layout.words). le)
    (cases_lt layout.words (block.at + block.words))

-- a hole and a held block have no place in common
no_common : (layout : Layout) → IsPartition layout → (test : ℕ → Bool) (entries : List (ℕ × Block)) (block : Block)
    → layout.held ≡ values_of entries → lookup test entries ≡ Some block
    → (i : ℕ) (d : PlaceRange) → i < length layout.holes → (place : ℕ) → (get_or layout.holes i d).at ≤ place
    → place < (get_or layout.holes i d).at + (get_or layout.holes i d).words
    → block.at ≤ place → place < block.at + block.words → ⊥
no_common layout is test entries block held found i d lt place from below from_block below_block =
    let h = get_or layout.holes i d in
    let f : Block → ℕ = λ b. one_of b.at b.words place in
    let part = taken f test entries block found in
    let same = ap (sum_by f) held in
    let hole = get_or-le-sum_by (λ (hole : PlaceRange). one_of hole.at hole.words place) layout.holes i d lt in
    omega (arith, has_own h.at h.words place from below, has_own block.at block.words place from_block below_block, part, same, hole, at_most_one layout is place)

pub meets_none : (layout : Layout) → IsPartition layout → All (λ hole. 1 ≤ hole.words) layout.holes
    → (test : ℕ → Bool) (entries : List (ℕ × Block)) (block : Block) → layout.held ≡ values_of entries
    → lookup test entries ≡ Some block → 1 ≤ block.words
    → IsDisjointFrom layout.holes (record { at = block.at; words = block.words })
meets_none layout is some test entries block held found one k d lt =
    let h = get_or layout.holes k d in
    let words : 1 ≤ h.words = All-get_or (λ hole. 1 ≤ hole.words) layout.holes k d lt some in
    ⊎_elim
    (λ (before : block.at < h.at). ⊎_elim
    (λ (meets : h.at < block.at + block.words). absurd (no_common layout is test entries block held found k d lt h.at (omega arith) (omega (arith, words)) (omega (arith, before)) meets))
    (λ (clear : block.at + block.words ≤ h.at). inr clear)
    (cases_lt h.at (block.at + block.words)))
    (λ (behind : h.at ≤ block.at). ⊎_elim
    (λ (meets : block.at < h.at + h.words). absurd (no_common layout is test entries block held found k d lt block.at behind meets (omega arith) (omega (arith, one))))
    (λ (clear : h.at + h.words ≤ block.at). inl clear)
    (cases_lt block.at (h.at + h.words)))
    (cases_lt block.at h.at)
