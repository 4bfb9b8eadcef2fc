-- The two calls preserve the invariant.
use Rattle.std.proofs.Common.{◌≡◌, ◌<◌, ◌≤◌, ◌+◌, ℕ, cond, List, [], ◌∷◌, ◌++◌, Some, length, length-append, arith}
use Rattle.std.proofs.Common.{refl, sym, ◌∙◌, ap, subst, map, get_or}
use Rattle.std.specs.List.{sum_by}
use Rattle.std.specs.Map.{values_of, lookup, remove_entry}
use Rattle.std.specs.BTreeMap.{is_at}
use Rattle.std.specs.Ordering.{nat_cmp}
use Rattle.std.proofs.lemmas.List.Elements.{All-push, All-weaker, All-map}
use Rattle.std.specs.List.Sorted.{IsStrictlySortedBy, IsStrictlyIncreasing}
use Rattle.std.proofs.lemmas.Map.Keys.{IsStrictlyIncreasing-from_sorted}
use Rattle.std.proofs.lemmas.List.{get_or_default}
use Rattle.std.proofs.lemmas.List.Sums.{sum_by_push}
use Rattle.receive_heap.specs.declared.holes.PlaceRange.{PlaceRange}
use Rattle.receive_heap.specs.declared.extents.Block.{Block}
use Rattle.receive_heap.specs.Layout.{Layout, IsPartitioned, has_place}
use Rattle.receive_heap.specs.Parts.{HasLayoutInvariant, AreHoles, IsEntry, allocated_span, holes_at, one_at}
use Rattle.receive_heap.proofs.Kept.{partition_kept, all_removed, length_removed, values_pushed, numbers_are}
use Rattle.receive_heap.proofs.Places.{taken}

abbrev pub laid : ℕ → List PlaceRange → List (ℕ × Block) → ℕ → Layout
laid words holes entries next = record { words = words; holes = holes; held = values_of entries; next = next }

pub places_taken : (before holes after : List PlaceRange) (i words : ℕ) (x : PlaceRange) → before ≡ holes → i < length before → x ≡ get_or before i x
    → ((place : ℕ) → holes_at after place + one_at (allocated_span before i words) place ≡ holes_at before place)
    → (place : ℕ) → holes_at after place + one_at (record { at = x.at; words = words }) place ≡ holes_at holes place
places_taken before holes after i words x same lt is places place =
    let none : PlaceRange = record { at = 0; words = 0 } in
    let e : get_or before i none ≡ x = get_or_default before i none x lt ∙ sym is in
    subst (λ hs. holes_at after place + one_at (record { at = x.at; words = words }) place ≡ holes_at hs place) same
    (subst (λ (h : PlaceRange). holes_at after place + one_at (record { at = h.at; words = words }) place ≡ holes_at before place) e (places place))

pub sound_from : (words next : ℕ) (holes : List PlaceRange) (entries : List (ℕ × Block)) (capacity : ℕ)
    → HasLayoutInvariant (laid words holes entries next) entries capacity
    → IsStrictlySortedBy nat_cmp (map (λ (e : ℕ × Block). e.0) entries)
    → IsPartitioned (laid words holes entries next)
sound_from words next holes entries capacity keeps sorted = record {
  partition = keeps.partition;
  apart = keeps.apart;
  hole_words = keeps.some;
  block_words = All-map (λ (block : Block). 1 ≤ block.words) (λ (e : ℕ × Block). e.1) entries
      (All-weaker (IsEntry next) (λ e. 1 ≤ e.1.words) (λ e known. known.3) entries keeps.known);
  numbers = subst IsStrictlyIncreasing (sym (numbers_are next entries keeps.known)) (IsStrictlyIncreasing-from_sorted (map (λ (e : ℕ × Block). e.0) entries) sorted);
  numbered = All-map (λ (block : Block). (1 ≤ block.number) × (block.number < next)) (λ (e : ℕ × Block). e.1) entries
      (All-weaker (IsEntry next) (λ e. (1 ≤ e.1.number) × (e.1.number < next)) (λ e known. (omega (arith, known.0, known.1), omega (arith, known.0, known.2))) entries keeps.known);
}

pub reclaim_keeps : (words next number : ℕ) (holes after : List PlaceRange) (entries : List (ℕ × Block)) (block : Block) (capacity grown : ℕ)
    → HasLayoutInvariant (laid words holes entries next) entries capacity → lookup (is_at (nat_cmp number)) entries ≡ Some block → AreHoles after
    → ((place : ℕ) → holes_at after place ≡ holes_at holes place
    + one_at (record { at = block.at; words = block.words }) place) → length after ≤ length holes + 1
    → capacity ≤ grown
    → HasLayoutInvariant (laid words after (remove_entry (is_at (nat_cmp number)) entries) next) (remove_entry (is_at (nat_cmp number)) entries) grown
reclaim_keeps words next number holes after entries block capacity grown keeps found are places len larger = record {
  words = keeps.words;
  next = keeps.next;
  partition = partition_kept (laid words holes entries next) (laid words after (remove_entry (is_at (nat_cmp number)) entries) next) refl
      (λ place.
      let f : Block → ℕ = λ b. cond (has_place b.at b.words place) 1 0 in
      omega (arith, places place, taken f (is_at (nat_cmp number)) entries block found)) keeps.partition;
  apart = are.apart;
  some = are.some;
  known = all_removed number next entries keeps.known;
  room = omega (arith, keeps.room, len, larger, length_removed number entries block found);
}

pub take_keeps : (words next : ℕ) (holes after : List PlaceRange) (entries : List (ℕ × Block)) (block : Block) (capacity room : ℕ)
    → HasLayoutInvariant (laid words holes entries next) entries capacity → block.number ≡ next → 1 ≤ block.words → AreHoles after
    → ((place : ℕ) → holes_at after place + one_at (record { at = block.at; words = block.words }) place
    ≡ holes_at holes place) → length after ≤ length holes → length holes + (length entries + 1) ≤ room
    → HasLayoutInvariant (laid words after (entries ++ (next, block) ∷ []) (next + 1)) (entries ++ (next, block) ∷ []) room
take_keeps words next holes after entries block capacity room keeps number some are places len roomy = record {
  words = keeps.words;
  next = omega arith;
  partition = partition_kept (laid words holes entries next) (laid words after (entries ++ (next, block) ∷ []) (next + 1)) refl
      (λ place.
      let f : Block → ℕ = λ b. cond (has_place b.at b.words place) 1 0 in
      omega (arith, places place, ap (sum_by f) (values_pushed entries (next, block)), sum_by_push f (values_of entries) block)) keeps.partition;
  apart = are.apart;
  some = are.some;
  known = All-push (IsEntry (next + 1)) entries (next, block)
      (All-weaker (IsEntry next) (IsEntry (next + 1)) (λ e known. (known.0, known.1, omega (arith, known.2), known.3)) entries keeps.known)
      (number, keeps.next, omega arith, some);
  room = omega (arith, len, roomy, length-append entries ((next, block) ∷ []));
}
