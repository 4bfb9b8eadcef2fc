-- A span among the holes: merged with the holes that it touches, and inserted among the others.
use Rattle.std.proofs.Common.{◌≡◌, ◌≢◌, ◌<◌, ◌≤◌, ◌+◌, ◌-◌, ℕ, suc, ◌⊎◌, true, nat_lt, List, ◌∷◌, All, get_or, length}
use Rattle.std.proofs.Common.{take, drop, arith, sym, ◌∙◌, ap, subst, ⊎_elim}
use Rattle.std.specs.List.{AllWithin, insert, remove}
use Rattle.std.specs.List.Sorted.{IsPartitionedBy}
use Rattle.std.proofs.lemmas.Bool.{cases_lt}
use Rattle.std.proofs.lemmas.Bool.Decides.{nat_tests}
use Rattle.std.proofs.lemmas.List.{get_or_default}
use Rattle.std.proofs.lemmas.List.Elements.{All-append, All-cons, All-take, All-drop, All-get_or}
use Rattle.std.proofs.lemmas.List.Edits.{length-remove, get_or-remove_below, get_or-remove_above, length-insert, get_or-insert_below, get_or-insert_at, get_or-insert_above}
use Rattle.std.proofs.lemmas.List.Quantifiers.{all_pairs_remove}
use Rattle.receive_heap.specs.declared.holes.PlaceRange.{PlaceRange}
use Rattle.receive_heap.specs.Layout.{AreSeparate}
use Rattle.receive_heap.specs.Parts.{AreHoles, IsInsertedBetween, IsClearAfter, IsClearBefore, IsDisjointFrom}
use Rattle.mrpc_table.specs.declared.limits.TheConstants.{MAX_HEAP}

pub parted : (holes : List PlaceRange) (at : ℕ) → AreSeparate holes → IsPartitionedBy (λ hole. nat_lt hole.at at) holes
parted holes at apart i j d le lt low =
    ⊎_elim
    (λ less. let a = apart i j d less lt in grind (arith, nat_tests))
    (λ ge. let e : i ≡ j = omega arith in subst (λ k. nat_lt (get_or holes k d).at at ≡ true) (sym e) low)
    (cases_lt i j)

all_remove : (P : PlaceRange → Type 0) (holes : List PlaceRange) (i : ℕ) → All P holes → All P (remove holes i)
all_remove P holes i all = All-append P (take i holes) (drop (suc i) holes) (All-take P i holes all) (All-drop P (suc i) holes all)

all_insert : (P : PlaceRange → Type 0) (holes : List PlaceRange) (i : ℕ) (span : PlaceRange) → P span → All P holes → All P (insert holes i span)
all_insert P holes i span one all = All-append P (take i holes) (span ∷ drop i holes) (All-take P i holes all) (All-cons P span (drop i holes) one (All-drop P i holes all))

pub holes_removed : (holes : List PlaceRange) (i : ℕ) → i < length holes → AreHoles holes → AreHoles (remove holes i)
holes_removed holes i lt are = record {
  apart = all_pairs_remove (λ hole later. hole.at + hole.words < later.at) holes i lt are.apart;
  some = all_remove (λ hole. 1 ≤ hole.words) holes i are.some;
  small = all_remove (λ hole. hole.at + hole.words ≤ MAX_HEAP) holes i are.small;
}

pub same_hole : (holes : List PlaceRange) (i : ℕ) (a b : PlaceRange) → i < length holes → a ≡ get_or holes i a → b ≡ get_or holes i b → a ≡ b
same_hole holes i a b lt is was = is ∙ get_or_default holes i a b lt ∙ sym was

-- ---- the next hole

pub clear_joined : (holes : List PlaceRange) (i : ℕ) (s h : PlaceRange) → AreHoles holes → i < length holes → h ≡ get_or holes i h → h.at ≡ s.at + s.words
    → IsClearAfter (remove holes i) i (record { at = s.at; words = s.words + h.words })
clear_joined holes i s h are lt is touch k d le klt =
    let n = length-remove holes i lt in
    let within : k + 1 < length holes = omega (arith, n, klt) in
    let less : i < k + 1 = omega arith in
    let a = are.apart i (k + 1) h less within in
    let b : h.at + h.words < (get_or holes (k + 1) h).at = subst (λ x. x.at + x.words < (get_or holes (k + 1) h).at) (sym is) a in
    let e : get_or holes (k + 1) h ≡ get_or (remove holes i) k d = get_or_default holes (k + 1) h d within ∙ sym (get_or-remove_above holes i d k le lt) in
    subst (λ x. s.at + (s.words + h.words) < x.at) e (omega (arith, b, touch))

pub stands_joined : (holes : List PlaceRange) (i : ℕ) (s h : PlaceRange) → AreHoles holes → IsInsertedBetween holes i s → i < length holes → h ≡ get_or holes i h → h.at ≡ s.at + s.words
    → IsInsertedBetween (remove holes i) i (record { at = s.at; words = s.words + h.words })
stands_joined holes i s h are stands lt is touch =
    let n = length-remove holes i lt in
    let top = All-get_or (λ hole. hole.at + hole.words ≤ MAX_HEAP) holes i h lt are.small in
    let top2 : h.at + h.words ≤ MAX_HEAP = subst (λ x. x.at + x.words ≤ MAX_HEAP) (sym is) top in
    record {
      within = omega (arith, n, lt);
      words = omega (arith, stands.words);
      small = omega (arith, top2, touch);
      before = λ k d klt. subst (λ x. x.at + x.words ≤ s.at) (sym (get_or-remove_below holes i d k klt lt)) (stands.before k d klt);
      behind = λ k d le klt. let c = clear_joined holes i s h are lt is touch k d le klt in omega (arith, c);
    }

pub clear_apart : (holes : List PlaceRange) (i : ℕ) (s h : PlaceRange) → AreHoles holes → IsInsertedBetween holes i s → i < length holes → h ≡ get_or holes i h → h.at ≢ s.at + s.words
    → IsClearAfter holes i s
clear_apart holes i s h are stands lt is differs k d le klt =
    let b : s.at + s.words ≤ h.at = subst (λ x. s.at + s.words ≤ x.at) (sym is) (stands.behind i h (omega arith) lt) in
    let c : s.at + s.words < h.at = grind arith in
    ⊎_elim
    (λ less.
    let a = subst (λ x. x.at + x.words < (get_or holes k h).at) (sym is) (are.apart i k h less klt) in
    subst (λ x. s.at + s.words < x.at) (get_or_default holes k h d klt) (omega (arith, a, c)))
    (λ ge.
    let e : i ≡ k = omega arith in
    subst (λ x. s.at + s.words < x.at) (is ∙ get_or_default holes i h d lt ∙ ap (λ j. get_or holes j d) e) c)
    (cases_lt i k)

-- ---- the previous hole

pub clear_joined_before : (holes : List PlaceRange) (i : ℕ) (s h : PlaceRange) → AreHoles holes → 0 < i → i - 1 < length holes → h ≡ get_or holes (i - 1) h
    → IsClearBefore (remove holes (i - 1)) (i - 1) (record { at = h.at; words = h.words + s.words })
clear_joined_before holes i s h are some lt is k d klt =
    let a = are.apart k (i - 1) h klt lt in
    let b : (get_or holes k h).at + (get_or holes k h).words < h.at = subst (λ x. (get_or holes k h).at + (get_or holes k h).words < x.at) (sym is) a in
    let within : k < length holes = omega (arith, klt, lt) in
    let e : get_or holes k h ≡ get_or (remove holes (i - 1)) k d = get_or_default holes k h d within ∙ sym (get_or-remove_below holes (i - 1) d k klt lt) in
    subst (λ x. x.at + x.words < h.at) e b

pub stands_joined_before : (holes : List PlaceRange) (i : ℕ) (s h : PlaceRange) → AreHoles holes → IsInsertedBetween holes i s → 0 < i
    → i - 1 < length holes → h ≡ get_or holes (i - 1) h → h.at + h.words ≡ s.at
    → IsInsertedBetween (remove holes (i - 1)) (i - 1) (record { at = h.at; words = h.words + s.words })
stands_joined_before holes i s h are stands some lt is touch =
    let n = length-remove holes (i - 1) lt in
    record {
      within = omega (arith, n, lt);
      words = omega (arith, stands.words);
      small = omega (arith, stands.small, touch);
      before = λ k d klt. let c = clear_joined_before holes i s h are some lt is k d klt in omega (arith, c);
      behind = λ k d le klt.
          let b : s.at + s.words ≤ (get_or holes (k + 1) d).at = stands.behind (k + 1) d (omega (arith, le, some)) (omega (arith, n, klt)) in
          subst (λ x. h.at + (h.words + s.words) ≤ x.at) (sym (get_or-remove_above holes (i - 1) d k le lt)) (omega (arith, b, touch));
    }

pub clear_apart_before : (holes : List PlaceRange) (i : ℕ) (s h : PlaceRange) → AreHoles holes → IsInsertedBetween holes i s → 0 < i
    → i - 1 < length holes → h ≡ get_or holes (i - 1) h → h.at + h.words ≢ s.at
    → IsClearBefore holes i s
clear_apart_before holes i s h are stands some lt is differs k d klt =
    let b : h.at + h.words ≤ s.at = subst (λ x. x.at + x.words ≤ s.at) (sym is) (stands.before (i - 1) h (omega (arith, some))) in
    let c : h.at + h.words < s.at = grind arith in
    ⊎_elim
    (λ less.
    let a = subst (λ x. (get_or holes k h).at + (get_or holes k h).words < x.at) (sym is) (are.apart k (i - 1) h less lt) in
    subst (λ x. x.at + x.words < s.at) (get_or_default holes k h d (omega (arith, less, lt))) (omega (arith, a, c)))
    (λ ge.
    let e : i - 1 ≡ k = omega (arith, ge, klt) in
    subst (λ x. x.at + x.words < s.at) (is ∙ get_or_default holes (i - 1) h d lt ∙ ap (λ j. get_or holes j d) e) c)
    (cases_lt k (i - 1))

-- ---- the span among the holes

-- what is at an index of the list with the span: an earlier hole, the span, or a later hole
pub holes_inserted : (holes : List PlaceRange) (i : ℕ) (s : PlaceRange) → AreHoles holes → IsInsertedBetween holes i s → IsClearAfter holes i s → IsClearBefore holes i s → AreHoles (insert holes i s)
holes_inserted holes i s are stands behind before = record {
  apart = λ j k d less klt.
      let n = length-insert holes i s stands.within in
      ⊎_elim
      (λ (kb : k < i).
      let ej = get_or-insert_below holes i s d j (omega (arith, less, kb)) stands.within in
      let ek = get_or-insert_below holes i s d k kb stands.within in
      subst (λ x. x.at + x.words < (get_or (insert holes i s) k d).at) (sym ej)
      (subst (λ x. (get_or holes j d).at + (get_or holes j d).words < x.at) (sym ek) (are.apart j k d less (omega (arith, kb, stands.within)))))
      (λ (ka : i ≤ k). ⊎_elim
      (λ (jb : j < i).
      let ej = get_or-insert_below holes i s d j jb stands.within in
      subst (λ x. x.at + x.words < (get_or (insert holes i s) k d).at) (sym ej)
      (⊎_elim
      (λ (kc : i < k).
      let ek : get_or (insert holes i s) k d ≡ get_or holes (k - 1) d =
      subst (λ m. get_or (insert holes i s) m d ≡ get_or holes (k - 1) d) (omega (arith, kc))
      (get_or-insert_above holes i s d (k - 1) (omega (arith, kc)) stands.within) in
      subst (λ x. (get_or holes j d).at + (get_or holes j d).words < x.at) (sym ek) (are.apart j (k - 1) d (omega (arith, jb, kc)) (omega (arith, n, klt, kc))))
      (λ (ke : k ≤ i).
      let e : i ≡ k = omega (arith, ke, ka) in
      let ek : get_or (insert holes i s) k d ≡ s = ap (λ m. get_or (insert holes i s) m d) (sym e) ∙ get_or-insert_at holes i s d stands.within in
      subst (λ x. (get_or holes j d).at + (get_or holes j d).words < x.at) (sym ek) (before j d jb))
      (cases_lt i k)))
      (λ (ja : i ≤ j).
      let kc : i < k = omega (arith, ja, less) in
      let ek : get_or (insert holes i s) k d ≡ get_or holes (k - 1) d =
      subst (λ m. get_or (insert holes i s) m d ≡ get_or holes (k - 1) d) (omega (arith, kc))
      (get_or-insert_above holes i s d (k - 1) (omega (arith, kc)) stands.within) in
      subst (λ x. (get_or (insert holes i s) j d).at + (get_or (insert holes i s) j d).words < x.at) (sym ek)
      (⊎_elim
      (λ (jc : i < j).
      let ej : get_or (insert holes i s) j d ≡ get_or holes (j - 1) d =
      subst (λ m. get_or (insert holes i s) m d ≡ get_or holes (j - 1) d) (omega (arith, jc))
      (get_or-insert_above holes i s d (j - 1) (omega (arith, jc)) stands.within) in
      subst (λ x. x.at + x.words < (get_or holes (k - 1) d).at) (sym ej) (are.apart (j - 1) (k - 1) d (omega (arith, jc, less)) (omega (arith, n, klt, kc))))
      (λ (je : j ≤ i).
      let e : i ≡ j = omega (arith, je, ja) in
      let ej : get_or (insert holes i s) j d ≡ s = ap (λ m. get_or (insert holes i s) m d) (sym e) ∙ get_or-insert_at holes i s d stands.within in
      subst (λ x. x.at + x.words < (get_or holes (k - 1) d).at) (sym ej) (behind (k - 1) d (omega (arith, kc)) (omega (arith, n, klt, kc))))
      (cases_lt i j)))
      (cases_lt j i))
      (cases_lt k i);
  some = all_insert (λ hole. 1 ≤ hole.words) holes i s stands.words are.some;
  small = all_insert (λ hole. hole.at + hole.words ≤ MAX_HEAP) holes i s stands.small are.small;
}

-- a span that overlaps no hole is after those that start before it
pub stands_between : (holes : List PlaceRange) (i : ℕ) (s : PlaceRange) → AreHoles holes → 1 ≤ s.words → s.at + s.words ≤ MAX_HEAP → IsDisjointFrom holes s
    → i ≤ length holes → AllWithin (λ hole. hole.at < s.at) holes 0 i → AllWithin (λ hole. s.at ≤ hole.at) holes i (length holes) → IsInsertedBetween holes i s
stands_between holes i s are some small none within low high = record {
  within = within;
  words = some;
  small = small;
  before = λ k d klt.
      let lt : k < length holes = omega (arith, klt, within) in
      ⊎_elim (λ done. done) (λ past. let l = low k d (omega arith) klt in omega (arith, l, past, some))
      (All-get_or (λ hole. (hole.at + hole.words ≤ s.at) ⊎ (s.at + s.words ≤ hole.at)) holes k d lt none);
  behind = λ k d le klt.
      ⊎_elim (λ past. let h = high k d le klt in let w = All-get_or (λ hole. 1 ≤ hole.words) holes k d klt are.some in
      omega (arith, h, w, past)) (λ done. done)
      (All-get_or (λ hole. (hole.at + hole.words ≤ s.at) ⊎ (s.at + s.words ≤ hole.at)) holes k d klt none);
}
