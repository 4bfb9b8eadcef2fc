-- The map of held blocks, and the partition after a call.
use Rattle.std.proofs.Common.{◌≡◌, ◌≢◌, ◌<◌, ◌≤◌, ◌+◌, ◌⊎◌, ℕ, zero, suc, Bool, true, false, cond, List, [], ◌∷◌}
use Rattle.std.proofs.Common.{◌++◌, All, Some, None, map, length, get_or, take, drop, arith, refl, sym, ◌∙◌, ap}
use Rattle.std.proofs.Common.{subst, ⊎_elim}
use Rattle.std.specs.Map.{values_of, lookup, remove_entry}
use Rattle.std.specs.BTreeMap.{insert_entry, is_at}
use Rattle.std.specs.Ordering.{nat_cmp, match_ordering}
use Rattle.std.specs.declared.cmp.Ordering.TheVariants.{Greater}
use Rattle.std.proofs.lemmas.Bool.Decides.{nat_tests}
use Rattle.std.proofs.lemmas.Bool.{cases_eq}
use Rattle.std.proofs.lemmas.List.Elements.{All-head, All-tail, All-cons, All-nil, All-get_or}
use Rattle.receive_heap.specs.declared.holes.PlaceRange.{PlaceRange}
use Rattle.receive_heap.specs.declared.extents.Block.{Block}
use Rattle.receive_heap.specs.Layout.{Layout, IsPartition, IsWithout, IsFirstFit, owners_of}
use Rattle.receive_heap.specs.Parts.{IsEntry, IsFirstFitAt}

behind : (number next : ℕ) → number < next → nat_cmp next number ≡ Greater
behind number next lt = grind (arith, nat_tests)

-- an entry whose key is greater than all others is appended
pub insert_entry-last : (entries : List (ℕ × Block)) (next : ℕ) (block : Block) → All (IsEntry next) entries
    → insert_entry nat_cmp entries next block ≡ entries ++ (next, block) ∷ []
insert_entry-last [] next block known = refl
insert_entry-last (e ∷ entries) next block known =
    let head = All-head (IsEntry next) e entries known in
    ap (λ order. match_ordering order ((next, block) ∷ e ∷ entries) ((e.0, block) ∷ entries) (e ∷ insert_entry nat_cmp entries next block)) (behind e.0 next head.2)
    ∙ ap (λ rest. e ∷ rest) (insert_entry-last entries next block (All-tail (IsEntry next) e entries known))

-- ---- the entry with a number

at_own : (number key : ℕ) → number ≡ key → is_at (nat_cmp number) key ≡ true
at_own number key is = grind (arith, nat_tests)

at_other : (number key : ℕ) → number ≢ key → is_at (nat_cmp number) key ≡ false
at_other number key differs = grind (arith, nat_tests)

pub without : (number next : ℕ) (entries : List (ℕ × Block)) (block : Block) → All (IsEntry next) entries → lookup (is_at (nat_cmp number)) entries ≡ Some block
    → IsWithout number (values_of entries) (values_of (remove_entry (is_at (nat_cmp number)) entries))
without number next [] block known found = cc
without number next (e ∷ entries) block known found =
    let test : ℕ → Bool = is_at (nat_cmp number) in
    let head = All-head (IsEntry next) e entries known in
    ⊎_elim
    (λ (own : number ≡ e.0). record {
      before = [];
      block = e.1;
      after = values_of entries;
      was = refl;
      has = head.0 ∙ sym own;
      is = ap (λ v. values_of (cond v entries (e ∷ remove_entry test entries))) (at_own number e.0 own);
    })
    (λ (other : number ≢ e.0).
    let f = at_other number e.0 other in
    let r = without number next entries block (All-tail (IsEntry next) e entries known) (ap (λ v. cond v (Some e.1) (lookup test entries)) (sym f) ∙ found) in
    record {
      before = e.1 ∷ r.before;
      block = r.block;
      after = r.after;
      was = ap (λ xs. e.1 ∷ xs) r.was;
      has = r.has;
      is = ap (λ v. values_of (cond v entries (e ∷ remove_entry test entries))) f ∙ ap (λ xs. e.1 ∷ xs) r.is;
    })
    (cases_eq number e.0)

pub absent : (number next : ℕ) (entries : List (ℕ × Block)) → All (IsEntry next) entries
    → lookup (is_at (nat_cmp number)) entries ≡ None → All (λ block. block.number ≢ number) (values_of entries)
absent number next [] known none = All-nil (λ block. block.number ≢ number)
absent number next (e ∷ entries) known none =
    let test : ℕ → Bool = is_at (nat_cmp number) in
    let head = All-head (IsEntry next) e entries known in
    ⊎_elim
    (λ (own : number ≡ e.0). let found : Some e.1 ≡ None = ap (λ v. cond v (Some e.1) (lookup test entries)) (sym (at_own number e.0 own)) ∙ none in cc)
    (λ (other : number ≢ e.0).
    All-cons (λ block. block.number ≢ number) e.1 (values_of entries) (λ is. other (sym is ∙ head.0))
    (absent number next entries (All-tail (IsEntry next) e entries known) (ap (λ v. cond v (Some e.1) (lookup test entries)) (sym (at_other number e.0 other)) ∙ none)))
    (cases_eq number e.0)

pub present : (number next : ℕ) (entries : List (ℕ × Block)) (block : Block) → All (IsEntry next) entries
    → lookup (is_at (nat_cmp number)) entries ≡ Some block → All (λ held. held.number ≢ number) (values_of entries)
    → ⊥
present number next [] block known found all = cc
present number next (e ∷ entries) block known found all =
    let test : ℕ → Bool = is_at (nat_cmp number) in
    let head = All-head (IsEntry next) e entries known in
    ⊎_elim
    (λ (own : number ≡ e.0). All-head (λ held. held.number ≢ number) e.1 (values_of entries) all (head.0 ∙ sym own))
    (λ (other : number ≢ e.0).
    present number next entries block (All-tail (IsEntry next) e entries known) (ap (λ v. cond v (Some e.1) (lookup test entries)) (sym (at_other number e.0 other)) ∙ found)
    (All-tail (λ held. held.number ≢ number) e.1 (values_of entries) all))
    (cases_eq number e.0)

pub some_words : (number next : ℕ) (entries : List (ℕ × Block)) (block : Block) → All (IsEntry next) entries
    → lookup (is_at (nat_cmp number)) entries ≡ Some block → 1 ≤ block.words
some_words number next [] block known found = cc
some_words number next (e ∷ entries) block known found =
    let test : ℕ → Bool = is_at (nat_cmp number) in
    let head = All-head (IsEntry next) e entries known in
    ⊎_elim
    (λ (own : number ≡ e.0).
    let same : Some e.1 ≡ Some block = ap (λ v. cond v (Some e.1) (lookup test entries)) (sym (at_own number e.0 own)) ∙ found in
    let is : e.1 ≡ block = cc in
    subst (λ (b : Block). 1 ≤ b.words) is head.3)
    (λ (other : number ≢ e.0). some_words number next entries block (All-tail (IsEntry next) e entries known)
    (ap (λ v. cond v (Some e.1) (lookup test entries)) (sym (at_other number e.0 other)) ∙ found))
    (cases_eq number e.0)

pub all_removed : (number next : ℕ) (entries : List (ℕ × Block)) → All (IsEntry next) entries → All (IsEntry next) (remove_entry (is_at (nat_cmp number)) entries)
all_removed number next [] known = known
all_removed number next (e ∷ entries) known =
    let test : ℕ → Bool = is_at (nat_cmp number) in
    let tail = All-tail (IsEntry next) e entries known in
    ⊎_elim
    (λ (own : number ≡ e.0). subst (λ v. All (IsEntry next) (cond v entries (e ∷ remove_entry test entries))) (sym (at_own number e.0 own)) tail)
    (λ (other : number ≢ e.0). subst (λ v. All (IsEntry next) (cond v entries (e ∷ remove_entry test entries))) (sym (at_other number e.0 other))
    (All-cons (IsEntry next) e (remove_entry test entries) (All-head (IsEntry next) e entries known) (all_removed number next entries tail)))
    (cases_eq number e.0)

pub length_removed : (number : ℕ) (entries : List (ℕ × Block)) (block : Block)
    → lookup (is_at (nat_cmp number)) entries ≡ Some block → length (remove_entry (is_at (nat_cmp number)) entries)
    + 1 ≡ length entries
length_removed number [] block found = cc
length_removed number (e ∷ entries) block found =
    let test : ℕ → Bool = is_at (nat_cmp number) in
    ⊎_elim
    (λ (own : number ≡ e.0). subst (λ v. length (cond v entries (e ∷ remove_entry test entries)) + 1 ≡ length (e ∷ entries)) (sym (at_own number e.0 own)) (omega arith))
    (λ (other : number ≢ e.0).
    let f = at_other number e.0 other in
    let r = length_removed number entries block (ap (λ v. cond v (Some e.1) (lookup test entries)) (sym f) ∙ found) in
    subst (λ v. length (cond v entries (e ∷ remove_entry test entries)) + 1 ≡ length (e ∷ entries)) (sym f) (omega (arith, r)))
    (cases_eq number e.0)

pub values_pushed : (entries : List (ℕ × Block)) (e : ℕ × Block) → values_of (entries ++ e ∷ []) ≡ values_of entries ++ e.1 ∷ []
values_pushed [] e = refl
values_pushed (x ∷ entries) e = ap (λ rest. x.1 ∷ rest) (values_pushed entries e)

pub numbers_are : (next : ℕ) (entries : List (ℕ × Block)) → All (IsEntry next) entries
    → map (λ (block : Block). block.number) (values_of entries) ≡ map (λ (e : ℕ × Block). e.0) entries
numbers_are next [] known = refl
numbers_are next (e ∷ entries) known =
    ap (λ n. n ∷ map (λ (block : Block). block.number) (values_of entries)) (All-head (IsEntry next) e entries known).0
    ∙ ap (λ rest. e.0 ∷ rest) (numbers_are next entries (All-tail (IsEntry next) e entries known))

-- ---- the first hole that fits

split_at : (holes : List PlaceRange) (i : ℕ) (x : PlaceRange) → i < length holes → x ≡ get_or holes i x → holes ≡ take i holes ++ x ∷ drop (suc i) holes
split_at [] i x lt is = absurd (omega (arith, lt))
split_at (h ∷ holes) zero x lt is = ap (λ y. y ∷ holes) (sym is)
split_at (h ∷ holes) (suc i) x lt is = ap (λ rest. h ∷ rest) (split_at holes i x (omega (arith, lt)) is)

all_front : (words : ℕ) (holes : List PlaceRange) (i : ℕ) → ((k : ℕ) (d : PlaceRange) → k < i → (get_or holes k d).words < words)
    → i ≤ length holes → All (λ hole. hole.words < words) (take i holes)
all_front words holes zero each le = All-nil (λ hole. hole.words < words)
all_front words [] (suc i) each le = All-nil (λ hole. hole.words < words)
all_front words (h ∷ holes) (suc i) each le =
    All-cons (λ hole. hole.words < words) h (take i holes) (each 0 h (omega arith)) (all_front words holes i (λ k d lt. each (suc k) d (omega (arith, lt))) (omega (arith, le)))

pub first_from_index : (holes : List PlaceRange) (words i : ℕ) (x : PlaceRange) → IsFirstFitAt holes words i → x ≡ get_or holes i x → IsFirstFit holes words x.at
first_from_index holes words i x fits is = record {
  before = take i holes;
  hole = x;
  after = drop (suc i) holes;
  is = split_at holes i x fits.within is;
  too_small = all_front words holes i (λ k d lt. fits.before k d (omega arith) lt) (omega (arith, fits.within));
  fits = subst (λ h. words ≤ h.words) (sym is) (fits.there x);
  at_front = refl;
}

pub fits_some : (holes : List PlaceRange) (words index : ℕ) → IsFirstFitAt holes words index → All (λ hole. hole.words < words) holes → ⊥
fits_some holes words index fits all =
    let d : PlaceRange = record { at = 0; words = 0 } in
    omega (arith, fits.there d, All-get_or (λ hole. hole.words < words) holes index d fits.within all)

-- the first hole that fits is unique
one_first : (words : ℕ) (xs ys : List PlaceRange) (x y : PlaceRange) (more others : List PlaceRange) → xs ++ x ∷ more ≡ ys ++ y ∷ others
    → All (λ hole. hole.words < words) xs → All (λ hole. hole.words < words) ys → words ≤ x.words → words ≤ y.words → x ≡ y
one_first words [] [] x y more others e xs ys hx hy = cc
one_first words [] (s ∷ ys) x y more others e all_x all_y hx hy =
    let same : x ≡ s = cc in
    absurd (omega (arith, ap (λ (h : PlaceRange). h.words) same, hx, All-head (λ hole. hole.words < words) s ys all_y))
one_first words (s ∷ xs) [] x y more others e all_x all_y hx hy =
    let same : s ≡ y = cc in
    absurd (omega (arith, ap (λ (h : PlaceRange). h.words) same, hy, All-head (λ hole. hole.words < words) s xs all_x))
one_first words (s ∷ xs) (z ∷ ys) x y more others e all_x all_y hx hy =
    let rest : xs ++ x ∷ more ≡ ys ++ y ∷ others = cc in
    one_first words xs ys x y more others rest (All-tail (λ hole. hole.words < words) s xs all_x) (All-tail (λ hole. hole.words < words) z ys all_y) hx hy

pub one_fit : (holes : List PlaceRange) (words at other : ℕ) → IsFirstFit holes words at → IsFirstFit holes words other → at ≡ other
one_fit holes words at other a b =
    a.at_front ∙ ap (λ (h : PlaceRange). h.at) (one_first words a.before b.before a.hole b.hole a.after b.after (sym a.is ∙ b.is) a.too_small b.too_small a.fits b.fits) ∙ sym b.at_front

-- if a hole fits, not all are too small
pub fit_some : (holes : List PlaceRange) (words at : ℕ) → IsFirstFit holes words at → All (λ hole. hole.words < words) holes → ⊥
fit_some holes words at fit all =
    omega (arith, fit.fits, All-middle fit.before fit.hole fit.after (subst (All (λ hole. hole.words < words)) fit.is all))
  where
    All-middle : (before : List PlaceRange) (hole : PlaceRange) (after : List PlaceRange) → All (λ h. h.words < words) (before ++ hole ∷ after) → hole.words < words
    All-middle [] hole after all = All-head (λ h. h.words < words) hole after all
    All-middle (b ∷ before) hole after all = All-middle before hole after (All-tail (λ h. h.words < words) b (before ++ hole ∷ after) all)

-- ---- the places

-- two heaps whose places have equally many owners
pub partition_kept : (old new : Layout) → old.words ≡ new.words → ((place : ℕ) → owners_of new place ≡ owners_of old place) → IsPartition old → IsPartition new
partition_kept old new same owners is = record {
  inside = λ place from below. owners place ∙ is.inside place from (omega (arith, same, below));
  outside = λ place out. owners place ∙ is.outside place (subst (λ words. (place < 1) ⊎ (words ≤ place)) (sym same) out);
}
