-- Disjoint holes are determined by their places.
use Rattle.std.proofs.Common.{◌≡◌, ℕ, suc, ◌+◌, ◌<◌, ◌≤◌, List, [], ◌∷◌, All, refl, sym, ap, arith, ⊎_elim, inl, inr}
use Rattle.std.proofs.lemmas.Bool.{cases_lt}
use Rattle.std.proofs.lemmas.Bool.Decides.{nat_tests}
use Rattle.std.proofs.lemmas.List.Elements.{All-head, All-tail}
use Rattle.std.proofs.lemmas.List.Sums.{sum_by-cons}
use Rattle.std.specs.List.{count_by}
use Rattle.receive_heap.specs.declared.holes.PlaceRange.{PlaceRange}
use Rattle.receive_heap.specs.declared.extents.Block.{Block}
use Rattle.receive_heap.specs.Layout.{Layout, AreSeparate, IsPartitioned, AreHolesDetermined, has_place}
use Rattle.receive_heap.specs.Parts.{holes_at, one_at}

-- the places of two lists are the same
abbrev SamePlaces : List PlaceRange → List PlaceRange → Type 0
SamePlaces xs ys = (place : ℕ) → holes_at xs place ≡ holes_at ys place

counted : (x : PlaceRange) (xs : List PlaceRange) (place : ℕ) → holes_at (x ∷ xs) place ≡ one_at x place + holes_at xs place
counted x xs place = sum_by-cons (λ (h : PlaceRange). one_at h place) x xs

has_own : (x : PlaceRange) (xs : List PlaceRange) (place : ℕ) → x.at ≤ place → place < x.at + x.words → 1 ≤ holes_at (x ∷ xs) place
has_own x xs place from below = let one : one_at x place ≡ 1 = grind (arith, nat_tests) in let all = counted x xs place in omega (arith, one, all)

has_not : (x : PlaceRange) (place : ℕ) → x.at + x.words ≤ place → one_at x place ≡ 0
has_not x place past = grind (arith, nat_tests)

not_yet : (x : PlaceRange) (place : ℕ) → place < x.at → one_at x place ≡ 0
not_yet x place before = grind (arith, nat_tests)

none_before : (xs : List PlaceRange) (place : ℕ) → All (λ hole. place < hole.at) xs → holes_at xs place ≡ 0
none_before [] place all = refl
none_before (x ∷ xs) place all =
    let here = not_yet x place (All-head (λ (hole : PlaceRange). place < hole.at) x xs all) in
    let rest = none_before xs place (All-tail (λ (hole : PlaceRange). place < hole.at) x xs all) in
    let sum = counted x xs place in
    omega (arith, here, rest, sum)

behind_head : (x : PlaceRange) (xs : List PlaceRange) → AreSeparate (x ∷ xs) → All (λ hole. x.at + x.words < hole.at) xs
behind_head x xs apart k d lt = apart 0 (suc k) d (omega arith) (omega (arith, lt))

apart_tail : (x : PlaceRange) (xs : List PlaceRange) → AreSeparate (x ∷ xs) → AreSeparate xs
apart_tail x xs apart i j d le lt = apart (suc i) (suc j) d (omega (arith, le)) (omega (arith, lt))

weaker : (low high : ℕ) (xs : List PlaceRange) → low ≤ high → All (λ hole. high < hole.at) xs → All (λ hole. low < hole.at) xs
weaker low high xs le all k d lt = let h = all k d lt in omega (arith, h, le)

-- if a place is before the first hole, all holes start after it
all_behind : (x : PlaceRange) (xs : List PlaceRange) (place : ℕ) → AreSeparate (x ∷ xs) → place < x.at → holes_at (x ∷ xs) place ≡ 0
all_behind x xs place apart before =
    let here = not_yet x place before in
    let rest = none_before xs place (weaker place (x.at + x.words) xs (omega (arith, before)) (behind_head x xs apart)) in
    let sum = counted x xs place in
    omega (arith, here, rest, sum)

-- right after the first hole there is none
none_right_behind : (x : PlaceRange) (xs : List PlaceRange) → AreSeparate (x ∷ xs) → holes_at (x ∷ xs) (x.at + x.words) ≡ 0
none_right_behind x xs apart =
    let here = has_not x (x.at + x.words) (omega arith) in
    let rest = none_before xs (x.at + x.words) (behind_head x xs apart) in
    let sum = counted x xs (x.at + x.words) in
    omega (arith, here, rest, sum)

not_before : (x y : PlaceRange) (xs ys : List PlaceRange) → AreSeparate (y ∷ ys) → 1 ≤ x.words → SamePlaces (x ∷ xs) (y ∷ ys) → y.at ≤ x.at
not_before x y xs ys apart some same =
    ⊎_elim
    (λ (less : x.at < y.at).
    let own = has_own x xs x.at (omega arith) (omega (arith, some)) in
    let none = all_behind y ys x.at apart less in
    let both = same x.at in
    omega (arith, own, none, both))
    (λ (le : y.at ≤ x.at). le)
    (cases_lt x.at y.at)

not_longer : (x y : PlaceRange) (xs ys : List PlaceRange) → AreSeparate (x ∷ xs) → x.at ≡ y.at → SamePlaces (x ∷ xs) (y ∷ ys) → y.words ≤ x.words
not_longer x y xs ys apart at same =
    ⊎_elim
    (λ (less : x.words < y.words).
    let own = has_own y ys (x.at + x.words) (omega (arith, at)) (omega (arith, at, less)) in
    let none = none_right_behind x xs apart in
    let both = same (x.at + x.words) in
    omega (arith, own, none, both))
    (λ (le : y.words ≤ x.words). le)
    (cases_lt x.words y.words)

one_head : (x y : PlaceRange) (xs ys : List PlaceRange) → AreSeparate (x ∷ xs) → AreSeparate (y ∷ ys) → 1 ≤ x.words → 1 ≤ y.words → SamePlaces (x ∷ xs) (y ∷ ys) → x ≡ y
one_head x y xs ys a b p q same =
    let back : SamePlaces (y ∷ ys) (x ∷ xs) = λ place. sym (same place) in
    let low = not_before x y xs ys b p same in
    let high = not_before y x ys xs a q back in
    let at : x.at ≡ y.at = omega (arith, low, high) in
    let short = not_longer x y xs ys a at same in
    let long = not_longer y x ys xs b (sym at) back in
    let words : x.words ≡ y.words = omega (arith, short, long) in
    (λ i. record { at = at i; words = words i })

same_tail : (x y : PlaceRange) (xs ys : List PlaceRange) → x ≡ y → SamePlaces (x ∷ xs) (y ∷ ys) → SamePlaces xs ys
same_tail x y xs ys is same place =
    let here : one_at x place ≡ one_at y place = ap (λ (h : PlaceRange). one_at h place) is in
    let both = same place in
    let left = counted x xs place in
    let right = counted y ys place in
    omega (arith, here, both, left, right)

one_list : (xs ys : List PlaceRange) → AreSeparate xs → AreSeparate ys → All (λ hole. 1 ≤ hole.words) xs → All (λ hole. 1 ≤ hole.words) ys → SamePlaces xs ys → xs ≡ ys
one_list [] [] a b p q same = refl
one_list [] (y ∷ ys) a b p q same =
    let own = has_own y ys y.at (omega arith) (omega (arith, All-head (λ (hole : PlaceRange). 1 ≤ hole.words) y ys q)) in
    let both = same y.at in
    absurd (omega (arith, own, both))
one_list (x ∷ xs) [] a b p q same =
    let own = has_own x xs x.at (omega arith) (omega (arith, All-head (λ (hole : PlaceRange). 1 ≤ hole.words) x xs p)) in
    let both = same x.at in
    absurd (omega (arith, own, both))
one_list (x ∷ xs) (y ∷ ys) a b p q same =
    let head = one_head x y xs ys a b (All-head (λ (hole : PlaceRange). 1 ≤ hole.words) x xs p) (All-head (λ (hole : PlaceRange). 1 ≤ hole.words) y ys q) same in
    let tail = one_list xs ys (apart_tail x xs a) (apart_tail y ys b) (All-tail (λ (hole : PlaceRange). 1 ≤ hole.words) x xs p) (All-tail (λ (hole : PlaceRange). 1 ≤ hole.words) y ys q)
    (same_tail x y xs ys head same) in
    (λ i. head i ∷ tail i)

-- each place has one owner, so with the same held blocks the holes have the same places
same_places : (one other : Layout) → IsPartitioned one → IsPartitioned other → one.words ≡ other.words → one.held ≡ other.held → SamePlaces one.holes other.holes
same_places one other a b words held place =
    let blocks : count_by (λ (block : Block). has_place block.at block.words place) one.held ≡ count_by (λ (block : Block). has_place block.at block.words place) other.held =
    ap (count_by (λ (block : Block). has_place block.at block.words place)) held in
    ⊎_elim
    (λ (low : place < 1).
    let x = a.partition.outside place (inl low) in
    let y = b.partition.outside place (inl low) in
    omega (arith, x, y))
    (λ (from : 1 ≤ place). ⊎_elim
    (λ (below : place < one.words).
    let x = a.partition.inside place from below in
    let y = b.partition.inside place from (omega (arith, below, words)) in
    omega (arith, x, y, blocks))
    (λ (past : one.words ≤ place).
    let x = a.partition.outside place (inr past) in
    let y = b.partition.outside place (inr (omega (arith, past, words))) in
    omega (arith, x, y))
    (cases_lt place one.words))
    (cases_lt place 1)

pub held_determine_holes : AreHolesDetermined
held_determine_holes one other a b words held =
    one_list one.holes other.holes a.apart b.apart a.hole_words b.hole_words (same_places one other a b words held)
