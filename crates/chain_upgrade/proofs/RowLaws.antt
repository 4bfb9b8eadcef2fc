-- How changes of cuts move a row.
use Rattle.std.proofs.Common.{◌≡◌, ◌≢◌, ℕ, ◌+◌, ◌-◌, ◌<◌, ◌≤◌, ◌==◌, zero, suc, nat_lt, nat_le, min, Bool, true}
use Rattle.std.proofs.Common.{false, not, if◌then◌else◌, inl, inr, List, [], ◌∷◌, ◌++◌, length, map, filter, find}
use Rattle.std.proofs.Common.{get_or, Some, None, slice_get, remove, refl, ap, sym, ◌∙◌, arith}
use Rattle.std.proofs.lemmas.Bool.{cases_lt, cases_eq}
use Rattle.std.proofs.lemmas.Bool.Decides.{nat_tests}
use Rattle.std.proofs.lemmas.Grind.{common_steps}
use Rattle.engine_core.specs.Moves.{Row, first_at, returned_to, moved_up, advanced, restarted, without_call}
use Rattle.chain_upgrade.specs.Chains.{AreAscendingAbove, AreAscending, IsFallingFrom}
use Rattle.chain_upgrade.specs.Cuts.{position_at, row_from, cut_at, IsFalling, zeroed, closed_up, raised_at, taken_out, lowered}
use Rattle.chain_upgrade.proofs.CutLaws.{bottom, position-falls, position-over, position-under, position-between}
use Rattle.chain_upgrade.proofs.CutLaws.{position-zeroed, position-behind, position-before, position-raised}
use Rattle.chain_upgrade.proofs.CutLaws.{position-unraised, position-front, position-back, position-kept}
use Rattle.chain_upgrade.proofs.CutLaws.{position-lowered}

-- ---- numbers that ascend

above-low : (low : ℕ) (seqs : List ℕ) (i : ℕ) → AreAscendingAbove low seqs → i < length seqs → low < get_or seqs i 0
above-low low [] i above within = absurd (omega arith)
above-low low (s ∷ ss) zero above within = above.0
above-low low (s ∷ ss) (suc i) above within = omega (arith, above.0, above-low s ss i above.1 (omega arith))

above-lt : (low : ℕ) (seqs : List ℕ) (i j : ℕ) → AreAscendingAbove low seqs → i < j → j < length seqs → get_or seqs i 0 < get_or seqs j 0
above-lt low [] i j above lt within = absurd (omega arith)
above-lt low (s ∷ ss) zero (suc j) above lt within = above-low s ss j above.1 (omega arith)
above-lt low (s ∷ ss) (suc i) (suc j) above lt within = above-lt s ss i j above.1 (omega arith) (omega arith)
above-lt low (s ∷ ss) zero zero above lt within = absurd (omega arith)
above-lt low (s ∷ ss) (suc i) zero above lt within = absurd (omega arith)

above-from : (seqs : List ℕ) → AreAscending seqs → (i j : ℕ) → i < j → j < length seqs → get_or seqs i 0 < get_or seqs j 0
above-from [] ascends i j lt within = absurd (omega arith)
above-from (s ∷ ss) ascends zero zero lt within = absurd (omega arith)
above-from (s ∷ ss) ascends (suc i) zero lt within = absurd (omega arith)
above-from (s ∷ ss) ascends zero (suc j) lt within = above-low s ss j ascends (omega arith)
above-from (s ∷ ss) ascends (suc i) (suc j) lt within = above-lt s ss i j ascends (omega arith) (omega arith)

pub above-end : (low : ℕ) (seqs : List ℕ) (s : ℕ) → AreAscendingAbove low seqs → low < s → ((i : ℕ) → i < length seqs → get_or seqs i 0 < s) → AreAscendingAbove low (seqs ++ s ∷ [])
above-end low [] s above less all = (less, tt)
above-end low (t ∷ ts) s above less all = (above.0, above-end t ts s above.1 (all 0 (omega arith)) (λ i within. all (suc i) (omega arith)))

pub ascends-end : (seqs : List ℕ) (s : ℕ) → AreAscending seqs → ((i : ℕ) → i < length seqs → get_or seqs i 0 < s) → AreAscending (seqs ++ s ∷ [])
ascends-end [] s ascends all = tt
ascends-end (t ∷ ts) s ascends all = above-end t ts s ascends (all 0 (omega arith)) (λ i within. all (suc i) (omega arith))

above-more : (low below : ℕ) (seqs : List ℕ) → below ≤ low → AreAscendingAbove low seqs → AreAscendingAbove below seqs
above-more low below [] le above = tt
above-more low below (s ∷ ss) le above = (omega (arith, above.0), above.1)

above-without : (low : ℕ) (seqs : List ℕ) (i : ℕ) → AreAscendingAbove low seqs → AreAscendingAbove low (remove seqs i)
above-without low [] zero above = tt
above-without low [] (suc i) above = tt
above-without low (s ∷ ss) zero above = above-more s low ss (omega (arith, above.0)) above.1
above-without low (s ∷ ss) (suc i) above = (above.0, above-without s ss i above.1)

ascends-above : (s : ℕ) (ss : List ℕ) → AreAscendingAbove s ss → AreAscending ss
ascends-above s [] above = tt
ascends-above s (t ∷ ts) above = above.1

pub ascends-without : (seqs : List ℕ) (i : ℕ) → AreAscending seqs → AreAscending (remove seqs i)
ascends-without [] zero ascends = tt
ascends-without [] (suc i) ascends = tt
ascends-without (s ∷ ss) zero ascends = ascends-above s ss ascends
ascends-without (s ∷ ss) (suc i) ascends = above-without s ss i ascends

-- ---- a row of the same calls

row-by : (g : ℕ → ℕ → ℕ) (k : ℕ) (cs ds seqs : List ℕ)
    → ((i place : ℕ) → i < length seqs → place ≡ k + i → position_at place ds ≡ g (get_or seqs i 0) (position_at place cs))
    → row_from k ds seqs ≡ map (λ call. (call.0, g call.0 call.1)) (row_from k cs seqs)
row-by g k cs ds [] moves = refl
row-by g k cs ds (s ∷ ss) moves =
    let here : position_at k ds ≡ g s (position_at k cs) = moves 0 k (omega arith) (omega arith) in
    let rest : row_from (k + 1) ds ss ≡ map (λ call. (call.0, g call.0 call.1)) (row_from (k + 1) cs ss) =
    row-by g (k + 1) cs ds ss (λ i place within is. moves (suc i) place (omega arith) (omega arith)) in
    cc

pub row-back : (p : ℕ) (cs seqs : List ℕ) → row_from 0 (zeroed p cs) seqs ≡ returned_to p (row_from 0 cs seqs)
row-back p cs seqs = row-by (λ s q. min q p) 0 cs (zeroed p cs) seqs (λ i place within is. position-zeroed place p cs)

up-behind : (p q m : ℕ) → p < q → m + 1 ≡ q → m ≡ (if nat_lt p q then q - 1 else q)
up-behind p q m behind moved = grind (arith, nat_tests)

up-before : (p q m : ℕ) → q ≤ p → m ≡ q → m ≡ (if nat_lt p q then q - 1 else q)
up-before p q m before same = grind (arith, nat_tests)

one-up : (k top p : ℕ) (cs : List ℕ) → IsFalling top cs
    → position_at k (closed_up p cs) ≡ (if nat_lt p (position_at k cs) then position_at k cs - 1 else position_at k cs)
one-up k top p cs falls = elim (cases_lt p (position_at k cs)) [
  | inl behind ↦ up-behind p (position_at k cs) (position_at k (closed_up p cs)) behind (position-behind k top p cs falls behind)
  | inr before ↦ up-before p (position_at k cs) (position_at k (closed_up p cs)) before (position-before k top p cs falls before)
]

pub row-up : (top p : ℕ) (cs seqs : List ℕ) → IsFalling top cs → row_from 0 (closed_up p cs) seqs ≡ moved_up p (row_from 0 cs seqs)
row-up top p cs seqs falls = row-by (λ s q. if nat_lt p q then q - 1 else q) 0 cs (closed_up p cs) seqs (λ i place within is. one-up place top p cs falls)

itself-on : (s seq q : ℕ) → s ≡ seq → (if s == seq then q + 1 else q) ≡ q + 1
itself-on s seq q same = grind (arith, nat_tests)

other-on : (s seq q : ℕ) → s ≢ seq → (if s == seq then q + 1 else q) ≡ q
other-on s seq q other = grind (arith, nat_tests)

pub apart : (seqs : List ℕ) (i j : ℕ) → AreAscending seqs → i ≢ j → i < length seqs → j < length seqs → get_or seqs i 0 ≢ get_or seqs j 0
apart seqs i j ascends other within there same = elim (cases_lt i j) [
  | inl less ↦ omega (arith, above-from seqs ascends i j less there)
  | inr more ↦ omega (arith, above-from seqs ascends j i (omega arith) within)
]

one-on : (top p j i place : ℕ) (cs seqs : List ℕ) → IsFalling top cs → p < length cs → j ≡ get_or cs p 0 → j < cut_at top cs p
    → j < length seqs → AreAscending seqs → i < length seqs → place ≡ i
    → position_at place (raised_at p cs)
    ≡ (if get_or seqs i 0 == get_or seqs j 0 then position_at place cs + 1 else position_at place cs)
one-on top p j i place cs seqs falls within is below there ascends inside at = elim (cases_eq i j) [
  | inl same ↦
      let seqs-same : get_or seqs i 0 ≡ get_or seqs j 0 = ap (λ (n : ℕ). get_or seqs n 0) same in
      omega (
        arith,
        itself-on (get_or seqs i 0) (get_or seqs j 0) (position_at place cs) seqs-same,
        position-raised place top p cs falls within (omega arith) (omega arith),
        position-between place top p cs falls (omega arith) (omega arith),
      )
  | inr other ↦
      let away : place ≢ get_or cs p 0 = λ same. other (omega arith) in
      omega (
        arith,
        other-on (get_or seqs i 0) (get_or seqs j 0) (position_at place cs) (apart seqs i j ascends other inside there),
        position-unraised place p cs away,
      )
]

pub row-on : (top p j : ℕ) (cs seqs : List ℕ) → IsFalling top cs → p < length cs → j ≡ get_or cs p 0 → j < cut_at top cs p
    → j < length seqs → AreAscending seqs → row_from 0 (raised_at p cs) seqs ≡ advanced (get_or seqs j 0) (row_from 0 cs seqs)
row-on top p j cs seqs falls within is below there ascends =
    row-by (λ s q. if s == get_or seqs j 0 then q + 1 else q) 0 cs (raised_at p cs) seqs
    (λ i place inside at. one-on top p j i place cs seqs falls within is below there ascends inside (omega arith))

before-again : (s seq q : ℕ) → s < seq → (if nat_lt s seq then q else 0) ≡ q
before-again s seq q less = grind (arith, nat_tests)

behind-again : (s seq q : ℕ) → seq ≤ s → (if nat_lt s seq then q else 0) ≡ 0
behind-again s seq q more = grind (arith, nat_tests)

least : (seqs : List ℕ) (i j : ℕ) → AreAscending seqs → j ≤ i → i < length seqs → get_or seqs j 0 ≤ get_or seqs i 0
least seqs i j ascends le inside = elim (cases_lt j i) [
  | inl less ↦ omega (arith, above-from seqs ascends j i less inside)
  | inr more ↦ let same : i ≡ j = omega arith in omega (arith, ap (λ (n : ℕ). get_or seqs n 0) same)
]

one-again : (j i place : ℕ) (cs seqs : List ℕ) → j < length seqs → AreAscending seqs → i < length seqs → place ≡ i
    → position_at place (lowered j cs) ≡ (if nat_lt (get_or seqs i 0) (get_or seqs j 0) then position_at place cs else 0)
one-again j i place cs seqs there ascends inside at = elim (cases_lt i j) [
  | inl less ↦ omega (
    arith,
    before-again (get_or seqs i 0) (get_or seqs j 0) (position_at place cs) (above-from seqs ascends i j less there),
    position-kept place j cs (omega arith),
  )
  | inr more ↦ omega (
    arith,
    behind-again (get_or seqs i 0) (get_or seqs j 0) (position_at place cs) (least seqs i j ascends more inside),
    position-lowered place j cs (omega arith),
  )
]

pub row-again : (j : ℕ) (cs seqs : List ℕ) → j < length seqs → AreAscending seqs
    → row_from 0 (lowered j cs) seqs ≡ restarted (get_or seqs j 0) (row_from 0 cs seqs)
row-again j cs seqs there ascends =
    row-by (λ s q. if nat_lt s (get_or seqs j 0) then q else 0) 0 cs (lowered j cs) seqs
    (λ i place inside at. one-again j i place cs seqs there ascends inside (omega arith))

-- ---- one more call, and one less

row-end : (k place : ℕ) (cs seqs : List ℕ) (s : ℕ) → place ≡ k + length seqs → position_at place cs ≡ 0
    → row_from k cs (seqs ++ s ∷ []) ≡ row_from k cs seqs ++ (s, 0) ∷ []
row-end k place cs [] s at zero_there =
    let same : k ≡ place = omega arith in
    ap (λ (n : ℕ). (s, n) ∷ []) (ap (λ (n : ℕ). position_at n cs) same ∙ zero_there)
row-end k place cs (t ∷ ts) s at zero_there =
    ap (λ (row : Row). (t, position_at k cs) ∷ row) (row-end (k + 1) place cs ts s (omega arith) zero_there)

pub row-push : (cs seqs : List ℕ) (s : ℕ) → IsFalling (length seqs) cs → row_from 0 cs (seqs ++ s ∷ []) ≡ row_from 0 cs seqs ++ (s, 0) ∷ []
row-push cs seqs s falls = row-end 0 (length seqs) cs seqs s (omega arith) (bottom (length seqs) (length seqs) cs falls (omega arith))

row-shift : (k j : ℕ) (cs seqs : List ℕ) → j ≤ k → row_from k (taken_out j cs) seqs ≡ row_from (k + 1) cs seqs
row-shift k j cs [] le = refl
row-shift k j cs (s ∷ ss) le =
    let here : position_at k (taken_out j cs) ≡ position_at (k + 1) cs = position-back k j cs le in
    let rest : row_from (k + 1) (taken_out j cs) ss ≡ row_from (k + 1 + 1) cs ss = row-shift (k + 1) j cs ss (omega arith) in
    cc

pub filter-in : (p : ℕ × ℕ → Bool) (x : ℕ × ℕ) (xs : Row) → p x ≡ true → filter p (x ∷ xs) ≡ x ∷ filter p xs
filter-in p x xs is = rw is

pub filter-out : (p : ℕ × ℕ → Bool) (x : ℕ × ℕ) (xs : Row) → p x ≡ false → filter p (x ∷ xs) ≡ filter p xs
filter-out p x xs is = rw is

unlike : (a b : ℕ) → a < b → not (a == b) ≡ true
unlike a b less = grind (arith, nat_tests, common_steps)

unlike-below : (a b : ℕ) → b < a → not (a == b) ≡ true
unlike-below a b less = grind (arith, nat_tests, common_steps)

alike : (a : ℕ) → not (a == a) ≡ false
alike a = grind (arith, nat_tests, common_steps)

row-kept : (seq low k : ℕ) (cs seqs : List ℕ) → seq ≤ low → AreAscendingAbove low seqs → without_call seq (row_from k cs seqs) ≡ row_from k cs seqs
row-kept seq low k cs [] le above = refl
row-kept seq low k cs (s ∷ ss) le above =
    let here = filter-in (λ call. not (seq == call.0)) (s, position_at k cs) (row_from (k + 1) cs ss) (unlike seq s (omega (arith, above.0))) in
    here ∙ ap (λ (row : Row). (s, position_at k cs) ∷ row) (row-kept seq s (k + 1) cs ss (omega (arith, above.0)) above.1)

row-less : (k j i low : ℕ) (cs seqs : List ℕ) → j ≡ k + i → i < length seqs → AreAscendingAbove low seqs
    → row_from k (taken_out j cs) (remove seqs i) ≡ without_call (get_or seqs i 0) (row_from k cs seqs)
row-less k j i low cs [] at inside above = absurd (omega arith)
row-less k j zero low cs (s ∷ ss) at inside above =
    let gone = filter-out (λ call. not (s == call.0)) (s, position_at k cs) (row_from (k + 1) cs ss) (alike s) in
    let kept = row-kept s s (k + 1) cs ss (omega arith) above.1 in
    let shifted = row-shift k j cs ss (omega arith) in
    shifted ∙ (sym kept ∙ sym gone)
row-less k j (suc i) low cs (s ∷ ss) at inside above =
    let less = above-low s ss i above.1 (omega arith) in
    let here = filter-in (λ call. not (get_or ss i 0 == call.0)) (s, position_at k cs) (row_from (k + 1) cs ss) (unlike-below (get_or ss i 0) s less) in
    let front : position_at k (taken_out j cs) ≡ position_at k cs = position-front k j cs (omega arith) in
    let rest : row_from (k + 1) (taken_out j cs) (remove ss i) ≡ without_call (get_or ss i 0) (row_from (k + 1) cs ss) = row-less (k + 1) j i s cs ss (omega arith) (omega arith) above.1 in
    ap (λ (n : ℕ). (s, n) ∷ row_from (k + 1) (taken_out j cs) (remove ss i)) front
    ∙ (ap (λ (row : Row). (s, position_at k cs) ∷ row) rest ∙ sym here)

pub row-without : (j : ℕ) (cs seqs : List ℕ) → j < length seqs → AreAscending seqs
    → row_from 0 (taken_out j cs) (remove seqs j) ≡ without_call (get_or seqs j 0) (row_from 0 cs seqs)
row-without j cs [] inside ascends = absurd (omega arith)
row-without zero cs (s ∷ ss) inside ascends =
    let gone = filter-out (λ call. not (s == call.0)) (s, position_at 0 cs) (row_from 1 cs ss) (alike s) in
    let kept = row-kept s s 1 cs ss (omega arith) ascends in
    let shifted = row-shift 0 0 cs ss (omega arith) in
    shifted ∙ (sym kept ∙ sym gone)
row-without (suc i) cs (s ∷ ss) inside ascends =
    let less = above-low s ss i ascends (omega arith) in
    let here = filter-in (λ call. not (get_or ss i 0 == call.0)) (s, position_at 0 cs) (row_from 1 cs ss) (unlike-below (get_or ss i 0) s less) in
    let front : position_at 0 (taken_out (suc i) cs) ≡ position_at 0 cs = position-front 0 (suc i) cs (omega arith) in
    let rest : row_from 1 (taken_out (suc i) cs) (remove ss i) ≡ without_call (get_or ss i 0) (row_from 1 cs ss) = row-less 1 (suc i) i s cs ss (omega arith) (omega arith) ascends in
    ap (λ (n : ℕ). (s, n) ∷ row_from 1 (taken_out (suc i) cs) (remove ss i)) front
    ∙ (ap (λ (row : Row). (s, position_at 0 cs) ∷ row) rest ∙ sym here)

-- the first call for transport leaves
pub row-rest : (cs : List ℕ) (s : ℕ) (ss : List ℕ) → row_from 0 cs (s ∷ ss) ≡ (s, position_at 0 cs) ∷ row_from 0 (taken_out 0 cs) ss
row-rest cs s ss = ap (λ (row : Row). (s, position_at 0 cs) ∷ row) (sym (row-shift 0 0 cs ss (omega arith)))

-- ---- properties of a row

pub row-numbers : (k : ℕ) (cs seqs : List ℕ) → map (λ call. call.0) (row_from k cs seqs) ≡ seqs
row-numbers k cs [] = refl
row-numbers k cs (s ∷ ss) = ap (λ (seqs : List ℕ). s ∷ seqs) (row-numbers (k + 1) cs ss)

pub row-falls : (k n : ℕ) (cs seqs : List ℕ) → position_at k cs ≤ n → IsFallingFrom n (row_from k cs seqs)
row-falls k n cs [] le = tt
row-falls k n cs (s ∷ ss) le = (le, row-falls (k + 1) (position_at k cs) cs ss (position-falls k (k + 1) cs (omega arith)))

row-place : (k i place : ℕ) (cs seqs : List ℕ) → i < length seqs → place ≡ k + i → slice_get (row_from k cs seqs) i ≡ Some (get_or seqs i 0, position_at place cs)
row-place k i place cs [] inside at = absurd (omega arith)
row-place k zero place cs (s ∷ ss) inside at = let same : k ≡ place = omega arith in ap (λ (n : ℕ). Some (s, position_at n cs)) same
row-place k (suc i) place cs (s ∷ ss) inside at = row-place (k + 1) i place cs ss (omega arith) (omega arith)

pub row-at : (i : ℕ) (cs seqs : List ℕ) → i < length seqs → slice_get (row_from 0 cs seqs) i ≡ Some (get_or seqs i 0, position_at i cs)
row-at i cs seqs inside = row-place 0 i i cs seqs inside (omega arith)

row-past : (k i : ℕ) (cs seqs : List ℕ) → length seqs ≤ i → slice_get (row_from k cs seqs) i ≡ None
row-past k i cs [] past = refl
row-past k zero cs (s ∷ ss) past = absurd (omega arith)
row-past k (suc i) cs (s ∷ ss) past = row-past (k + 1) i cs ss (omega arith)

pub row-none-at : (i : ℕ) (cs seqs : List ℕ) → length seqs ≤ i → slice_get (row_from 0 cs seqs) i ≡ None
row-none-at i cs seqs past = row-past 0 i cs seqs past

find-here : (p : ℕ × ℕ → Bool) (x : ℕ × ℕ) (xs : Row) → p x ≡ true → find p (x ∷ xs) ≡ Some x
find-here p x xs is = rw is

pub find-later : (p : ℕ × ℕ → Bool) (x : ℕ × ℕ) (xs : Row) → p x ≡ false → find p (x ∷ xs) ≡ find p xs
find-later p x xs is = rw is

equal : (a b : ℕ) → a ≡ b → (a == b) ≡ true
equal a b same = grind (arith, nat_tests)

pub unequal : (a b : ℕ) → a ≢ b → (a == b) ≡ false
unequal a b other = grind (arith, nat_tests)

found : (k i j top p : ℕ) (cs seqs : List ℕ) → IsFalling top cs → j ≡ get_or cs p 0 → j < cut_at top cs p → i < length seqs → j ≡ k + i
    → find (λ call. call.1 == p) (row_from k cs seqs) ≡ Some (get_or seqs i 0, p)
found k i j top p cs [] falls is below inside at = absurd (omega arith)
found k zero j top p cs (s ∷ ss) falls is below inside at =
    let there = position-between k top p cs falls (omega arith) (omega arith) in
    let here = find-here (λ call. call.1 == p) (s, position_at k cs) (row_from (k + 1) cs ss) (equal (position_at k cs) p there) in
    here ∙ ap (λ (n : ℕ). Some (s, n)) there
found k (suc i) j top p cs (s ∷ ss) falls is below inside at =
    let behind = position-over k top p cs falls (omega arith) in
    let here = find-later (λ call. call.1 == p) (s, position_at k cs) (row_from (k + 1) cs ss) (unequal (position_at k cs) p (omega arith)) in
    here ∙ found (k + 1) i j top p cs ss falls is below (omega arith) (omega arith)

pub row-first : (j top p : ℕ) (cs seqs : List ℕ) → IsFalling top cs → j ≡ get_or cs p 0 → j < cut_at top cs p → j < length seqs
    → first_at p (row_from 0 cs seqs) ≡ Some (get_or seqs j 0, p)
row-first j top p cs seqs falls is below inside = found 0 j j top p cs seqs falls is below inside (omega arith)

elsewhere : (k top p : ℕ) (cs : List ℕ) → IsFalling top cs → cut_at top cs p ≤ get_or cs p 0 → k < top → position_at k cs ≢ p
elsewhere k top zero cs falls none inside same = omega (arith, position-over k top zero cs falls (omega arith))
elsewhere k top (suc p) cs falls none inside same = elim (cases_lt k (get_or cs (suc p) 0)) [
  | inl below ↦ omega (arith, position-over k top (suc p) cs falls below)
  | inr past ↦ omega (arith, position-under k p cs (omega arith))
]

none-found : (k top p : ℕ) (cs seqs : List ℕ) → IsFalling top cs → cut_at top cs p ≤ get_or cs p 0 → k + length seqs ≤ top
    → find (λ call. call.1 == p) (row_from k cs seqs) ≡ None
none-found k top p cs [] falls none inside = refl
none-found k top p cs (s ∷ ss) falls none inside =
    let here = find-later (λ call. call.1 == p) (s, position_at k cs) (row_from (k + 1) cs ss) (unequal (position_at k cs) p (elsewhere k top p cs falls none (omega arith))) in
    here ∙ none-found (k + 1) top p cs ss falls none (omega arith)

pub row-no-first : (p : ℕ) (cs seqs : List ℕ) → IsFalling (length seqs) cs → cut_at (length seqs) cs p ≤ get_or cs p 0
    → first_at p (row_from 0 cs seqs) ≡ None
row-no-first p cs seqs falls none = none-found 0 (length seqs) p cs seqs falls none (omega arith)

-- ---- the number of calls at a position or a later one

not-below : (p q : ℕ) → p < q → nat_le (suc p) q ≡ true
not-below p q less = grind (arith, nat_tests)

below-it : (p q : ℕ) → q ≤ p → nat_le (suc p) q ≡ false
below-it p q le = grind (arith, nat_tests)

counted : (k top p : ℕ) (cs seqs : List ℕ) → IsFalling top cs → get_or cs p 0 ≤ k + length seqs
    → length (filter (λ call. nat_le (suc p) call.1) (row_from k cs seqs)) ≡ get_or cs p 0 - k
counted k top p cs [] falls few = omega arith
counted k top p cs (s ∷ ss) falls few = elim (cases_lt k (get_or cs p 0)) [
  | inl below ↦
      let here = filter-in (λ call. nat_le (suc p) call.1) (s, position_at k cs) (row_from (k + 1) cs ss) (not-below p (position_at k cs) (position-over k top p cs falls below)) in
      let more : suc (length (filter (λ call. nat_le (suc p) call.1) (row_from (k + 1) cs ss))) ≡ get_or cs p 0 - k = omega (arith, counted (k + 1) top p cs ss falls (omega arith)) in
      ap (λ (row : Row). length row) here ∙ more
  | inr past ↦
      let here = filter-out (λ call. nat_le (suc p) call.1) (s, position_at k cs) (row_from (k + 1) cs ss) (below-it p (position_at k cs) (position-under k p cs past)) in
      let none : length (filter (λ call. nat_le (suc p) call.1) (row_from (k + 1) cs ss)) ≡ get_or cs p 0 - k = omega (arith, counted (k + 1) top p cs ss falls (omega arith)) in
      ap (λ (row : Row). length row) here ∙ none
]

pub cut-count : (p : ℕ) (cs seqs : List ℕ) → IsFalling (length seqs) cs → get_or cs p 0 ≤ length seqs
    → length (filter (λ call. nat_le (suc p) call.1) (row_from 0 cs seqs)) ≡ get_or cs p 0
cut-count p cs seqs falls few = omega (arith, counted 0 (length seqs) p cs seqs falls (omega arith))

pub all-count : (k : ℕ) (cs seqs : List ℕ) → length (filter (λ call. nat_le 0 call.1) (row_from k cs seqs)) ≡ length seqs
all-count k cs [] = refl
all-count k cs (s ∷ ss) =
    let here = filter-in (λ call. nat_le 0 call.1) (s, position_at k cs) (row_from (k + 1) cs ss) (grind (arith, nat_tests)) in
    ap (λ (row : Row). length row) here ∙ ap suc (all-count (k + 1) cs ss)
