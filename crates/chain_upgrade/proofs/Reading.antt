-- Properties of a chain by its cuts.
use Rattle.std.proofs.Common.{◌≡◌, ℕ, ◌+◌, ◌-◌, ◌<◌, ◌≤◌, ◌==◌, zero, suc, true, false, inl, inr, List, [], ◌∷◌}
use Rattle.std.proofs.Common.{length, filter, nat_le, get_or, remove, slice_get, Contains, Some, None, subst, refl}
use Rattle.std.proofs.Common.{ap, sym, ◌∙◌, arith}
use Rattle.std.proofs.lemmas.Bool.{cases_eq, cases_lt}
use Rattle.std.proofs.lemmas.Bool.Decides.{nat_tests}
use Rattle.std.proofs.lemmas.List.{length-map}
use Rattle.engine_core.specs.Engines.{EngineParts}
use Rattle.engine_core.specs.Marks.{PendingCall, seqs_of}
use Rattle.engine_core.specs.Moves.{Row, first_at}
use Rattle.chain_upgrade.specs.Chains.{ChainParts, AreAscending}
use Rattle.chain_upgrade.specs.Cuts.{position_at, row_from, cut_at, IsFalling, IsShort, taken_out}
use Rattle.chain_upgrade.proofs.CutLaws.{cut-low, position-between}
use Rattle.chain_upgrade.proofs.Keeping.{cut-none, cut-some, same-fall, seen-of}
use Rattle.chain_upgrade.proofs.RowLaws.{apart, filter-in, filter-out, find-later, unequal, row-at, row-first, row-no-first, row-none-at, row-rest}
use Rattle.chain_upgrade.proofs.Stands.{inside-at, number-at}

-- ---- cuts

-- no call is past the position for transport
pub short-at : (n : ℕ) (cs : List ℕ) → IsShort n cs → get_or cs n 0 ≡ 0
short-at n [] short = refl
short-at zero (c ∷ cs) short = short.0
short-at (suc n) (c ∷ cs) short = short-at n cs short

top-same : (calls : List PendingCall) (cuts : List ℕ) (p : ℕ) → cut_at (length (seqs_of calls)) cuts p ≡ cut_at (length calls) cuts p
top-same calls cuts p = ap (λ (top : ℕ). cut_at top cuts p) (length-map calls (λ (s : PendingCall). s.call.seq))

-- ---- a chain with its view

module _ (es : List EngineParts) (n : ℕ) (calls : List PendingCall) (cuts : List ℕ) (v : ChainParts) (seen : seen-of es n calls cuts ≡ v)
    (falls : IsFalling (length calls) cuts) where
  -- the number of calls at a position or a later one, as `cut` returns it
  pub cut-is : (p : ℕ) → length (filter (λ call. nat_le p call.1) v.row) ≡ cut_at (length calls) cuts p
  cut-is zero = cut-none es n 0 calls cuts v seen refl
  cut-is (suc p) = cut-some es n (suc p) calls cuts v seen (λ none. omega arith) falls ∙ (let same : suc p - 1 ≡ p = omega arith in ap (λ (q : ℕ). get_or cuts q 0) same)

  pub cut-behind : (p i : ℕ) → i ≡ p + 1 → length (filter (λ call. nat_le i call.1) v.row) ≡ get_or cuts p 0
  cut-behind p i next = cut-some es n i calls cuts v seen (λ none. omega arith) falls ∙ (let same : i - 1 ≡ p = omega arith in ap (λ (q : ℕ). get_or cuts q 0) same)

  -- the cuts of a position and of the next one are equal: no call is there
  pub none-at : (p : ℕ) → cut_at (length calls) cuts p ≤ get_or cuts p 0 → first_at p v.row ≡ None
  none-at p le = subst (λ (v : ChainParts). first_at p v.row ≡ None) seen
      (row-no-first p cuts (seqs_of calls) (same-fall calls cuts falls) (omega (arith, top-same calls cuts p)))

  -- an index below the cut of a position is that of a call
  pub within-cut : (p j : ℕ) → j < cut_at (length calls) cuts p → j < length calls
  within-cut p j below = omega (arith, cut-low (length calls) p cuts falls)

  -- the call there is the first at the position
  pub first-there : (p j : ℕ) (s : PendingCall) → j ≡ get_or cuts p 0 → j < cut_at (length calls) cuts p → slice_get calls j ≡ Some s
      → first_at p v.row ≡ Some (s.call.seq, p)
  first-there p j s is below there = subst (λ (v : ChainParts). first_at p v.row ≡ Some (s.call.seq, p)) seen
      (row-first j (length calls) p cuts (seqs_of calls) falls is below
      (omega (arith, within-cut p j below, length-map calls (λ (s : PendingCall). s.call.seq)))
      ∙ ap (λ (seq : ℕ). Some (seq, p)) (number-at calls j s there))

  -- the number and the position of a call
  pub stands-there : (j : ℕ) (s : PendingCall) → j < length calls → slice_get calls j ≡ Some s
      → slice_get v.row j ≡ Some (s.call.seq, position_at j cuts)
  stands-there j s inside there = subst (λ (v : ChainParts). slice_get v.row j ≡ Some (s.call.seq, position_at j cuts)) seen
      (row-at j cuts (seqs_of calls) (omega (arith, length-map calls (λ (s : PendingCall). s.call.seq)))
      ∙ ap (λ (seq : ℕ). Some (seq, position_at j cuts)) (number-at calls j s there))

  pub none-stands : (j : ℕ) → length calls ≤ j → slice_get v.row j ≡ None
  none-stands j past = subst (λ (v : ChainParts). slice_get v.row j ≡ None) seen
      (row-none-at j cuts (seqs_of calls) (omega (arith, length-map calls (λ (s : PendingCall). s.call.seq))))

  -- the first call at a position comes after all calls at later ones
  pub within-seen : (p : ℕ) → get_or cuts p 0 < cut_at (length calls) cuts p → get_or cuts p 0 < length v.calls
  within-seen p below = subst (λ (v : ChainParts). get_or cuts p 0 < length v.calls) seen (within-cut p (get_or cuts p 0) below)

  pub first-seen : (p : ℕ) (s : PendingCall) → get_or cuts p 0 < cut_at (length calls) cuts p → slice_get v.calls (get_or cuts p 0) ≡ Some s
      → first_at p v.row ≡ Some (s.call.seq, p)
  first-seen p s below there = first-there p (get_or cuts p 0) s refl below
      (subst (λ (xs : List PendingCall). slice_get xs (get_or cuts p 0) ≡ Some s) (sym (ap (λ (v : ChainParts). v.calls) seen)) there)

  -- for transport that is the first of all
  same-end : length v.engines ≡ length es
  same-end = ap (λ (v : ChainParts). length v.engines) (sym seen)

  pub head-below : 0 < length (filter (λ call. nat_le (length v.engines) call.1) v.row) → 0 < cut_at (length calls) cuts (length es)
  head-below below =
      let many : 0 < length (filter (λ call. nat_le (length es) call.1) v.row) = subst (λ (m : ℕ). 0 < length (filter (λ call. nat_le m call.1) v.row)) same-end below in
      omega (arith, cut-is (length es))

  pub head-there : (s : PendingCall) → IsShort (length es) cuts → 0 < length (filter (λ call. nat_le (length v.engines) call.1) v.row)
      → slice_get calls 0 ≡ Some s → first_at (length v.engines) v.row ≡ Some (s.call.seq, length v.engines)
  head-there s short below there = subst (λ (m : ℕ). first_at m v.row ≡ Some (s.call.seq, m)) (sym same-end)
      (first-there (length es) 0 s (sym (short-at (length es) cuts short)) (head-below below) there)

-- ---- the first call

at-least : (n q : ℕ) → n ≤ q → nat_le n q ≡ true
at-least n q more = grind (arith, nat_tests)

too-low : (n q : ℕ) → q < n → nat_le n q ≡ false
too-low n q less = grind (arith, nat_tests)

-- if no call is at a position or a later one, none is the first there
pub none-counted : (n : ℕ) (row : Row) → length (filter (λ call. nat_le n call.1) row) ≡ 0 → first_at n row ≡ None
none-counted n [] none = refl
none-counted n (x ∷ xs) none = elim (cases_lt x.1 n) [
  | inl less ↦
      let out = filter-out (λ call. nat_le n call.1) x xs (too-low n x.1 less) in
      let rest : length (filter (λ call. nat_le n call.1) xs) ≡ 0 = ap (λ (row : Row). length row) (sym out) ∙ none in
      find-later (λ call. call.1 == n) x xs (unequal x.1 n (omega arith)) ∙ none-counted n xs rest
  | inr more ↦
      let here = filter-in (λ call. nat_le n call.1) x xs (at-least n x.1 more) in
      absurd (omega (arith, ap (λ (row : Row). length row) here))
]

-- it is ready for transport, and leaves
pub row-ready : (es : List EngineParts) (n : ℕ) (calls : List PendingCall) (cuts : List ℕ) (v : ChainParts) (s : PendingCall)
    → seen-of es n calls cuts ≡ v → IsFalling (length calls) cuts → IsShort (length es) cuts → 0 < cut_at (length calls) cuts (length es)
    → slice_get calls 0 ≡ Some s
    → v.row ≡ (s.call.seq, length es) ∷ row_from 0 (taken_out 0 cuts) (seqs_of (remove calls 0))
row-ready es n [] cuts v s seen falls short below there = absurd cc
row-ready es n (t ∷ ts) cuts v s seen falls short below there =
    let same : t ≡ s = cc in
    let none : get_or cuts (length es) 0 ≤ 0 = omega (arith, short-at (length es) cuts short) in
    let position : position_at 0 cuts ≡ length es = position-between 0 (length (t ∷ ts)) (length es) cuts falls none below in
    subst (λ (v : ChainParts). v.row ≡ (s.call.seq, length es) ∷ row_from 0 (taken_out 0 cuts) (seqs_of ts)) seen
    (row-rest cuts t.call.seq (seqs_of ts)
    ∙ (ap (λ (q : ℕ). (t.call.seq, q) ∷ row_from 0 (taken_out 0 cuts) (seqs_of ts)) position
    ∙ ap (λ (t : PendingCall). (t.call.seq, length es) ∷ row_from 0 (taken_out 0 cuts) (seqs_of ts)) same))

-- ---- two calls with one number

numbers-within : (calls : List PendingCall) (k : ℕ) (s : PendingCall) → k < length calls → get_or calls k s ≡ s
    → get_or (seqs_of calls) k 0 ≡ s.call.seq
numbers-within [] k s inside at = absurd (omega arith)
numbers-within (t ∷ ts) zero s inside at = ap (λ (t : PendingCall). t.call.seq) at
numbers-within (t ∷ ts) (suc k) s inside at = numbers-within ts k s (omega arith) at

same-there : (calls : List PendingCall) (k j : ℕ) (s t : PendingCall) → k ≡ j → k < length calls → get_or calls k s ≡ s → slice_get calls j ≡ Some t → s ≡ t
same-there [] k j s t same inside at is = absurd (omega arith)
same-there (u ∷ us) zero zero s t same inside at is = let there : u ≡ t = cc in sym at ∙ there
same-there (u ∷ us) zero (suc j) s t same inside at is = absurd (omega arith)
same-there (u ∷ us) (suc k) zero s t same inside at is = absurd (omega arith)
same-there (u ∷ us) (suc k) (suc j) s t same inside at is = same-there us k j s t (omega arith) (omega arith) at is

-- they are the same call
pub one-call : (calls : List PendingCall) (j : ℕ) (s t : PendingCall) → AreAscending (seqs_of calls) → slice_get calls j ≡ Some t
    → Contains calls s → s.call.seq ≡ t.call.seq → s ≡ t
one-call calls j s t ascends is has same = elim (cases_eq has.0 j) [
  | inl at ↦ same-there calls has.0 j s t at has.1 has.2 is
  | inr other ↦
      let long = length-map calls (λ (s : PendingCall). s.call.seq) in
      absurd (apart (seqs_of calls) has.0 j ascends other (omega (arith, has.1)) (omega (arith, inside-at calls j t is))
      (numbers-within calls has.0 s has.1 has.2 ∙ (same ∙ sym (number-at calls j t is))))
]
