-- The meaning of marks after one was set, and after some were removed.
use Rattle.std.proofs.Common.{◌≡◌, ◌≢◌, ℕ, zero, suc, ◌<◌, ◌≤◌, ◌==◌, Bool, true, false, not, cond, if◌then◌else◌, List, []}
use Rattle.std.proofs.Common.{◌∷◌, ◌++◌, filter, find, get_or, length, set, slice_get, Option, Some, None, option_map, refl, ap, subst, arith}
use Rattle.std.specs.Prelude.{position}
use Rattle.std.proofs.lemmas.Grind.{common_steps}
use Rattle.std.proofs.lemmas.Bool.Decides.{nat_tests}
use Rattle.std.proofs.lemmas.List.Quantifiers.{position-Some}
use Rattle.std.proofs.lemmas.List.Sums.{fails_before_first}
use Rattle.std.specs.List.{list_any, position_or_len}
use Rattle.engine_core.specs.Marks.{IsOneEach, is_allowed, is_allowing, note_of, other_marks, past_of}
use Rattle.engine_core.specs.EngineSteps.{IsUnallowed, marks_with}
use Rattle.engine_core.specs.declared.mark.Mark.{Mark}
use Rattle.engine_core.specs.declared.mark.MarkNote.{MarkNote}
use Rattle.engine_core.specs.declared.mark.MarkNote.TheVariants.{Allowed, Charged, Drawn, Counted}

pub find-kept : (p : ℕ → Bool) (b : ℕ) (ms : List Mark) → find (λ m. m.attach == b) (filter (λ m. p m.attach) ms) ≡ (if p b then find (λ m. m.attach == b) ms else None)
find-kept p b [] = grind (arith, common_steps)
find-kept p b (m ∷ ms) = grind (arith, nat_tests, common_steps, find-kept p b ms)

-- the mark that was set
pub note_of-marked : (a : ℕ) (n : MarkNote) (ms : List Mark) → note_of (marks_with a n ms) a ≡ Some n
note_of-marked a n [] = grind (arith, nat_tests, common_steps)
note_of-marked a n (m ∷ ms) = grind (arith, nat_tests, common_steps, note_of-marked a n ms)

-- the marks of the others
pub note_of-marked-other : (a b : ℕ) (n : MarkNote) (ms : List Mark) → b ≢ a → note_of (marks_with a n ms) b ≡ note_of ms b
note_of-marked-other a b n [] other = grind (arith, nat_tests, common_steps)
note_of-marked-other a b n (m ∷ ms) other = grind (arith, nat_tests, common_steps, note_of-marked-other a b n ms other)

-- ---- one mark for each attachment

pub any-filter : {X : Type 0} (t p : X → Bool) (xs : List X) → list_any t xs ≡ false → list_any t (filter p xs) ≡ false
any-filter t p [] none = none
any-filter t p (x ∷ xs) none = grind (arith, common_steps, any-filter t p xs)

IsOneEach-kept : (p : Mark → Bool) (b : Bool) (m : Mark) (ms : List Mark) → list_any (λ n. n.attach == m.attach) (filter p ms) ≡ false → IsOneEach (filter p ms)
    → IsOneEach (cond b (m ∷ filter p ms) (filter p ms))
IsOneEach-kept p true m ms none one = (none, one)
IsOneEach-kept p false m ms none one = one

pub IsOneEach-filter : (p : Mark → Bool) (ms : List Mark) → IsOneEach ms → IsOneEach (filter p ms)
IsOneEach-filter p [] one = one
IsOneEach-filter p (m ∷ ms) one = IsOneEach-kept p (p m) m ms (any-filter (λ n. n.attach == m.attach) p ms one.0) (IsOneEach-filter p ms one.1)

pub none-other : (a : ℕ) (ms : List Mark) → list_any (λ n. n.attach == a) (other_marks a ms) ≡ false
none-other a [] = refl
none-other a (m ∷ ms) = grind (arith, nat_tests, common_steps, none-other a ms)

-- if no mark is of an attachment, none is after setting another's mark
any-marked : (a b : ℕ) (n : MarkNote) (ms : List Mark) → (a == b) ≡ false → list_any (λ m. m.attach == b) ms ≡ false
    → list_any (λ m. m.attach == b) (marks_with a n ms) ≡ false
any-marked a b n [] other none = grind (arith, nat_tests, common_steps)
any-marked a b n (m ∷ ms) other none = grind (arith, nat_tests, common_steps, any-marked a b n ms other)

pub swapped : (a b : ℕ) → (a == b) ≡ false → (b == a) ≡ false
swapped a b apart = grind (arith, nat_tests, common_steps)

equal-is : (a b : ℕ) → (a == b) ≡ true → a ≡ b
equal-is a b same = grind (arith, nat_tests, common_steps)

IsOneEach-first : (a : ℕ) (n : MarkNote) (m : Mark) (ms : List Mark) (b : Bool) → (m.attach == a) ≡ b → IsOneEach (m ∷ ms) → IsOneEach (marks_with a n ms)
    → IsOneEach (cond b (record { attach = a; note = n } ∷ ms) (m ∷ marks_with a n ms))
IsOneEach-first a n m ms true is one behind =
    (subst (λ (b : ℕ). list_any (λ k. k.attach == b) ms ≡ false) (equal-is m.attach a is) one.0, one.1)
IsOneEach-first a n m ms false is one behind = (any-marked a m.attach n ms (swapped m.attach a is) one.0, behind)

pub IsOneEach-marked : (a : ℕ) (n : MarkNote) (ms : List Mark) → IsOneEach ms → IsOneEach (marks_with a n ms)
IsOneEach-marked a n [] one = (refl, tt)
IsOneEach-marked a n (m ∷ ms) one = IsOneEach-first a n m ms (m.attach == a) refl one (IsOneEach-marked a n ms one.1)

-- ---- the mark of an attachment by its index

at-none : (p : Mark → Bool) (ms : List Mark) (i : ℕ) (m : Mark) → slice_get ms i ≡ Some m → list_any p ms ≡ false → p m ≡ false
at-none p [] i m at none = absurd cc
at-none p (k ∷ ms) zero m at none =
    let first : k ≡ m = cc in
    subst (λ (m : Mark). p m ≡ false) first (grind (arith, common_steps))
at-none p (k ∷ ms) (suc i) m at none = at-none p ms i m at (grind (arith, common_steps))

-- the mark at an index is the only one of its attachment
pub note-at : (a i : ℕ) (ms : List Mark) (m : Mark) → IsOneEach ms → slice_get ms i ≡ Some m → m.attach ≡ a → note_of ms a ≡ Some m.note
note-at a i [] m one at is = absurd cc
note-at a zero (k ∷ ms) m one at is =
    let first : k ≡ m = cc in
    rw first (grind (arith, nat_tests, common_steps))
note-at a (suc i) (k ∷ ms) m one at is =
    let there : slice_get ms i ≡ Some m = at in
    let mine : (m.attach == k.attach) ≡ false = at-none (λ n. n.attach == k.attach) ms i m there one.0 in
    grind (arith, nat_tests, common_steps, note-at a i ms m one.1 there is)

-- a mark that replaces the first one of an attachment
put-first : (a i : ℕ) (n : MarkNote) (d : Mark) (ms : List Mark) → i < length ms → ((get_or ms i d).attach == a) ≡ true
    → ((k : ℕ) → k < i → ((get_or ms k d).attach == a) ≡ false) → set ms i (record { attach = a; note = n }) ≡ marks_with a n ms
put-first a i n d [] within at before = absurd (omega arith)
put-first a zero n d (m ∷ ms) within at before =
    let mine : (m.attach == a) ≡ true = at in
    rw mine refl
put-first a (suc i) n d (m ∷ ms) within at before =
    let other : (m.attach == a) ≡ false = before 0 (omega arith) in
    rw other (ap (λ ks. m ∷ ks) (put-first a i n d ms (omega (arith, within)) at (λ k lt. before (suc k) (omega (arith, lt)))))

-- a mark that is appended to those of others
put-behind : (a : ℕ) (n : MarkNote) (d : Mark) (ms : List Mark) → ((k : ℕ) → k < length ms → ((get_or ms k d).attach == a) ≡ false)
    → ms ++ record { attach = a; note = n } ∷ [] ≡ marks_with a n ms
put-behind a n d [] none = refl
put-behind a n d (m ∷ ms) none =
    let other : (m.attach == a) ≡ false = none 0 (omega arith) in
    rw other (ap (λ ks. m ∷ ks) (put-behind a n d ms (λ k lt. none (suc k) (omega (arith, lt)))))

-- if an attachment has no index, no mark is of it
no-place : (a : ℕ) (ms : List Mark) → position (λ m. m.attach == a) ms ≡ None → (d : Mark) (k : ℕ) → k < length ms
    → ((get_or ms k d).attach == a) ≡ false
no-place a ms none d k lt =
    let past : length ms ≤ position_or_len (λ (m : Mark). m.attach == a) ms = grind (arith, common_steps) in
    fails_before_first (λ (m : Mark). m.attach == a) ms k d (omega (arith, lt, past))

all-others : (a : ℕ) (d : Mark) (ms : List Mark) → ((k : ℕ) → k < length ms → ((get_or ms k d).attach == a) ≡ false) → length ms ≤ length (other_marks a ms)
all-others a d [] none = omega arith
all-others a d (m ∷ ms) none =
    let other : (m.attach == a) ≡ false = none 0 (omega arith) in
    grind (arith, nat_tests, common_steps, all-others a d ms (λ k lt. none (suc k) (omega (arith, lt))))

-- the mark of an attachment, by its index
pub marked-at : (a i : ℕ) (n : MarkNote) (ms : List Mark) → position (λ m. m.attach == a) ms ≡ Some i → set ms i (record { attach = a; note = n }) ≡ marks_with a n ms
marked-at a i n ms at =
    let new : Mark = record { attach = a; note = n } in
    let there = position-Some (λ (m : Mark). m.attach == a) ms i new at in
    put-first a i n new ms there.0 there.1 there.2

-- and if it has none
pub marked-behind : (a : ℕ) (n : MarkNote) (ms : List Mark) → position (λ m. m.attach == a) ms ≡ None → ms ++ record { attach = a; note = n } ∷ [] ≡ marks_with a n ms
marked-behind a n ms none =
    let new : Mark = record { attach = a; note = n } in
    put-behind a n new ms (λ k lt. no-place a ms none new k lt)

pub few-others : (a : ℕ) (ms : List Mark) (d : Mark) → position (λ m. m.attach == a) ms ≡ None → length ms ≤ length (other_marks a ms)
few-others a ms d none = all-others a d ms (λ k lt. no-place a ms none d k lt)

-- ---- marks that are removed

find-none : {X : Type 0} (t : X → Bool) (xs : List X) → list_any t xs ≡ false → find t xs ≡ None
find-none t [] none = refl
find-none t (x ∷ xs) none = grind (arith, common_steps, find-none t xs)

none-kept : (b : ℕ) (ms : List Mark) → find (λ m. m.attach == b) ms ≡ None → find (λ m. m.attach == b) (filter (λ m. not (is_allowing m.note)) ms) ≡ None
none-kept b [] none = refl
none-kept b (m ∷ ms) none = grind (arith, common_steps, none-kept b ms)

-- the first of the marks is removed, or kept
past-first : (b : ℕ) (m : Mark) (ms : List Mark) (n : MarkNote) → m.note ≡ n → (mine : Bool) → (m.attach == b) ≡ mine → (mine ≡ true → find (λ m. m.attach == b) ms ≡ None)
    → past_of (filter (λ m. not (is_allowing m.note)) ms) b ≡ past_of ms b
    → past_of (filter (λ m. not (is_allowing m.note)) (m ∷ ms)) b ≡ past_of (m ∷ ms) b
past-first b m ms (Allowed v) is true at alone same = simp (is, at, none-kept b ms (alone refl)) refl
past-first b m ms (Allowed v) is false at alone same = simp (is, at) same
past-first b m ms Charged is true at alone same = simp (is, at) refl
past-first b m ms Charged is false at alone same = simp (is, at) same
past-first b m ms (Drawn t) is true at alone same = simp (is, at) refl
past-first b m ms (Drawn t) is false at alone same = simp (is, at) same
past-first b m ms Counted is true at alone same = simp (is, at) refl
past-first b m ms Counted is false at alone same = simp (is, at) same

alone-first : (b : ℕ) (m : Mark) (ms : List Mark) → list_any (λ n. n.attach == m.attach) ms ≡ false → (m.attach == b) ≡ true → find (λ m. m.attach == b) ms ≡ None
alone-first b m ms none at = find-none (λ m. m.attach == b) ms (grind (arith, nat_tests, none, at))

past-unallowed : (b : ℕ) (ms : List Mark) → IsOneEach ms → past_of (filter (λ m. not (is_allowing m.note)) ms) b ≡ past_of ms b
past-unallowed b [] one = refl
past-unallowed b (m ∷ ms) one = past-first b m ms m.note refl (m.attach == b) refl (alone-first b m ms one.0) (past-unallowed b ms one.1)

allowed-first : (b v : ℕ) (m : Mark) (ms : List Mark) (n : MarkNote) → m.note ≡ n → (mine : Bool) → (m.attach == b) ≡ mine
    → is_allowed (filter (λ m. not (is_allowing m.note)) ms) b v ≡ false
    → is_allowed (filter (λ m. not (is_allowing m.note)) (m ∷ ms)) b v ≡ false
allowed-first b v m ms (Allowed w) is mine at none = simp is none
allowed-first b v m ms Charged is true at none = simp (is, at) refl
allowed-first b v m ms Charged is false at none = simp (is, at) none
allowed-first b v m ms (Drawn t) is true at none = simp (is, at) refl
allowed-first b v m ms (Drawn t) is false at none = simp (is, at) none
allowed-first b v m ms Counted is true at none = simp (is, at) refl
allowed-first b v m ms Counted is false at none = simp (is, at) none

none-allowed : (b v : ℕ) (ms : List Mark) → is_allowed (filter (λ m. not (is_allowing m.note)) ms) b v ≡ false
none-allowed b v [] = refl
none-allowed b v (m ∷ ms) = allowed-first b v m ms m.note refl (m.attach == b) refl (none-allowed b v ms)

length-filter_filter : {X : Type 0} (p q : X → Bool) (xs : List X) → length (filter p (filter q xs)) ≤ length (filter p xs)
length-filter_filter p q [] = omega arith
length-filter_filter p q (x ∷ xs) = grind (arith, common_steps, length-filter_filter p q xs)

-- the marks of the others, after one is set
pub other_marks-marked : (a : ℕ) (n : MarkNote) (ms : List Mark) → length (other_marks a (marks_with a n ms)) ≤ length (other_marks a ms)
other_marks-marked a n [] = grind (arith, nat_tests, common_steps)
other_marks-marked a n (m ∷ ms) = grind (arith, nat_tests, common_steps, other_marks-marked a n ms)

unmarked-unallowed : (b : ℕ) (ms : List Mark) → note_of ms b ≡ None → note_of (filter (λ m. not (is_allowing m.note)) ms) b ≡ None
unmarked-unallowed b ms none = rw (none-kept b ms (no_note (find (λ (m : Mark). m.attach == b) ms) none)) refl where
  no_note : (found : Option Mark) → option_map (λ (m : Mark). m.note) found ≡ None → found ≡ None
  no_note None is = refl
  no_note (Some m) is = absurd cc

pub unallowed : (ms : List Mark) → IsOneEach ms → IsUnallowed ms (filter (λ m. not (is_allowing m.note)) ms)
unallowed ms one = record {
  pasts = λ b. past-unallowed b ms one;
  none = λ b v. none-allowed b v ms;
  unmarked = λ b none. unmarked-unallowed b ms none;
  no_more = λ b. length-filter_filter (λ m. not (m.attach == b)) (λ m. not (is_allowing m.note)) ms;
}
