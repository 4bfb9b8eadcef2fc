-- The remaining marks of a call when those of some engines are kept.
use Rattle.std.proofs.Common.{◌≡◌, ◌≢◌, ℕ, zero, suc, ◌+◌, ◌≤◌, ◌<◌, ◌==◌, Bool, true, false, not, ◌||◌, List, [], ◌∷◌, ◌++◌, filter, length}
use Rattle.std.proofs.Common.{All, None, Some, slice_get, refl, arith, length-append}
use Rattle.std.proofs.lemmas.Grind.{common_steps}
use Rattle.std.proofs.lemmas.Bool.Decides.{nat_tests}
use Rattle.std.proofs.lemmas.List.Folds.{list_any_none, list_any-append}
use Rattle.std.proofs.lemmas.List.Elements.{All-cons, All-weaker}
use Rattle.std.specs.List.{list_any}
use Rattle.engine_core.specs.Engines.{EngineParts}
use Rattle.engine_core.specs.Marks.{IsOneEach, note_of, other_marks}
use Rattle.engine_core.specs.declared.mark.Mark.{Mark}
use Rattle.engine_core.specs.declared.mark.MarkNote.{MarkNote}
use Rattle.engine_core.specs.declared.mark.MarkNote.TheVariants.{Counted}
use Rattle.engine_core.proofs.MarkLemmas.{find-kept, none-other, swapped, IsOneEach-filter}

-- one of the engines has the attachment, or one of the marks
abbrev pub has_engine : List EngineParts → ℕ → Bool
has_engine es b = list_any (λ e. e.entry.attach == b) es

abbrev has_mark : List Mark → ℕ → Bool
has_mark ms b = list_any (λ m. m.attach == b) ms

-- all marks are of these engines
abbrev pub HasMarks : List EngineParts → List Mark → Type 0
HasMarks es ms = (b : ℕ) → All (λ e. e.entry.attach ≢ b) es → note_of ms b ≡ None

abbrev pub kept : List EngineParts → List Mark → List Mark
kept es ms = filter (λ m. has_engine es m.attach) ms

pub note_of-kept : (es : List EngineParts) (b : ℕ) (ms : List Mark) → has_engine es b ≡ true → note_of (kept es ms) b ≡ note_of ms b
note_of-kept es b ms known = rw (find-kept (has_engine es) b ms, known) refl

pub note_of-gone : (es : List EngineParts) (b : ℕ) (ms : List Mark) → All (λ e. e.entry.attach ≢ b) es → note_of (kept es ms) b ≡ None
note_of-gone es b ms apart =
    let unknown : has_engine es b ≡ false = list_any_none (λ (e : EngineParts). e.entry.attach == b) es
    (All-weaker (λ (e : EngineParts). e.entry.attach ≢ b) (λ (e : EngineParts). (e.entry.attach == b) ≡ false) (λ e other. grind (arith, nat_tests, common_steps)) es apart) in
    rw (find-kept (has_engine es) b ms, unknown) refl

none-kept : (es : List EngineParts) (b : ℕ) (ms : List Mark) (known : Bool) → has_engine es b ≡ known
    → note_of ms b ≡ None → note_of (kept es ms) b ≡ None
none-kept es b ms true at none = rw (find-kept (has_engine es) b ms, at) none
none-kept es b ms false at none = rw (find-kept (has_engine es) b ms, at) refl

pub note_of-none : (es : List EngineParts) (b : ℕ) (ms : List Mark) → note_of ms b ≡ None → note_of (kept es ms) b ≡ None
note_of-none es b ms none = none-kept es b ms (has_engine es b) refl none

-- ---- how many there are

length-other_marks-none : (a : ℕ) (ms : List Mark) → has_mark ms a ≡ false → length ms ≤ length (other_marks a ms)
length-other_marks-none a [] none = omega arith
length-other_marks-none a (m ∷ ms) none = grind (arith, nat_tests, common_steps, length-other_marks-none a ms)

length-first : (a : ℕ) (m : Mark) (ms : List Mark) (mine : Bool) → (m.attach == a) ≡ mine → has_mark ms m.attach ≡ false → length ms ≤ length (other_marks a ms) + 1
    → length (m ∷ ms) ≤ length (other_marks a (m ∷ ms)) + 1
length-first a m ms true at none few = grind (arith, nat_tests, common_steps, length-other_marks-none a ms)
length-first a m ms false at none few = grind (arith, nat_tests, common_steps)

length-other_marks : (a : ℕ) (ms : List Mark) → IsOneEach ms → length ms ≤ length (other_marks a ms) + 1
length-other_marks a [] one = omega arith
length-other_marks a (m ∷ ms) one = length-first a m ms (m.attach == a) refl one.0 (length-other_marks a ms one.1)

has-first : (m : Mark) (ms : List Mark) → has_mark (m ∷ ms) m.attach ≡ true
has-first m ms = grind (arith, nat_tests, common_steps)

no_engine : (b : ℕ) → has_engine [] b ≡ true → ⊥
no_engine b has = cc

has-others : (a b : ℕ) (ms : List Mark) → has_mark (other_marks a ms) b ≡ true → has_mark ms b ≡ true
has-others a b [] has = cc
has-others a b (m ∷ ms) has = grind (arith, nat_tests, common_steps, has-others a b ms)

behind-first : (e : EngineParts) (es : List EngineParts) (b : ℕ) (ms : List Mark) (mine : Bool) → (e.entry.attach == b) ≡ mine → has_mark (other_marks e.entry.attach ms) b ≡ true
    → has_engine (e ∷ es) b ≡ true → has_engine es b ≡ true
behind-first e es b ms true at has known = grind (arith, nat_tests, common_steps, none-other e.entry.attach ms)
behind-first e es b ms false at has known = grind (arith, nat_tests, common_steps)

-- a mark after those of the others
abbrev joined : ℕ → MarkNote → List Mark → List Mark
joined a n ms = other_marks a ms ++ record { attach = a; note = n } ∷ []

any-push : {X : Type 0} (t : X → Bool) (xs : List X) (y : X) → list_any t xs ≡ false → t y ≡ false → list_any t (xs ++ y ∷ []) ≡ false
any-push t [] y none other = grind (arith, common_steps)
any-push t (x ∷ xs) y none other = grind (arith, common_steps, any-push t xs y)

first-false : (a b : Bool) → (a || b) ≡ false → a ≡ false
first-false a b none = grind (arith, common_steps)

second-false : (a b : Bool) → (a || b) ≡ false → b ≡ false
second-false a b none = grind (arith, common_steps)

IsOneEach-push : (ms : List Mark) (m : Mark) → IsOneEach ms → list_any (λ n. n.attach == m.attach) ms ≡ false → IsOneEach (ms ++ m ∷ [])
IsOneEach-push [] m one new = (refl, tt)
IsOneEach-push (n ∷ ms) m one new =
    (any-push (λ o. o.attach == n.attach) ms m one.0 (swapped n.attach m.attach (first-false _ _ new)), IsOneEach-push ms m one.1 (second-false _ _ new))

IsOneEach-joined : (a : ℕ) (n : MarkNote) (ms : List Mark) → IsOneEach ms → IsOneEach (joined a n ms)
IsOneEach-joined a n ms one =
    IsOneEach-push (other_marks a ms) (record { attach = a; note = n }) (IsOneEach-filter (λ m. not (m.attach == a)) ms one) (none-other a ms)

-- marks of distinct attachments of engines are no more than the engines
length-marks : (es : List EngineParts) (ms : List Mark) → IsOneEach ms → ((b : ℕ) → has_mark ms b ≡ true → has_engine es b ≡ true) → length ms ≤ length es
length-marks [] [] one known = omega arith
length-marks [] (m ∷ ms) one known = absurd (no_engine m.attach (known m.attach (has-first m ms)))
length-marks (e ∷ es) ms one known =
    let few = length-marks es (other_marks e.entry.attach ms) (IsOneEach-filter (λ m. not (m.attach == e.entry.attach)) ms one)
    (λ b has. behind-first e es b ms (e.entry.attach == b) refl has (known b (has-others e.entry.attach b ms has))) in
    omega (arith, few, length-other_marks e.entry.attach ms one)

-- ---- a call that has marks of some engines alone

has-some : (b : ℕ) (m : Mark) (ms : List Mark) (mine : Bool) → (m.attach == b) ≡ mine → (has_mark ms b ≡ true → note_of ms b ≡ None → ⊥)
    → has_mark (m ∷ ms) b ≡ true → note_of (m ∷ ms) b ≡ None → ⊥
has-some b m ms true at behind has none = let some : Some m.note ≡ None = rw at at none in absurd cc
has-some b m ms false at behind has none = behind (rw at at has) (rw at at none)

has-note : (b : ℕ) (ms : List Mark) → has_mark ms b ≡ true → note_of ms b ≡ None → ⊥
has-note b [] has none = absurd cc
has-note b (m ∷ ms) has none = has-some b m ms (m.attach == b) refl (has-note b ms) has none

differs : (a b : ℕ) → (a == b) ≡ false → a ≢ b
differs a b other same = grind (arith, nat_tests, common_steps)

apart-of : (es : List EngineParts) (b : ℕ) → has_engine es b ≡ false → All (λ e. e.entry.attach ≢ b) es
apart-of [] b unknown = λ k d within. absurd (omega arith)
apart-of (e ∷ es) b unknown =
    All-cons (λ (e : EngineParts). e.entry.attach ≢ b) e es (differs e.entry.attach b (first-false (e.entry.attach == b) (has_engine es b) unknown))
    (apart-of es b (second-false (e.entry.attach == b) (has_engine es b) unknown))

known-by : (es : List EngineParts) (ms : List Mark) (b : ℕ) → HasMarks es ms → has_mark ms b ≡ true → (known : Bool) → has_engine es b ≡ known
    → has_engine es b ≡ true
known-by es ms b alone has true at = at
known-by es ms b alone has false at = absurd (has-note b ms has (alone b (apart-of es b at)))

known-of : (es : List EngineParts) (ms : List Mark) → HasMarks es ms → (b : ℕ) → has_mark ms b ≡ true → has_engine es b ≡ true
known-of es ms alone b has = known-by es ms b alone has (has_engine es b) refl

known-joined : (es : List EngineParts) (a b : ℕ) (ms : List Mark) (n : MarkNote) → HasMarks es ms → has_engine es a ≡ true
    → has_mark (joined a n ms) b ≡ true → has_engine es b ≡ true
known-joined es a b ms n alone known has = grind (
  arith,
  nat_tests,
  common_steps,
  list_any-append (λ (m : Mark). m.attach == b) (other_marks a ms) (record { attach = a; note = n } ∷ []),
  has-others a b ms,
  known-of es ms alone b,
)

pub has-at : (es : List EngineParts) (p : ℕ) (e : EngineParts) → slice_get es p ≡ Some e → has_engine es e.entry.attach ≡ true
has-at [] p e is = absurd cc
has-at (x ∷ xs) zero e is = let there : x ≡ e = cc in rw there (grind (arith, nat_tests, common_steps))
has-at (x ∷ xs) (suc p) e is = let rest = has-at xs p e is in grind (arith, nat_tests, common_steps)

-- such a call has fewer marks than there are engines, not counting its mark of one of them
pub length-others : (es : List EngineParts) (a : ℕ) (ms : List Mark) → IsOneEach ms → HasMarks es ms → has_engine es a ≡ true
    → length (other_marks a ms) < length es
length-others es a ms one alone known =
    let few = length-marks es (joined a Counted ms) (IsOneEach-joined a Counted ms one) (λ b has. known-joined es a b ms Counted alone known has) in
    omega (arith, few, length-append (other_marks a ms) (record { attach = a; note = Counted } ∷ []))

pub length-kept : (es : List EngineParts) (a : ℕ) (ms : List Mark) → IsOneEach ms → has_engine es a ≡ true → length (other_marks a (kept es ms)) < length es
length-kept es a ms one known =
    length-others es a (kept es ms) (IsOneEach-filter (λ m. has_engine es m.attach) ms one) (λ b apart. note_of-gone es b ms apart) known
