-- A field is found by its number, since numbers ascend.
use Rattle.std.proofs.Common.{◌≡◌, ◌≢◌, ℕ, zero, suc, ◌<◌, ◌≤◌, ◌==◌, false, List, [], ◌∷◌, length, get_or, Some}
use Rattle.std.proofs.Common.{None, refl, ap, sym, ◌∙◌, arith, inl, inr}
use Rattle.std.proofs.lemmas.Bool.{eq-eqb}
use Rattle.std.specs.Ordering.{nat_cmp, ordering_index}
use Rattle.std.specs.List.Sorted.{IsNonDecreasingBy, IsPartitionPoint}
use Rattle.std.specs.declared.cmp.Ordering.TheVariants.{Less, Equal, Greater}
use Rattle.std.proofs.lemmas.Bool.{cases_lt}
use Rattle.std.specs.List.{HoldsAt, slice_get}
use Rattle.std.proofs.lemmas.Option.{slice_get-get_or}
use Rattle.mrpc_table.specs.declared.table.Kind.TheVariants.{Uint64}
use Rattle.mrpc_table.specs.declared.table.Label.TheVariants.{Plain}
use Rattle.mrpc_table.specs.Normal.{field_at}
use Rattle.mrpc_table.specs.Ascending.{AreFieldsAscending}
use Rattle.mrpc_table.specs.declared.table.Field.{Field}

above_first : (f : Field) (fs : List Field) → AreFieldsAscending (f ∷ fs) → (k : ℕ) (d : Field) → k < length fs → f.number < (get_or fs k d).number
above_first f [] up k d within = absurd (omega arith)
above_first f (g ∷ gs) up zero d within = up.0
above_first f (g ∷ gs) up (suc k) d within = omega (arith, up.0, above_first g gs up.1 k d (omega arith))

tail_ascends : (f : Field) (fs : List Field) → AreFieldsAscending (f ∷ fs) → AreFieldsAscending fs
tail_ascends f [] up = tt
tail_ascends f (g ∷ gs) up = up.1

found_at : (fs : List Field) → AreFieldsAscending fs → (n i : ℕ) (d : Field) → i < length fs → (get_or fs i d).number ≡ n → field_at fs n ≡ Some (get_or fs i d)
found_at [] up n i d within is = absurd (omega arith)
found_at (g ∷ gs) up n zero d within is = rw (eq-eqb g.number n is) refl
found_at (g ∷ gs) up n (suc i) d within is =
    let low : g.number < (get_or gs i d).number = above_first g gs up i d (omega arith) in
    let ne : (g.number == n) ≡ false = grind arith in
    rw ne (found_at gs (tail_ascends g gs up) n i d (omega arith) is)

not_found : (fs : List Field) (n : ℕ) → ((k : ℕ) (d : Field) → k < length fs → (get_or fs k d).number ≢ n) → field_at fs n ≡ None
not_found [] n none = refl
not_found (g ∷ gs) n none =
    let other : g.number ≢ n = none 0 g (omega arith) in
    let ne : (g.number == n) ≡ false = grind arith in
    rw ne (not_found gs n (λ k d within. none (suc k) d (omega arith)))

numbers_rise : (fs : List Field) → AreFieldsAscending fs → (i j : ℕ) (d : Field) → i ≤ j → j < length fs → (get_or fs i d).number ≤ (get_or fs j d).number
numbers_rise [] up i j d le within = absurd (omega arith)
numbers_rise (f ∷ fs) up zero zero d le within = omega arith
numbers_rise (f ∷ fs) up zero (suc j) d le within = omega (arith, above_first f fs up j d (omega arith))
numbers_rise (f ∷ fs) up (suc i) zero d le within = absurd (omega arith)
numbers_rise (f ∷ fs) up (suc i) (suc j) d le within = numbers_rise fs (tail_ascends f fs up) i j d (omega arith) (omega arith)

index_rises : (a b n : ℕ) → a ≤ b → ordering_index (nat_cmp a n) ≤ ordering_index (nat_cmp b n)
index_rises a b n le = grind arith

orders_rise : (fs : List Field) (n : ℕ) → AreFieldsAscending fs → IsNonDecreasingBy (λ f. ordering_index (nat_cmp f.number n)) fs
orders_rise fs n up i j d le within = index_rises (get_or fs i d).number (get_or fs j d).number n (numbers_rise fs up i j d le within)

differs_less : (a b : ℕ) → nat_cmp a b ≡ Less → a ≢ b
differs_less a b e same = grind arith

differs_greater : (a b : ℕ) → nat_cmp a b ≡ Greater → a ≢ b
differs_greater a b e same = grind arith

equal_is : (a b : ℕ) → nat_cmp a b ≡ Equal → a ≡ b
equal_is a b e = grind arith

pub missed : (fs : List Field) (n i : ℕ) → AreFieldsAscending fs
    → (IsNonDecreasingBy (λ f. ordering_index (nat_cmp f.number n)) fs
    → IsPartitionPoint (λ f. nat_cmp f.number n ≡ Less) (λ f. nat_cmp f.number n ≡ Greater) fs i)
    → field_at fs n ≡ None
missed fs n i up parts =
    let point = parts (orders_rise fs n up) in
    not_found fs n (λ k d within.
    elim (cases_lt k i) [
      | inl lt ↦ differs_less (get_or fs k d).number n (point.0 k d (omega arith) lt)
      | inr le ↦
          differs_greater (get_or fs k d).number n (point.1 k d le within)
    ])

-- the index that a binary search found
pub slice_get_found : (fs : List Field) → AreFieldsAscending fs → (n i : ℕ) → i < length fs → HoldsAt (λ y. nat_cmp y.number n ≡ Equal) fs i → slice_get fs i ≡ field_at fs n
slice_get_found fs up n i within equal =
    let d : Field = record { number = 0; name = []; kind = Uint64; label = Plain } in
    slice_get-get_or fs i d within ∙ sym (found_at fs up n i d within (equal_is (get_or fs i d).number n (equal d)))

-- the index that was tried
pub slice_get_tried : (fs : List Field) → AreFieldsAscending fs → (n i : ℕ) (f : Field) → i < length fs → f ≡ get_or fs i f → f.number ≡ n → slice_get fs i ≡ field_at fs n
slice_get_tried fs up n i f within is same =
    slice_get-get_or fs i f within ∙ sym (found_at fs up n i f within (ap (λ (x : Field). x.number) (sym is) ∙ same))
