-- A field of a tree is found by its number, since numbers ascend.
use Rattle.std.proofs.Common.{◌≡◌, ◌≢◌, ℕ, zero, suc, ◌<◌, ◌≤◌, ◌==◌, false, List, [], ◌∷◌, length, get_or, Some}
use Rattle.std.proofs.Common.{None, refl, ap, sym, ◌∙◌, arith, inl, inr}
use Rattle.std.proofs.lemmas.Bool.{eq-eqb, cases_lt}
use Rattle.std.specs.Ordering.{nat_cmp, ordering_index}
use Rattle.std.specs.List.Sorted.{IsNonDecreasingBy, IsPartitionPoint}
use Rattle.std.specs.declared.cmp.Ordering.TheVariants.{Less, Equal, Greater}
use Rattle.mrpc_table.specs.Node.{content_at, AreNumbersAscending}
use Rattle.mrpc_table.specs.View.{node_of, content_of}
use Rattle.mrpc_table.specs.Weight.{weight, content_weight}
use Rattle.mrpc_table.specs.declared.tree.FieldValue.{FieldValue}

numbers_above : (fs : List (ℕ × FieldValue)) (last : ℕ) → AreNumbersAscending last (node_of fs) → (k : ℕ) (d : ℕ × FieldValue) → k < length fs → last < (get_or fs k d).0
numbers_above [] last up k d within = absurd (omega arith)
numbers_above (f ∷ fs) last up zero d within = up.0
numbers_above (f ∷ fs) last up (suc k) d within = omega (arith, up.0, numbers_above fs f.0 up.1 k d (omega arith))

read_again : (fs : List (ℕ × FieldValue)) (i : ℕ) (d : ℕ × FieldValue) → i < length fs → get_or fs i d ≡ get_or fs i (get_or fs i d)
read_again [] i d within = absurd (omega arith)
read_again (f ∷ fs) zero d within = refl
read_again (f ∷ fs) (suc i) d within = read_again fs i d (omega arith)

found : (fs : List (ℕ × FieldValue)) (last n i : ℕ) (f : ℕ × FieldValue) → AreNumbersAscending last (node_of fs)
    → i < length fs → f ≡ get_or fs i f → f.0 ≡ n → content_at (node_of fs) n ≡ Some (content_of f.1)
found [] last n i f up within at is = absurd (omega arith)
found (g ∷ gs) last n zero f up within at is =
    let e : g.0 ≡ n = ap (λ (h : ℕ × FieldValue). h.0) (sym at) ∙ is in rw (eq-eqb g.0 n e) (ap (λ (h : ℕ × FieldValue). Some (content_of h.1)) (sym at))
found (g ∷ gs) last n (suc i) f up within at is =
    let low : g.0 < (get_or gs i f).0 = numbers_above gs g.0 up.1 i f (omega arith) in
    let e : (get_or gs i f).0 ≡ n = ap (λ (h : ℕ × FieldValue). h.0) (sym at) ∙ is in
    let ne : (g.0 == n) ≡ false = grind arith in
    rw ne (found gs g.0 n i f up.1 (omega arith) at is)

pub found-at : (fs : List (ℕ × FieldValue)) (n i : ℕ) (d : ℕ × FieldValue) → AreNumbersAscending 0 (node_of fs)
    → i < length fs → (get_or fs i d).0 ≡ n → content_at (node_of fs) n ≡ Some (content_of (get_or fs i d).1)
found-at fs n i d up within is = found fs 0 n i (get_or fs i d) up within (read_again fs i d within) is

not_found : (fs : List (ℕ × FieldValue)) (n : ℕ) → ((k : ℕ) (d : ℕ × FieldValue) → k < length fs → (get_or fs k d).0 ≢ n) → content_at (node_of fs) n ≡ None
not_found [] n none = refl
not_found (g ∷ gs) n none =
    let other : g.0 ≢ n = none 0 g (omega arith) in
    let ne : (g.0 == n) ≡ false = grind arith in
    rw ne (not_found gs n (λ k d within. none (suc k) d (omega arith)))

numbers_rise : (fs : List (ℕ × FieldValue)) (last : ℕ) → AreNumbersAscending last (node_of fs)
    → (i j : ℕ) (d : ℕ × FieldValue) → i ≤ j → j < length fs → (get_or fs i d).0 ≤ (get_or fs j d).0
numbers_rise [] last up i j d le within = absurd (omega arith)
numbers_rise (f ∷ fs) last up zero zero d le within = omega arith
numbers_rise (f ∷ fs) last up zero (suc j) d le within = omega (arith, numbers_above fs f.0 up.1 j d (omega arith))
numbers_rise (f ∷ fs) last up (suc i) zero d le within = absurd (omega arith)
numbers_rise (f ∷ fs) last up (suc i) (suc j) d le within = numbers_rise fs f.0 up.1 i j d (omega arith) (omega arith)

index_rises : (a b n : ℕ) → a ≤ b → ordering_index (nat_cmp a n) ≤ ordering_index (nat_cmp b n)
index_rises a b n le = grind arith

orders_rise : (fs : List (ℕ × FieldValue)) (last n : ℕ) → AreNumbersAscending last (node_of fs) → IsNonDecreasingBy (λ (f : ℕ × FieldValue). ordering_index (nat_cmp f.0 n)) fs
orders_rise fs last n up i j d le within = index_rises (get_or fs i d).0 (get_or fs j d).0 n (numbers_rise fs last up i j d le within)

differs_less : (a b : ℕ) → nat_cmp a b ≡ Less → a ≢ b
differs_less a b e same = grind arith

differs_greater : (a b : ℕ) → nat_cmp a b ≡ Greater → a ≢ b
differs_greater a b e same = grind arith

pub equal_is : (a b : ℕ) → nat_cmp a b ≡ Equal → a ≡ b
equal_is a b e = grind arith

pub missed : (fs : List (ℕ × FieldValue)) (last n i : ℕ) → AreNumbersAscending last (node_of fs)
    → (IsNonDecreasingBy (λ (f : ℕ × FieldValue). ordering_index (nat_cmp f.0 n)) fs
    → IsPartitionPoint (λ (f : ℕ × FieldValue). nat_cmp f.0 n ≡ Less) (λ (f : ℕ × FieldValue). nat_cmp f.0 n
    ≡ Greater) fs i)
    → content_at (node_of fs) n ≡ None
missed fs last n i up parts =
    let point = parts (orders_rise fs last n up) in
    not_found fs n (λ k d within.
    elim (cases_lt k i) [
      | inl lt ↦ differs_less (get_or fs k d).0 n (point.0 k d (omega arith) lt)
      | inr le ↦
          differs_greater (get_or fs k d).0 n (point.1 k d le within)
    ])

-- the content of a field weighs less than the message
pub weight_at : (xs : List (ℕ × FieldValue)) (i : ℕ) (d : ℕ × FieldValue) → i < length xs → content_weight (content_of (get_or xs i d).1) < weight (node_of xs)
weight_at [] i d h = absurd (omega (arith, h))
weight_at (x ∷ xs) zero d h = omega arith
weight_at (x ∷ xs) (suc i) d h = let rest = weight_at xs i d (omega (arith, h)) in omega (arith, rest)
