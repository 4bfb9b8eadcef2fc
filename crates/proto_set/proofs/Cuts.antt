-- A list that is split at the first occurrence of a byte.
use Rattle.std.proofs.Common.{◌≡◌, ◌≢◌, ℕ, ◌==◌, true, false, List, [], ◌∷◌, ◌++◌, length, ◌⊎◌, inl, inr, refl, ap, sym, subst, ◌∙◌, arith}
use Rattle.std.specs.List.{slice_split, join_with_byte, AllByRecursion}
use Rattle.std.proofs.lemmas.Bool.{ne_eqb, eq-eqb, eqb-true}
use Rattle.std.proofs.lemmas.Bool.Decides.{eqb_tells}
use Rattle.std.proofs.lemmas.List.Elements.{All-from_recursion}
use Rattle.std.proofs.lemmas.List.Splits.{slice_split_at, slice_split_none, length-slice_split, join_with_byte-slice_split}

-- the byte doesn't occur in the list
abbrev pub Lacks : ℕ → List ℕ → Type 0
Lacks c xs = AllByRecursion (λ b. b ≢ c) xs

pub Lacks-append : (c : ℕ) (xs ys : List ℕ) → Lacks c xs → Lacks c ys → Lacks c (xs ++ ys)
Lacks-append c [] ys h k = k
Lacks-append c (x ∷ xs) ys h k = (h.0, Lacks-append c xs ys h.1 k)

-- a list is split in one way
pub cut_once : (c : ℕ) (p q x y : List ℕ) → Lacks c p → Lacks c q → p ++ c ∷ x ≡ q ++ c ∷ y → (p ≡ q) × (x ≡ y)
cut_once c [] [] x y h k e = (refl, cc)
cut_once c [] (b ∷ q) x y h k e = let first : c ≡ b = cc in absurd (k.0 (sym first))
cut_once c (a ∷ p) [] x y h k e = let first : a ≡ c = cc in absurd (h.0 first)
cut_once c (a ∷ p) (b ∷ q) x y h k e =
    let first : a ≡ b = cc in
    let later : p ++ c ∷ x ≡ q ++ c ∷ y = cc in
    let rest = cut_once c p q x y h.1 k.1 later in
    ((λ i. first i ∷ rest.0 i), rest.1)

-- a list without the byte isn't split
pub cut_nowhere : (c : ℕ) (text p x : List ℕ) → Lacks c text → text ≡ p ++ c ∷ x → ⊥
cut_nowhere c [] [] x h e = absurd cc
cut_nowhere c [] (a ∷ p) x h e = absurd cc
cut_nowhere c (t ∷ ts) [] x h e = let first : t ≡ c = cc in h.0 first
cut_nowhere c (t ∷ ts) (a ∷ p) x h e = let later : ts ≡ p ++ c ∷ x = cc in cut_nowhere c ts p x h.1 later

-- a list that is split at the first occurrence of a byte
pub record IsCut (c : ℕ) (text line behind : List ℕ) : Type 0 where
  pub lacks : Lacks c line
  pub text_is : text ≡ line ++ c ∷ behind

pub cut_or_not : (c : ℕ) (text : List ℕ) → ((line : List ℕ) × (behind : List ℕ) × IsCut c text line behind) ⊎ Lacks c text
cut_or_not c [] = inr tt
cut_or_not c (t ∷ ts) = elim (eqb_tells t c) [
  | inl same ↦ inl ([], ts, record { lacks = tt; text_is = ap (λ (b : ℕ). b ∷ ts) same.1 })
  | inr other ↦
      let apart : t ≢ c = λ e. let is : (t == c) ≡ true = eq-eqb t c e in let isnt : (t == c) ≡ false = other.0 in cc in
      elim (cut_or_not c ts) [
        | inl found ↦ inl (t ∷ found.0, found.1, record { lacks = (apart, found.2.lacks); text_is = ap (λ (r : List ℕ). t ∷ r) found.2.text_is })
        | inr none ↦ inr (apart, none)
      ]
]

-- ---- the parts of a split

tested : (c : ℕ) (xs : List ℕ) → Lacks c xs → AllByRecursion (λ b. (b == c) ≡ false) xs
tested c [] h = tt
tested c (x ∷ xs) h = (ne_eqb x c h.0, tested c xs h.1)

split_at : (c : ℕ) (text line behind : List ℕ) → IsCut c text line behind → slice_split (λ b. b == c) text ≡ line ∷ slice_split (λ b. b == c) behind
split_at c text line behind k =
    ap (slice_split (λ b. b == c)) k.text_is
    ∙ slice_split_at (λ b. b == c) line c behind (All-from_recursion (λ b. (b == c) ≡ false) line (tested c line k.lacks)) (eq-eqb c c refl)

split_nowhere : (c : ℕ) (text : List ℕ) → Lacks c text → slice_split (λ b. b == c) text ≡ text ∷ []
split_nowhere c text h = slice_split_none (λ b. b == c) text (All-from_recursion (λ b. (b == c) ≡ false) text (tested c text h))

some_part : (c : ℕ) (text : List ℕ) → slice_split (λ b. b == c) text ≡ [] → ⊥
some_part c text e = omega (arith, length-slice_split (λ b. b == c) text, ap (length {A = List ℕ}) e)

same_parts : (c : ℕ) (x y : List ℕ) → slice_split (λ b. b == c) x ≡ slice_split (λ b. b == c) y → x ≡ y
same_parts c x y e = sym (join_with_byte-slice_split c x) ∙ ap (join_with_byte c) e ∙ join_with_byte-slice_split c y

pub head_is : {X : Type 0} (x y : X) (xs ys : List X) → x ∷ xs ≡ y ∷ ys → (x ≡ y) × (xs ≡ ys)
head_is x y xs ys e = (cc, cc)

-- a first part and further parts are such a split
pub cut_from_parts : (c : ℕ) (text line behind : List ℕ) → slice_split (λ b. b == c) text ≡ line ∷ slice_split (λ b. b == c) behind → IsCut c text line behind
cut_from_parts c text line behind e = elim (cut_or_not c text) [
  | inl found ↦
      let parts = head_is found.0 line (slice_split (λ b. b == c) found.1) (slice_split (λ b. b == c) behind) (sym (split_at c text found.0 found.1 found.2) ∙ e) in
      let same = same_parts c found.1 behind parts.1 in
      record { lacks = subst (Lacks c) parts.0 found.2.lacks; text_is = found.2.text_is ∙ (λ i. parts.0 i ++ c ∷ same i) }
  | inr none ↦
      let parts = head_is text line [] (slice_split (λ b. b == c) behind) (sym (split_nowhere c text none) ∙ e) in
      absurd (some_part c behind (sym parts.1))
]

-- a single part lacks the byte
pub lacks_from_parts : (c : ℕ) (text : List ℕ) → slice_split (λ b. b == c) text ≡ text ∷ [] → Lacks c text
lacks_from_parts c text e = elim (cut_or_not c text) [
  | inl found ↦
      let parts = head_is found.0 text (slice_split (λ b. b == c) found.1) [] (sym (split_at c text found.0 found.1 found.2) ∙ e) in
      absurd (some_part c found.1 parts.1)
  | inr none ↦ none
]

-- ---- lists that are compared by their length

pub is_nothing : {X : Type 0} (xs : List X) → true ≡ (length xs == 0) → xs ≡ []
is_nothing [] e = refl
is_nothing (x ∷ xs) e = let none : length (x ∷ xs) ≡ 0 = eqb-true (length (x ∷ xs)) 0 (sym e) in absurd (omega arith)

pub is_something : {X : Type 0} (xs : List X) → false ≡ (length xs == 0) → xs ≢ []
is_something xs e none = let yes : (length xs == 0) ≡ true = eq-eqb (length xs) 0 (ap length none) in cc
