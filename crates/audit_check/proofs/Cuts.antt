-- A list that is split at the first occurrence of a byte.
use Rattle.std.proofs.Common.{◌≡◌, ◌≢◌, ℕ, List, [], ◌∷◌, ◌++◌, refl, sym}
use Rattle.std.specs.List.{AllByRecursion}

-- the byte isn't in the list
abbrev pub Lacks : ℕ → List ℕ → Type 0
Lacks c xs = AllByRecursion (λ b. b ≢ c) xs

-- a list splits in one way
pub cut_once : (c : ℕ) (p q x y : List ℕ) → Lacks c p → Lacks c q → p ++ c ∷ x ≡ q ++ c ∷ y → (p ≡ q) × (x ≡ y)
cut_once c [] [] x y h k e = (refl, cc)
cut_once c [] (b ∷ q) x y h k e = let first : c ≡ b = cc in absurd (k.0 (sym first))
cut_once c (a ∷ p) [] x y h k e = let first : a ≡ c = cc in absurd (h.0 first)
cut_once c (a ∷ p) (b ∷ q) x y h k e =
    let first : a ≡ b = cc in
    let later : p ++ c ∷ x ≡ q ++ c ∷ y = cc in
    let rest = cut_once c p q x y h.1 k.1 later in
    ((λ i. first i ∷ rest.0 i), rest.1)

-- and not at all if the byte isn't in it
pub cut_nowhere : (c : ℕ) (text p x : List ℕ) → Lacks c text → text ≡ p ++ c ∷ x → ⊥
cut_nowhere c [] [] x h e = absurd cc
cut_nowhere c [] (a ∷ p) x h e = absurd cc
cut_nowhere c (t ∷ ts) [] x h e = let first : t ≡ c = cc in h.0 first
cut_nowhere c (t ∷ ts) (a ∷ p) x h e = let later : ts ≡ p ++ c ∷ x = cc in cut_nowhere c ts p x h.1 later

-- a list that is split at the first occurrence of a byte
pub record IsCut (c : ℕ) (text line behind : List ℕ) : Type 0 where
  pub lacks : Lacks c line
  pub text_is : text ≡ line ++ c ∷ behind
