-- Blanks before a line.
use Rattle.std.proofs.Common.{◌≡◌, ℕ, zero, suc, ◌+◌, List, [], ◌∷◌, ◌++◌, refl, ap, ◌∙◌, append_assoc, arith}
use Rattle.text_format.specs.Lines.{indent}

two_more : (deep : ℕ) → indent deep ++ 32 ∷ 32 ∷ [] ≡ indent (suc deep)
unfolding indent
two_more zero = refl
two_more (suc deep) = ap (λ (bs : List ℕ). 32 ∷ 32 ∷ bs) (two_more deep)

plus_one : (n : ℕ) → suc n ≡ n + 1
plus_one n = omega arith

-- one level more
pub indent_more : (old new text : List ℕ) (deep : ℕ) → text ≡ old ++ indent deep → new ≡ text ++ 32 ∷ 32 ∷ [] → new ≡ old ++ indent (deep + 1)
indent_more old new text deep before is =
    is ∙ ap (λ (bs : List ℕ). bs ++ 32 ∷ 32 ∷ []) before ∙ append_assoc old (indent deep) (32 ∷ 32 ∷ [])
    ∙ ap (λ (bs : List ℕ). old ++ bs) (two_more deep ∙ ap indent (plus_one deep))
