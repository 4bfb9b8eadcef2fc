-- The remaining words, and numbers of fewer bits.
use Rattle.std.proofs.Common.{◌≡◌, ℕ, ◌≤◌, ◌<◌, ◌==◌, List, [], ◌∷◌, length, refl, ap, sym, ◌∙◌, arith, Some, None, Option, inl, inr}
use Rattle.std.proofs.lemmas.Bool.{cases_lt, lt-ltb, le-ltb}
use Rattle.std.proofs.lemmas.List.Splits.{length-slice_split}
use Rattle.mrpc_table.specs.Lines.{words_of, number_of}
use Rattle.audit_text.specs.Lines.{WordList}
use Rattle.audit_text.specs.Reading.{below, read_end, number_from, read_number}

none-left : (words : WordList) → 0 < length words → read_end words ≡ None
none-left [] some = absurd (omega (arith, some))
none-left (w ∷ ws) some = refl

pub words-left : (text : List ℕ) → read_end (words_of text) ≡ None
words-left text = none-left (words_of text) (omega (arith, length-slice_split (λ c. c == 32) text))

-- ---- numbers

pub below-some : (bound n : ℕ) (words : WordList) → n < bound → below bound n words ≡ Some (n, words)
below-some bound n words less = rw (lt-ltb n bound less) refl

pub below-none : (bound n : ℕ) (words : WordList) → bound ≤ n → below bound n words ≡ None
below-none bound n words more = rw (le-ltb n bound more) refl

pub some-pair : {A B : Type 0} (a b : A) (x y : B) → ◌≡◌ {A = Option (A × B)} (Some (a, x)) (Some (b, y)) → (a ≡ b) × (x ≡ y)
some-pair {A} {B} a b x y e =
    let h : ◌≡◌ {A = A × B} (a, x) (b, y) = cc in (ap (λ (p : A × B). p.0) h, ap (λ (p : A × B). p.1) h)

pub not-some : {A : Type 0} (x : A) → Some x ≡ None → ⊥
not-some x e = cc

narrow : (low high n : ℕ) (found : Option ℕ) (words rest : WordList) → number_from high found words ≡ Some (n, rest) → number_from low found words ≡ below low n rest
narrow low high n None words rest e = absurd cc
narrow low high n (Some m) words rest e =
    elim (cases_lt m high) [
      | inl less ↦
          let same = some-pair m n words rest (sym (below-some high m words less) ∙ e) in
          ap (λ k. below low k words) same.0 ∙ ap (below low n) same.1
      | inr more ↦ absurd (not-some (n, rest) (sym e ∙ below-none high m words more))
    ]

narrow-lost : (low high : ℕ) (found : Option ℕ) (words : WordList) → low ≤ high → number_from high found words ≡ None → number_from low found words ≡ None
narrow-lost low high None words le e = refl
narrow-lost low high (Some m) words le e =
    elim (cases_lt m high) [
      | inl less ↦ absurd (not-some (m, words) (sym (below-some high m words less) ∙ e))
      | inr more ↦ below-none low m words (omega (arith, le, more))
    ]

-- a 64-bit number that is, or isn't, below a smaller bound
pub narrow-some : (low high n : ℕ) (words rest : WordList) → read_number high words ≡ Some (n, rest) → read_number low words ≡ below low n rest
unfolding read_number
narrow-some low high n [] rest e = absurd cc
narrow-some low high n (w ∷ ws) rest e = narrow low high n (number_of w) ws rest e

pub narrow-none : (low high : ℕ) (words : WordList) → low ≤ high → read_number high words ≡ None → read_number low words ≡ None
unfolding read_number
narrow-none low high [] le e = refl
narrow-none low high (w ∷ ws) le e = narrow-lost low high (number_of w) ws le e
