-- The lines of a text, one by one.
use Rattle.std.proofs.Common.{◌≡◌, ◌⊎◌, ℕ, ◌<◌, ◌==◌, Bool, true, false, cond, List, [], ◌∷◌, ◌++◌, length, refl, sym}
use Rattle.std.proofs.Common.{ap, ◌∙◌, inl, inr, append_assoc, arith}
use Rattle.std.specs.List.{onto_first, join_with_byte}
use Rattle.std.proofs.lemmas.List.Splits.{join_with_byte-slice_split}
use Rattle.mrpc_table.specs.Lines.{pieces_of}
use Rattle.audit_check.specs.Inputs.{IsLineSplit}

pub has_piece : (text : List ℕ) → (p : List ℕ) × (ps : List (List ℕ)) × (pieces_of text ≡ p ∷ ps)
has_piece [] = ([], [], refl)
has_piece (x ∷ xs) =
    let rest = has_piece xs in
    elim (x == 10) as (λ (b : Bool). (p : List ℕ) × (ps : List (List ℕ)) × (cond b ([] ∷ pieces_of xs) (onto_first x (pieces_of xs)) ≡ p ∷ ps)) [
      | true ↦ ([], pieces_of xs, refl)
      | false ↦ (x ∷ rest.0, rest.1, ap (onto_first x) rest.2)
    ]

same_pieces : (x y : List ℕ) → pieces_of x ≡ pieces_of y → x ≡ y
same_pieces x y e = sym (join_with_byte-slice_split 10 x) ∙ ap (join_with_byte 10) e ∙ join_with_byte-slice_split 10 y

first_of : (x y : List ℕ) (xs ys : List (List ℕ)) → x ∷ xs ≡ y ∷ ys → x ≡ y
first_of x y xs ys e = cc

rest_of : (x y : List ℕ) (xs ys : List (List ℕ)) → x ∷ xs ≡ y ∷ ys → xs ≡ ys
rest_of x y xs ys e = cc

pub same_line : (text line other x y : List ℕ) → IsLineSplit text line x → IsLineSplit text other y → line ≡ other
same_line text line other x y c d = first_of line other (pieces_of x) (pieces_of y) (sym c ∙ d)

pub same_behind : (text line other x y : List ℕ) → IsLineSplit text line x → IsLineSplit text other y → x ≡ y
same_behind text line other x y c d = same_pieces x y (rest_of line other (pieces_of x) (pieces_of y) (sym c ∙ d))

-- a text that ends in its first line has no other line
pub cut_or_last : (text line behind : List ℕ) → IsLineSplit text line behind → pieces_of text ≡ text ∷ [] → ⊥
cut_or_last text line behind cut last =
    let p = has_piece behind in
    let none : pieces_of behind ≡ [] = rest_of line text (pieces_of behind) [] (sym cut ∙ last) in
    (let clash : p.0 ∷ p.1 ≡ [] = sym p.2 ∙ none in absurd cc)

-- the text is its first line and the remainder
pub cut_text : (text line behind : List ℕ) → IsLineSplit text line behind → text ≡ (line ++ 10 ∷ []) ++ behind
cut_text text line behind cut =
    let p = has_piece behind in
    sym (join_with_byte-slice_split 10 text)
    ∙ ap (join_with_byte 10) (cut ∙ ap (λ (ps : List (List ℕ)). line ∷ ps) p.2)
    ∙ ap (λ (t : List ℕ). line ++ 10 ∷ t) (ap (join_with_byte 10) (sym p.2)
    ∙ join_with_byte-slice_split 10 behind)
    ∙ sym (append_assoc line (10 ∷ []) behind)

pub split : (text : List ℕ) → (pieces_of text ≡ text ∷ []) ⊎ ((line : List ℕ) × (behind : List ℕ) × IsLineSplit text line behind × (length behind < length text))
split [] = inl refl
split (x ∷ xs) = by (x == 10) refl (split xs)
  where
    by : (b : Bool) → (x == 10) ≡ b → (pieces_of xs ≡ xs ∷ []) ⊎ ((line : List ℕ) × (behind : List ℕ) × IsLineSplit xs line behind × (length behind < length xs))
        → (pieces_of (x ∷ xs) ≡ (x ∷ xs) ∷ []) ⊎ ((line : List ℕ) × (behind : List ℕ) × IsLineSplit (x ∷ xs) line behind × (length behind < length (x ∷ xs)))
    by true e rest = inr ([], xs, ap (λ (b : Bool). cond b ([] ∷ pieces_of xs) (onto_first x (pieces_of xs))) e, omega arith)
    by false e (inl last) = inl (ap (λ (b : Bool). cond b ([] ∷ pieces_of xs) (onto_first x (pieces_of xs))) e ∙ ap (onto_first x) last)
    by false e (inr more) =
        inr (x ∷ more.0, more.1, ap (λ (b : Bool). cond b ([] ∷ pieces_of xs) (onto_first x (pieces_of xs))) e ∙ ap (onto_first x) more.2, (let less = more.3 in omega (arith, less)))
