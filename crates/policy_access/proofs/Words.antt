-- The words of a line.
use Rattle.std.proofs.Common.{◌≡◌, ℕ, suc, ◌==◌, ◌||◌, Bool, true, false, cond, List, [], ◌∷◌, length, Option, Some, None, refl, ap, ◌∙◌, arith, Bor, IfSome}
use Rattle.std.specs.Prelude.{if◌then◌else◌, option_map}
use Rattle.std.specs.List.{slice_split, onto_first}
use Rattle.std.proofs.lemmas.List.Splits.{join_with_byte-slice_split}
use Rattle.mrpc_table.specs.Lines.{words_of}
use Rattle.policy_access.specs.Lines.{value_of, is_quoted, optional_test, test_line_of}
use Rattle.policy_access.specs.Values.{quoted_text, quoted_part}

-- a list has at least one part
has_part : (sep : ℕ) (text : List ℕ) → (part : List ℕ) × (parts : List (List ℕ)) × (slice_split (λ c. c == sep) text ≡ part ∷ parts)
has_part sep [] = ([], [], refl)
has_part sep (x ∷ xs) =
    let rest = has_part sep xs in
    elim (x == sep) as (λ (b : Bool). (part : List ℕ) × (parts : List (List ℕ))
    × (cond b ([] ∷ slice_split (λ c. c == sep) xs) (onto_first x (slice_split (λ c. c == sep) xs)) ≡ part
    ∷ parts)) [
      | true ↦ ([], slice_split (λ c. c == sep) xs, refl)
      | false ↦ (x ∷ rest.0, rest.1, ap (onto_first x) rest.2)
    ]

-- the words of a line, joined, are the line
pub value_of_line : (line : List ℕ) → value_of (words_of line) ≡ (if is_quoted line || length (words_of line) == 1 then Some line else None)
value_of_line line = ap (λ (v : List ℕ). if is_quoted v || length (words_of line) == 1 then Some v else None) (join_with_byte-slice_split 32 line)

pub more_words : (r : Option (Bor (List ℕ) × Bor (List ℕ))) → IfSome r (λ p. (word : List ℕ) × (words : List (List ℕ)) × (words_of p.1.now ≡ word ∷ words))
more_words None = tt
more_words (Some p) = has_part 32 p.1.now

-- a line is never an empty list of words
pub optional_test_of_line : (line : List ℕ) → optional_test (words_of line) ≡ option_map Some (test_line_of (words_of line))
optional_test_of_line line = let rest = has_part 32 line in rw rest.2 refl

-- more than a text between quotes
more_behind : (text after : List ℕ) → (length after == 0) ≡ false → quoted_part ([] ∷ text ∷ slice_split (λ c. c == 34) after) ≡ None
more_behind text [] some = absurd cc
more_behind text (c ∷ cs) some =
    let rest = has_part 34 cs in
    elim (c == 34) as (λ (b : Bool). quoted_part ([] ∷ text ∷ cond b ([] ∷ slice_split (λ c. c == 34) cs) (onto_first c (slice_split (λ c. c == 34) cs))) ≡ None) [
      | true ↦ rw rest.2 refl
      | false ↦ rw rest.2 refl
    ]

not_zero : (n : ℕ) → (suc n == 0) ≡ true → ⊥
not_zero n is = grind arith

pub no_text_before : (word before : List ℕ) (parts : List (List ℕ)) → slice_split (λ c. c == 34) word ≡ before ∷ parts → (length before == 0) ≡ false → quoted_text word ≡ None
no_text_before word [] parts is some = absurd cc
no_text_before word (c ∷ cs) parts is some = ap quoted_part is

pub no_text_behind : (word before rest text after : List ℕ)
    → slice_split (λ c. c == 34) word ≡ before ∷ slice_split (λ c. c == 34) rest
    → slice_split (λ c. c == 34) rest ≡ text ∷ slice_split (λ c. c == 34) after
    → (length before == 0) ≡ true → (length after == 0) ≡ false → quoted_text word ≡ None
no_text_behind word [] rest text after is_word is_rest none some = ap quoted_part (is_word ∙ ap (λ (ps : List (List ℕ)). [] ∷ ps) is_rest) ∙ more_behind text after some
no_text_behind word (c ∷ cs) rest text after is_word is_rest none some = absurd (not_zero (length cs) none)
