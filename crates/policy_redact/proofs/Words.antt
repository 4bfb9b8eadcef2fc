-- The words of a line.
use Rattle.std.proofs.Common.{◌≡◌, ℕ, ◌==◌, Bool, true, false, cond, List, [], ◌∷◌, None, refl, ap}
use Rattle.std.specs.List.{slice_split, onto_first}
use Rattle.mrpc_table.specs.Lines.{words_of}
use Rattle.mrpc_table.specs.declared.words.Decimal.{Decimal}
use Rattle.policy_redact.specs.Lines.{after_index}

-- a list has at least one part
has_part : (sep : ℕ) (text : List ℕ) → (part : List ℕ) × (parts : List (List ℕ)) × (slice_split (λ c. c == sep) text ≡ part ∷ parts)
has_part sep [] = ([], [], refl)
has_part sep (x ∷ xs) =
    let rest = has_part sep xs in
    elim (x == sep) as (λ (b : Bool). (part : List ℕ) × (parts : List (List ℕ))
    × (cond b ([] ∷ slice_split (λ c. c == sep) xs) (onto_first x (slice_split (λ c. c == sep) xs)) ≡ part
    ∷ parts)) [
      | true ↦ ([], slice_split (λ c. c == sep) xs, refl)
      | false ↦ (x ∷ rest.0, rest.1, ap (onto_first x) rest.2)
    ]

pub too_many_words : (index : Decimal) (word path rest : List ℕ) → after_index index (word ∷ path ∷ words_of rest) ≡ None
too_many_words index word path rest = let more = has_part 32 rest in rw more.2 refl
