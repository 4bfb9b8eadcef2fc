-- The numbers of a path.
use Rattle.std.proofs.Common.{◌≡◌, ℕ, ◌==◌, List, [], ◌∷◌, ◌++◌, Option, Some, None, refl, sym, ap, append_assoc}
use Rattle.std.specs.Prelude.{option_map}
use Rattle.std.specs.List.{slice_split}
use Rattle.mrpc_table.specs.declared.words.Decimal.{Decimal}
use Rattle.mrpc_table.specs.PathWords.{path_of_parts, path_with_first, decimal_of}
use Rattle.mrpc_table.specs.declared.path.PathWord.{PathWord}
use Rattle.mrpc_table.proofs.Cuts.{has_part}

-- numbers before those of a path
abbrev pub behind_numbers : List Decimal → PathWord → PathWord
behind_numbers ns p = record { way = ns ++ p.way; last = p.last }

pub one_more : (ns : List Decimal) (n : Decimal) (p : Option PathWord) → option_map (behind_numbers ns) (option_map (path_with_first n) p) ≡ option_map (behind_numbers (ns ++ n ∷ [])) p
one_more ns n None = refl
one_more ns n (Some p) = ap (λ (w : List Decimal). Some (record { way = w; last = p.last })) (sym (append_assoc ns (n ∷ []) p.way))

pub step_path : (part : List ℕ) (n : Decimal) (text : List ℕ) → decimal_of part ≡ Some n
    → path_of_parts (part ∷ slice_split (λ c. c == 46) text) ≡ option_map (path_with_first n) (path_of_parts (slice_split (λ c. c == 46) text))
step_path part n text is = let rest = has_part 46 text in rw (rest.2, is) refl
