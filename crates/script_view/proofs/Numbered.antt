-- A word and numbers in a line.
use Rattle.std.proofs.Common.{◌≡◌, ℕ, List, [], ◌∷◌, ◌++◌, map, decimal, sym, ap, append-nil}
use Rattle.std.specs.List.{flat_map}
use Rattle.mrpc_table.specs.Text.{line, spaced}

-- a number after others
abbrev pub behind : ℕ → List ℕ
behind n = 32 ∷ decimal n

spaced_out : (word numbers : List ℕ) → spaced (word ∷ map decimal numbers) ≡ word ++ flat_map behind numbers
spaced_out word [] = sym (append-nil word)
spaced_out word (n ∷ ns) = ap (λ (t : List ℕ). word ++ (32 ∷ t)) (spaced_out (decimal n) ns)

pub numbered_line : (word numbers : List ℕ) → line (word ∷ map decimal numbers) ≡ (word ++ flat_map behind numbers) ++ 10 ∷ []
numbered_line word numbers = ap (λ (t : List ℕ). t ++ 10 ∷ []) (spaced_out word numbers)
