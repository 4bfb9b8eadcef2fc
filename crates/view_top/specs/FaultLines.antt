-- The line of a fault.
use Rattle.std.specs.Prelude.{ℕ, List, [], ◌∷◌, ◌++◌, codes}
use Rattle.std.specs.Fmt.{decimal}

abbrev pub fault_line : ℕ → List ℕ → List ℕ
fault_line place word = codes "fault " ++ (decimal place ++ (32 ∷ (word ++ 10 ∷ [])))
