-- Lines of faults.
use Rattle.std.specs.Prelude.{ℕ, List, [], ◌∷◌, ◌++◌, codes, take, Option}
use Rattle.std.specs.Fmt.{decimal}
use Rattle.std.specs.Io.KnownBytes.{Appends}

abbrev pub line_of_fault : List ℕ → List ℕ → List ℕ
line_of_fault spot word = codes "fault " ++ (spot ++ (32 ∷ (word ++ 10 ∷ [])))

abbrev pub fault_line : ℕ → List ℕ → List ℕ
fault_line place word = line_of_fault (decimal place) word

-- a prefix of a text was written
abbrev pub HasWrittenPrefix : Option (List ℕ) → Option (List ℕ) → List ℕ → Type 0
HasWrittenPrefix out out' text = (many : ℕ) × Appends out out' (take many text)
