-- The code's own: which command lines the program answers by itself.
use Rattle.std.specs.Prelude.{◌≡◌, ◌⊎◌, ℕ, List, [], ◌∷◌, codes, map, String, string_bytes}
use Rattle.std.specs.declared.alloc.Global.{Global}

-- the word asks for the help text or for the version
abbrev pub IsProgramOption : List ℕ → Type 0
IsProgramOption word = (word ≡ codes "--help") ⊎ (word ≡ codes "--version")

-- that word is the only one
abbrev pub IsLoneProgramOption : List (String Global) → Type 0
IsLoneProgramOption words = (map string_bytes words ≡ codes "--help" ∷ []) ⊎ (map string_bytes words ≡ codes "--version" ∷ [])
