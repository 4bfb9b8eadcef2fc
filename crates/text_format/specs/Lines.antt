-- The lines of entries, as protoc lays them out.
use Rattle.std.specs.Prelude.{ℕ, zero, suc, List, [], ◌∷◌, ◌++◌, codes}

-- two blanks for each enclosing message
unfoldable pub indent : ℕ → List ℕ
indent zero = []
indent (suc deep) = 32 ∷ 32 ∷ indent deep

-- the entry of a scalar: its field's name and its value
abbrev pub scalar_prefix : ℕ → List ℕ → List ℕ
scalar_prefix deep name = indent deep ++ (name ++ codes ": ")

abbrev pub scalar_line : ℕ → List ℕ → List ℕ → List ℕ
scalar_line deep name value = scalar_prefix deep name ++ (value ++ codes "\n")

-- the lines around the entries of a message
abbrev pub opening : ℕ → List ℕ → List ℕ
opening deep name = indent deep ++ (name ++ codes " {\n")

abbrev pub closing : ℕ → List ℕ
closing deep = indent deep ++ codes "}\n"

-- a message between them
abbrev pub enclosed : ℕ → List ℕ → List ℕ → List ℕ
enclosed deep name inner = opening deep name ++ (inner ++ closing deep)
