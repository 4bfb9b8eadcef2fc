-- The definitions on small texts.
use Rattle.std.proofs.Common.{◌≡◌, ◌∷◌, true, false, refl}
use Rattle.std.specs.Prelude.{codes}
use Rattle.hex.specs.Hex.{encode_with}
use Rattle.diagnostics.specs.Snippets.{line_number_at, underline}

-- the caret is under the second byte
second_byte : underline (codes "a}\n") true 0 1 2 2 ≡ codes "a}\n ^\n"
second_byte = refl

-- a character of two bytes takes one column
two_bytes : underline (195 ∷ 164 ∷ codes "}") true 0 2 3 3 ≡ 195 ∷ 164 ∷ codes "}\n ^\n"
two_bytes = refl

-- an unprintable byte takes four
no_character : underline (228 ∷ codes "}") false 0 1 2 2 ≡ codes "\\xe4}\n    ^\n"
unfolding encode_with
no_character = refl

third_line : line_number_at (codes "a\nb\nc") 4 ≡ 3
third_line = refl
