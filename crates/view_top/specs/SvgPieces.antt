-- The pieces that a drawing's text is made of.
use Rattle.std.specs.Prelude.{ℕ, ◌==◌, List, [], ◌∷◌, codes, take, if◌then◌else◌}
use Rattle.std.specs.List.{AllByRecursion, flat_map}
use Rattle.std.specs.Fmt.{decimal}
use Rattle.view_top.specs.Plain.{IsPlain, is_plain}
use Rattle.view_top.specs.declared.limits.TheConstants.{QUOTED}

-- bytes as they are, a number, or words of the input
pub data SvgPiece : Type 0 where
  text : (bytes : List ℕ) → SvgPiece
  number : (n : ℕ) → SvgPiece
  quote : (words : List ℕ) → SvgPiece

-- a byte of the input: markup characters are escaped, and what a terminal doesn't print is `?`
abbrev pub quoted_byte : ℕ → List ℕ
quoted_byte byte =
    if byte == 38 then codes "&amp;"
    else (if byte == 60 then codes "&lt;"
    else (if byte == 62 then codes "&gt;"
    else (if is_plain byte then byte ∷ [] else codes "?")))

-- the first bytes of words
abbrev pub quoted_words : List ℕ → List ℕ
quoted_words words = flat_map quoted_byte (take QUOTED words)

abbrev pub piece_text : SvgPiece → List ℕ
piece_text (text bytes) = bytes
piece_text (number n) = decimal n
piece_text (quote words) = quoted_words words

-- the pieces in order
unfoldable pub svg : List SvgPiece → List ℕ
svg pieces = flat_map piece_text pieces

-- the code's own: a piece that is copied as it is, is plain
abbrev pub IsPlainPiece : SvgPiece → Type 0
IsPlainPiece (text bytes) = IsPlain bytes
IsPlainPiece _ = Unit {0}

-- the code's own: each piece is plain
abbrev pub ArePlain : List SvgPiece → Type 0
ArePlain pieces = AllByRecursion IsPlainPiece pieces
