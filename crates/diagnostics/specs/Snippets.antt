-- The line of an offset of a text, and the part of it that is quoted.
use Rattle.std.specs.Prelude.{◌≡◌, ◌≢◌, ◌⊎◌, ◌↔◌, ◌<◌, ◌≤◌, ◌+◌, ◌-◌, ◌/◌, ◌==◌, ◌&&◌, ◌||◌, min, max, nat_le, nat_lt, if◌then◌else◌, ℕ, Bool, true, List, [], ◌∷◌, ◌++◌, Some, take, drop, length, slice_get, replicate, codes}
use Rattle.std.specs.List.{flat_map}
use Rattle.std.specs.Fmt.{decimal}
use Rattle.std.specs.Str.{IsUtf8}
use Rattle.hex.specs.Hex.{encode_lower}
use Rattle.mrpc_table.specs.Lines.{line_count}

-- the line number of an offset, from 1: the number of line feeds before it, plus one
abbrev pub line_number_at : List ℕ → ℕ → ℕ
line_number_at text at = line_count (take at text) + 1

-- a line starts here: at the start of the text, or right after a line feed
abbrev pub IsLineStart : List ℕ → ℕ → Type 0
IsLineStart text start = (start ≡ 0) ⊎ ((before : ℕ) × (start ≡ before + 1) × (slice_get text before ≡ Some 10))

-- a line ends here: at the end of the text, or at a line feed
abbrev pub IsLineEnd : List ℕ → ℕ → Type 0
IsLineEnd text end = (end ≡ length text) ⊎ (slice_get text end ≡ Some 10)

-- there is no line feed from the first offset up to the second
abbrev pub IsWithinLine : List ℕ → ℕ → ℕ → Type 0
IsWithinLine text start end = (i : ℕ) → start ≤ i → i < end → slice_get text i ≢ Some 10

-- the start and the end of the line that contains an offset
pub record IsLineAt (text : List ℕ) (at start end : ℕ) : Type 0 where
  pub begins : IsLineStart text start
  pub front : start ≤ at
  pub in_front : IsWithinLine text start at
  pub back : at ≤ end
  pub behind : IsWithinLine text at end
  pub ends : IsLineEnd text end

-- the bytes of a text from one offset up to another
abbrev pub bytes_between : List ℕ → ℕ → ℕ → List ℕ
bytes_between text from to = take (to - from) (drop from text)

-- a byte that a snippet prints as it is: printable ASCII, and in UTF-8 each byte above ASCII
abbrev pub is_verbatim : Bool → ℕ → Bool
is_verbatim is_utf8 byte = (nat_le 32 byte && nat_lt byte 127) || (is_utf8 && nat_le 128 byte)

-- a byte in printable form: a tab as a blank, any other unprintable byte as `\x` and two hexadecimal digits
abbrev pub printable : Bool → ℕ → List ℕ
printable is_utf8 byte = if is_verbatim is_utf8 byte then byte ∷ [] else if byte == 9 then 32 ∷ [] else codes "\\x" ++
    encode_lower (byte ∷ [])

-- the columns of a terminal that this takes; the bytes of a character after its first take none
abbrev pub columns : Bool → ℕ → ℕ
columns is_utf8 byte = if is_utf8 && nat_le 128 byte && nat_lt byte 192 then 0 else if is_verbatim is_utf8 byte ||
    byte == 9 then 1 else 4

-- the marks under a byte
abbrev pub carets_under : ℕ → Bool → ℕ → List ℕ
carets_under mark is_utf8 byte = replicate (columns is_utf8 byte) mark

-- the line, the column and a sentence
abbrev pub snippet_header : ℕ → ℕ → List ℕ → List ℕ
snippet_header line column sentence = decimal line ++ codes ":" ++ decimal column ++ codes ": " ++ sentence ++ codes
    "\n"

-- a part of a line, and under it a caret for each column from one offset up to another, at least one
abbrev pub underline : List ℕ → Bool → ℕ → ℕ → ℕ → ℕ → List ℕ
underline text is_utf8 from at stop to =
    flat_map (printable is_utf8) (bytes_between text from to) ++ codes "\n"
    ++ flat_map (carets_under 32 is_utf8) (bytes_between text from at) ++ codes "^"
    ++ flat_map (carets_under 94 is_utf8) (bytes_between text (at + 1) stop) ++ codes "\n"

-- the quoted part of the line has at most `width` bytes, at most half of them before the offset, and the
-- carets go up to `end` or to the end of the part
pub record IsSnippet (text : List ℕ) (at end width : ℕ) (sentence shown : List ℕ) : Type 0 where
  pub line_start : ℕ
  pub line_end : ℕ
  pub line : IsLineAt text at line_start line_end
  pub from : ℕ
  pub begins : from ≡ max line_start (at - width / 2)
  pub to : ℕ
  pub ends : to ≡ min line_end (from + width)
  pub stop : ℕ
  pub marks : stop ≡ max at (min end to)
  pub is_utf8 : Bool
  pub readable : is_utf8 ≡ true ↔ IsUtf8 (bytes_between text from to)
  pub spelled : shown ≡ snippet_header (line_number_at text at) (at - line_start + 1) sentence ++ underline text is_utf8
      from at stop to
