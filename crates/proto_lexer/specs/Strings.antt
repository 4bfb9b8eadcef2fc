-- The values of the string literals of a proto file (Protocol Buffers, proto3 language specification, "String
-- literals"; escapes as protoc reads them).
use Rattle.std.specs.Prelude.{◌≢◌, ℕ, zero, suc, ◌+◌, ◌-◌, ◌*◌, ◌/◌, ◌%◌, ◌==◌, nat_lt, nat_le, min, Bool, false}
use Rattle.std.specs.Prelude.{◌&&◌, if◌then◌else◌, List, [], ◌∷◌, ◌++◌, length, take, drop}
use Rattle.std.specs.List.{prefix_len}
use Rattle.std.specs.Char.{is_digit, digit_char}
use Rattle.std.specs.Str.Parse.{digits_value}
use Rattle.proto_lexer.specs.Literals.{is_octal_digit}

-- the leading digits of a base, at most n: their count, the number they spell, and the bytes after them
abbrev pub leading_digit_count : ℕ → ℕ → List ℕ → ℕ
leading_digit_count base n bytes = min n (prefix_len (λ c. is_digit c base) bytes)

abbrev pub leading_number : ℕ → ℕ → List ℕ → ℕ
leading_number base n bytes = digits_value base (take (leading_digit_count base n bytes) bytes)

abbrev pub after_leading_digits : ℕ → ℕ → List ℕ → List ℕ
after_leading_digits base n bytes = drop (leading_digit_count base n bytes) bytes

-- the UTF-8 bytes of a code point; for a number above the code points, the escape that spells it
abbrev pub low_six : ℕ → ℕ
low_six n = 128 + n % 64

abbrev pub hexadecimal_char : ℕ → ℕ
hexadecimal_char n = digit_char (n % 16)

abbrev pub utf8 : ℕ → List ℕ
utf8 n =
    if nat_lt n 128 then n ∷ []
    else if nat_lt n 2048 then (192 + n / 64) ∷ low_six n ∷ []
    else if nat_lt n 65536 then (224 + n / 4096) ∷ low_six (n / 64) ∷ low_six n ∷ []
    else if nat_lt n 1114112 then (240 + n / 262144) ∷ low_six (n / 4096) ∷ low_six (n / 64) ∷ low_six n ∷ []
    else 92 ∷ 85 ∷ hexadecimal_char (n / 268435456) ∷ hexadecimal_char (n / 16777216)
    ∷ hexadecimal_char (n / 1048576) ∷ hexadecimal_char (n / 65536) ∷ hexadecimal_char (n / 4096)
    ∷ hexadecimal_char (n / 256) ∷ hexadecimal_char (n / 16) ∷ hexadecimal_char n ∷ []

-- a high surrogate of UTF-16, and the `\u` escape of a low one
abbrev pub is_high_surrogate : ℕ → Bool
is_high_surrogate n = nat_le 55296 n && nat_lt n 56320

abbrev pub is_low_surrogate : ℕ → Bool
is_low_surrogate n = nat_le 56320 n && nat_lt n 57344

abbrev pub is_low_surrogate_escape : List ℕ → Bool
is_low_surrogate_escape (a ∷ b ∷ cs) = (a == 92 && b == 117) && (leading_digit_count 16 4 cs == 4 && is_low_surrogate (leading_number 16 4 cs))
is_low_surrogate_escape _ = false

abbrev pub from_surrogates : ℕ → ℕ → ℕ
from_surrogates high low = 65536 + ((high - 55296) * 1024 + (low - 56320))

-- an escape, given the bytes after its backslash: its value, and the bytes after it
pub record Escape : Type 0 where
  pub value : List ℕ
  pub behind : List ℕ

abbrev pub is_surrogate_pair : ℕ → List ℕ → Bool
is_surrogate_pair n behind = is_high_surrogate n && is_low_surrogate_escape behind

-- the code point n; a high surrogate followed by the escape of a low one forms one code point with it
abbrev pub code_point : ℕ → List ℕ → Escape
code_point n behind =
    if is_surrogate_pair n behind
    then record { value = utf8 (from_surrogates n (leading_number 16 4 (drop 2 behind))); behind = drop 6 behind }
    else record { value = utf8 n; behind = behind }

-- a `\u` or `\U` escape, given its number of digits
abbrev pub unicode_escape : ℕ → List ℕ → Escape
unicode_escape most cs = code_point (leading_number 16 most cs) (after_leading_digits 16 most cs)

-- `\a`, `\b`, `\f`, `\n`, `\r`, `\t` and `\v` are control bytes; after a backslash every other byte represents itself
abbrev pub simple_value : ℕ → ℕ
simple_value c =
    if c == 97 then 7 else if c == 98 then 8 else if c == 102 then 12 else if c == 110 then 10
    else if c == 114 then 13 else if c == 116 then 9 else if c == 118 then 11 else c

unfoldable pub escape_of : List ℕ → Escape
escape_of [] = record { value = []; behind = [] }
escape_of (c ∷ cs) =
    if is_octal_digit c then record { value = leading_number 8 3 (c ∷ cs) % 256 ∷ []; behind = after_leading_digits 8 3 (c ∷ cs) }
    else if c == 120 then record { value = leading_number 16 2 cs % 256 ∷ []; behind = after_leading_digits 16 2 cs }
    else if c == 117 then unicode_escape 4 cs
    else if c == 85 then unicode_escape 8 cs
    else record { value = simple_value c ∷ []; behind = cs }

-- the value of the bytes between the quotes: each byte represents itself, but a backslash starts an escape
pub data HasStringValue : List ℕ → List ℕ → Type 0 where
  nothing : HasStringValue [] []
  itself : (c : ℕ) (rest value : List ℕ) → c ≢ 92 → HasStringValue rest value → HasStringValue (c ∷ rest) (c ∷ value)
  escape : (rest value : List ℕ) → HasStringValue (escape_of rest).behind value
      → HasStringValue (92 ∷ rest) ((escape_of rest).value ++ value)

-- the value as a function; the first n bytes belong to an escape that was already read
unfoldable pub value_skipping : ℕ → List ℕ → List ℕ
value_skipping n [] = []
value_skipping (suc n) (c ∷ cs) = value_skipping n cs
value_skipping zero (c ∷ cs) =
    if c == 92 then (escape_of cs).value ++ value_skipping (length cs - length (escape_of cs).behind) cs
    else c ∷ value_skipping zero cs

abbrev pub body_value : List ℕ → List ℕ
body_value body = value_skipping zero body

-- the bytes between the quotes
abbrev pub body_of : List ℕ → List ℕ
body_of literal = take (length literal - 2) (drop 1 literal)

abbrev pub string_value : List ℕ → List ℕ
string_value literal = body_value (body_of literal)
