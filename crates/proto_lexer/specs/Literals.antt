-- Numbers, strings and punctuators of a proto file (Protocol Buffers, proto3 language specification, "Lexical
-- elements"; escapes as protoc reads them).
use Rattle.std.specs.Prelude.{◌≡◌, ◌⊎◌, ℕ, ◌==◌, nat_le, Bool, true, false, not, ◌&&◌, ◌||◌, List, [], ◌∷◌, ◌++◌, codes}
use Rattle.std.specs.List.{list_all, list_any, prefix_len}
use Rattle.std.specs.Char.{is_digit}
use Rattle.std.specs.Str.Parse.{digits_value}
use Rattle.mrpc_table.specs.Names.{is_name_byte}
use Rattle.mrpc_table.specs.Lines.{is_decimal}
use Rattle.proto_lexer.specs.Gaps.{first_satisfies}

-- ---- numbers

abbrev pub is_decimal_digit : ℕ → Bool
is_decimal_digit c = is_digit c 10

abbrev pub is_octal_digit : ℕ → Bool
is_octal_digit c = is_digit c 8

abbrev pub is_hexadecimal_digit : ℕ → Bool
is_hexadecimal_digit c = is_digit c 16

-- the list isn't empty
abbrev pub is_nonempty : List ℕ → Bool
is_nonempty [] = false
is_nonempty (c ∷ cs) = true

-- decimal digits without a leading zero, octal digits after `0`, or hexadecimal digits after `0x` or `0X`
pub data IsInteger (literal : List ℕ) (value : ℕ) : Type 0 where
  decimal : is_decimal literal ≡ true → value ≡ digits_value 10 literal → IsInteger literal value
  octal : (digits : List ℕ) → literal ≡ 48 ∷ digits → is_nonempty digits ≡ true → list_all is_octal_digit digits ≡ true
      → value ≡ digits_value 8 digits → IsInteger literal value
  hexadecimal : (x : ℕ) (digits : List ℕ) → literal ≡ 48 ∷ x ∷ digits → (x ≡ 120) ⊎ (x ≡ 88) → is_nonempty digits ≡ true
      → list_all is_hexadecimal_digit digits ≡ true → value ≡ digits_value 16 digits → IsInteger literal value

abbrev pub is_exponent_letter : ℕ → Bool
is_exponent_letter c = c == 101 || c == 69

abbrev pub is_sign : ℕ → Bool
is_sign c = c == 43 || c == 45

-- `e` or `E`, an optional sign, and digits
pub data IsExponent (literal : List ℕ) : Type 0 where
  unsigned : (e : ℕ) (digits : List ℕ) → literal ≡ e ∷ digits → is_exponent_letter e ≡ true → is_nonempty digits ≡ true
      → list_all is_decimal_digit digits ≡ true → IsExponent literal
  signed : (e sign : ℕ) (digits : List ℕ) → literal ≡ e ∷ sign ∷ digits → is_exponent_letter e ≡ true
      → is_sign sign ≡ true → is_nonempty digits ≡ true → list_all is_decimal_digit digits ≡ true → IsExponent literal

-- a number with a point, with an exponent, or with both
pub data IsNumber (literal : List ℕ) : Type 0 where
  point : (whole part power : List ℕ) → literal ≡ whole ++ (46 ∷ part ++ power) → is_decimal whole ≡ true
      → list_all is_decimal_digit part ≡ true → (power ≡ []) ⊎ IsExponent power → IsNumber literal
  fraction : (part power : List ℕ) → literal ≡ 46 ∷ part ++ power → is_nonempty part ≡ true
      → list_all is_decimal_digit part ≡ true → (power ≡ []) ⊎ IsExponent power → IsNumber literal
  exponent : (whole power : List ℕ) → literal ≡ whole ++ power → is_decimal whole ≡ true → IsExponent power
      → IsNumber literal

-- what may not directly follow a number: a letter, a digit, `_` or a point
abbrev pub continues_number : ℕ → Bool
continues_number c = is_name_byte c || c == 46

-- ---- strings

abbrev pub is_quote : ℕ → Bool
is_quote c = c == 34 || c == 39

-- a byte that represents itself: no quote of this kind, backslash, line feed or NUL byte
abbrev pub is_literal_byte : ℕ → ℕ → Bool
is_literal_byte quote c = (not (c == quote) && not (c == 92)) && (not (c == 10) && not (c == 0))

-- `\a`, `\b`, `\f`, `\n`, `\r`, `\t`, `\v`, `\\`, `\?`, `\'`, `\"`
abbrev pub is_simple_escape : ℕ → Bool
is_simple_escape c = list_any (λ e. c == e) (codes "abfnrtv\\?'\"")

-- the bytes start with at least this many hexadecimal digits
abbrev pub has_digits : ℕ → List ℕ → Bool
has_digits n bytes = nat_le n (prefix_len is_hexadecimal_digit bytes)

-- eight hexadecimal digits of a number up to 0x1fffff
abbrev pub is_wide : List ℕ → Bool
is_wide (a ∷ b ∷ c ∷ bytes) = (a == 48 && b == 48) && ((c == 48 || c == 49) && has_digits 5 bytes)
is_wide _ = false

-- what may appear between two quotes of this kind; here the digits of an escape count as plain bytes
pub data IsBody (quote : ℕ) : List ℕ → Type 0 where
  no_bytes : {body : List ℕ} → body ≡ [] → IsBody quote body
  plain : {body : List ℕ} (c : ℕ) (more : List ℕ) → body ≡ c ∷ more → is_literal_byte quote c ≡ true → IsBody quote more
      → IsBody quote body
  simple_escape : {body : List ℕ} (c : ℕ) (more : List ℕ) → body ≡ 92 ∷ c ∷ more → is_simple_escape c ≡ true
      → IsBody quote more → IsBody quote body
  -- one to three octal digits
  octal_escape : {body : List ℕ} (c : ℕ) (more : List ℕ) → body ≡ 92 ∷ c ∷ more → is_octal_digit c ≡ true
      → IsBody quote more → IsBody quote body
  -- `\x` and one or two hexadecimal digits
  hexadecimal_escape : {body : List ℕ} (more : List ℕ) → body ≡ 92 ∷ 120 ∷ more → has_digits 1 more ≡ true
      → IsBody quote more → IsBody quote body
  -- `\u` and four hexadecimal digits
  unicode_escape : {body : List ℕ} (more : List ℕ) → body ≡ 92 ∷ 117 ∷ more → has_digits 4 more ≡ true
      → IsBody quote more → IsBody quote body
  -- `\U` and eight hexadecimal digits
  wide_escape : {body : List ℕ} (more : List ℕ) → body ≡ 92 ∷ 85 ∷ more → is_wide more ≡ true → IsBody quote more
      → IsBody quote body

-- ---- punctuators

abbrev pub is_punctuator_byte : ℕ → Bool
is_punctuator_byte c = list_any (λ m. c == m) (codes "=;{}()<>[],.-+:/")

-- the byte starts a longer token or a comment: a point before a digit, or a slash before `/` or `*`
abbrev pub starts_number_or_comment : ℕ → List ℕ → Bool
starts_number_or_comment c rest = (c == 46 && first_satisfies is_decimal_digit rest) || (c == 47 && first_satisfies (λ d. d == 47 || d == 42) rest)
