-- The code's own: the token at the start of a byte string, decided by its first bytes.
use Rattle.std.specs.Prelude.{ℕ, ◌+◌, ◌==◌, Bool, not, ◌&&◌, ◌||◌, if◌then◌else◌, List, [], ◌∷◌, take, drop, Option}
use Rattle.std.specs.Prelude.{Some, None, option_map}
use Rattle.std.specs.List.{prefix_len}
use Rattle.std.specs.Str.Parse.{digits_value}
use Rattle.mrpc_table.specs.Names.{is_name_start, is_name_byte}
use Rattle.mrpc_table.specs.Lines.{in_64_bits}
use Rattle.proto_lexer.specs.Gaps.{is_blank, first_satisfies}
use Rattle.proto_lexer.specs.Literals.{is_decimal_digit, is_octal_digit, is_hexadecimal_digit, is_exponent_letter}
use Rattle.proto_lexer.specs.Literals.{is_sign, continues_number, is_quote, is_simple_escape, has_digits, is_wide, is_punctuator_byte}
use Rattle.proto_lexer.specs.Literals.{starts_number_or_comment}
use Rattle.proto_lexer.specs.declared.token.TokenKind.TheVariants.{Identifier, Integer, Number, Text, Mark}
use Rattle.proto_lexer.specs.declared.scan.ScannedToken.{ScannedToken}

-- ---- blanks and comments

-- where the scanner is: between tokens, after a slash, in a line comment, in a block comment, or after a `*` in one;
-- with the bytes from the slash on
pub data GapState : Type 0 where
  between : GapState
  slash : List ℕ → GapState
  line : GapState
  block : List ℕ → GapState
  star : List ℕ → GapState

-- the remainder after the leading blanks and comments
unfoldable pub skip_gap : GapState → List ℕ → List ℕ
skip_gap between [] = []
skip_gap between (c ∷ cs) = if is_blank c then skip_gap between cs else if c == 47 then skip_gap (slash (c ∷ cs)) cs else c ∷ cs
skip_gap (slash start) [] = start
skip_gap (slash start) (c ∷ cs) = if c == 47 then skip_gap line cs else if c == 42 then skip_gap (block start) cs else start
skip_gap line [] = []
skip_gap line (c ∷ cs) = if c == 10 then skip_gap between cs else skip_gap line cs
skip_gap (block start) [] = start
skip_gap (block start) (c ∷ cs) = if c == 42 then skip_gap (star start) cs else skip_gap (block start) cs
skip_gap (star start) [] = start
skip_gap (star start) (c ∷ cs) =
    if c == 47 then skip_gap between cs else if c == 42 then skip_gap (star start) cs else skip_gap (block start) cs

-- ---- numbers

abbrev pub integer_of : ℕ → List ℕ → ℕ → ℕ → Option ScannedToken
integer_of base digits before n =
    if n == 0 then None
    else Some (record { kind = Integer (in_64_bits (digits_value base (take n digits))); len = n + before })

abbrev pub hexadecimal_after_prefix : List ℕ → Option ScannedToken
hexadecimal_after_prefix digits = integer_of 16 digits 2 (prefix_len is_hexadecimal_digit digits)

abbrev pub octal_after_zero : List ℕ → Option ScannedToken
octal_after_zero digits = integer_of 8 digits 1 (prefix_len is_octal_digit digits)

abbrev pub fraction_len : List ℕ → ℕ
fraction_len [] = 0
fraction_len (c ∷ cs) = if c == 46 then prefix_len is_decimal_digit cs + 1 else 0

abbrev pub unless_none : ℕ → ℕ → ℕ
unless_none before n = if n == 0 then 0 else n + before

abbrev pub exponent_len : List ℕ → ℕ
exponent_len (e ∷ sign ∷ cs) =
    if is_exponent_letter e
    then
    if is_sign sign then unless_none 2 (prefix_len is_decimal_digit cs)
    else unless_none 1 (prefix_len is_decimal_digit (sign ∷ cs))
    else 0
exponent_len _ = 0

abbrev pub decimal_token_of : List ℕ → ℕ → ℕ → ℕ → ScannedToken
decimal_token_of bytes whole part power =
    if part == 0 && power == 0
    then record { kind = Integer (in_64_bits (digits_value 10 (take whole bytes))); len = whole }
    else record { kind = Number; len = (whole + part) + power }

abbrev pub decimal_at : List ℕ → ScannedToken
decimal_at bytes =
    let whole = prefix_len is_decimal_digit bytes in
    let part = fraction_len (drop whole bytes) in
    decimal_token_of bytes whole part (exponent_len (drop part (drop whole bytes)))

abbrev pub is_hexadecimal_prefix : ℕ → ℕ → Bool
is_hexadecimal_prefix a b = a == 48 && (b == 120 || b == 88)

abbrev pub unchecked_number_at : List ℕ → Option ScannedToken
unchecked_number_at (a ∷ b ∷ cs) =
    if is_hexadecimal_prefix a b then hexadecimal_after_prefix cs
    else if a == 48 && is_decimal_digit b then octal_after_zero (b ∷ cs)
    else Some (decimal_at (a ∷ b ∷ cs))
unchecked_number_at bytes = Some (decimal_at bytes)

abbrev pub if_split : List ℕ → Option ScannedToken → Option ScannedToken
if_split bytes None = None
if_split bytes (Some w) = if first_satisfies continues_number (drop w.len bytes) then None else Some w

unfoldable pub number_token_at : List ℕ → Option ScannedToken
number_token_at bytes = if_split bytes (unchecked_number_at bytes)

-- ---- strings

abbrev pub is_escape : ℕ → List ℕ → Bool
is_escape c cs =
    (is_simple_escape c || is_octal_digit c)
    || ((c == 120 && has_digits 1 cs) || ((c == 117 && has_digits 4 cs) || (c == 85 && is_wide cs)))

-- the number of bytes up to and including the closing quote
unfoldable pub quoted_len : ℕ → List ℕ → Option ℕ
quoted_len quote [] = None
quoted_len quote (c ∷ []) = if c == quote then Some 1 else None
quoted_len quote (c ∷ d ∷ cs) =
    if c == quote then Some 1
    else if c == 92 then if is_escape d cs then option_map (λ n. n + 2) (quoted_len quote cs) else None
    else if c == 10 || c == 0 then None
    else option_map (λ n. n + 1) (quoted_len quote (d ∷ cs))

abbrev pub string_token_of : Option ℕ → Option ScannedToken
string_token_of None = None
string_token_of (Some n) = Some (record { kind = Text; len = n + 1 })

-- ---- the token at the start

abbrev pub punctuator_at : ℕ → List ℕ → Option ScannedToken
punctuator_at c cs = if is_punctuator_byte c && not (starts_number_or_comment c cs) then Some (record { kind = Mark c; len = 1 }) else None

abbrev pub name_token_of : ℕ → ScannedToken
name_token_of n = record { kind = Identifier; len = n }

abbrev pub is_number_start : ℕ → List ℕ → Bool
is_number_start c cs = is_decimal_digit c || (c == 46 && first_satisfies is_decimal_digit cs)

unfoldable pub leading_token : List ℕ → Option ScannedToken
leading_token [] = None
leading_token (c ∷ cs) =
    if is_name_start c then Some (name_token_of (prefix_len is_name_byte (c ∷ cs)))
    else if is_number_start c cs then number_token_at (c ∷ cs)
    else if is_quote c then string_token_of (quoted_len c cs)
    else punctuator_at c cs
