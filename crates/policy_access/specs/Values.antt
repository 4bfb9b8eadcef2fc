-- The meaning of VALUE for a field of a kind, or the reason why it has none (this project's own format).
use Rattle.std.specs.Prelude.{ℕ, ◌-◌, ◌%◌, ◌^◌, ◌==◌, nat_lt, nat_le, Bool, true, false, not, ◌&&◌, ◌||◌, if◌then◌else◌, List, [], ◌∷◌, length, Option, Some, None, Result, Ok, Err}
use Rattle.std.specs.List.{slice_split, list_all}
use Rattle.std.specs.Result.{result_ok}
use Rattle.hex.specs.Hex.{decode_of}
use Rattle.mrpc_table.specs.Lines.{number_of, in_64_bits}
use Rattle.mrpc_table.specs.declared.words.Decimal.{Decimal}
use Rattle.mrpc_table.specs.declared.words.Decimal.TheVariants.{Small, Large}
use Rattle.mrpc_table.specs.declared.table.Kind.{Kind}
use Rattle.mrpc_table.specs.declared.table.Kind.TheVariants.{Int32, Int64, Uint32, Uint64, Sint32, Sint64, Bool as TheBool, Fixed32, Sfixed32, Sfixed64, Text, Octets, Message, Choice}
use Rattle.policy_access.specs.declared.limits.TheConstants.{MAX_TEXT_VALUE}
use Rattle.policy_access.specs.declared.rule.Operand.{Operand}
use Rattle.policy_access.specs.declared.rule.Operand.TheVariants.{Number, Run}
use Rattle.policy_access.specs.declared.fault.SelectorReason.{SelectorReason}
use Rattle.policy_access.specs.declared.fault.SelectorReason.TheVariants as reason

-- ---- numbers

-- the absolute value of the smallest number of a kind
abbrev pub negative_limit_of : Kind → ℕ
negative_limit_of Int32 = 2 ^ 31
negative_limit_of Sint32 = 2 ^ 31
negative_limit_of Sfixed32 = 2 ^ 31
negative_limit_of (Choice i) = 2 ^ 31
negative_limit_of Int64 = 2 ^ 63
negative_limit_of Sint64 = 2 ^ 63
negative_limit_of Sfixed64 = 2 ^ 63
negative_limit_of _ = 0

-- the smallest number above the range of a kind
abbrev pub limit_of : Kind → ℕ
limit_of Int32 = 2 ^ 31
limit_of Sint32 = 2 ^ 31
limit_of Sfixed32 = 2 ^ 31
limit_of (Choice i) = 2 ^ 31
limit_of Int64 = 2 ^ 63
limit_of Sint64 = 2 ^ 63
limit_of Sfixed64 = 2 ^ 63
limit_of Uint32 = 2 ^ 32
limit_of Fixed32 = 2 ^ 32
limit_of TheBool = 2
limit_of _ = 2 ^ 64

-- the word form of an unsigned number, and of one after a `-`; `-0` is 0
abbrev pub positive_word : Kind → Decimal → Result Operand SelectorReason
positive_word k (Small n) = if nat_lt n (limit_of k) then Ok (Number n) else Err reason.Number
positive_word k Large = Err reason.Number

abbrev pub negative_word : Kind → Decimal → Result Operand SelectorReason
negative_word k (Small n) = if nat_le n (negative_limit_of k) then Ok (Number ((2 ^ 64 - n) % 2 ^ 64)) else Err reason.Number
negative_word k Large = Err reason.Number

-- the value of digits; `Word` if they are malformed
abbrev pub spelled : (Decimal → Result Operand SelectorReason) → Option ℕ → Result Operand SelectorReason
spelled form None = Err reason.Word
spelled form (Some n) = form (in_64_bits n)

abbrev pub number_value : Kind → List ℕ → Result Operand SelectorReason
number_value k [] = Err reason.Word
number_value k (c ∷ cs) =
    if c == 45 then spelled (negative_word k) (number_of cs)
    else spelled (positive_word k) (number_of (c ∷ cs))

-- ---- runs

-- a byte that a text may contain: any but control bytes (a quote would end the text)
abbrev pub is_text_byte : ℕ → Bool
is_text_byte c = nat_le 32 c && not (c == 127)

abbrev pub is_text : List ℕ → Bool
is_text text = list_all is_text_byte text && nat_le (length text) MAX_TEXT_VALUE

-- split at its quotes, a quoted text is nothing, the text, and nothing
abbrev pub quoted_part : List (List ℕ) → Option (List ℕ)
quoted_part ([] ∷ text ∷ [] ∷ []) = Some text
quoted_part _ = None

abbrev pub quoted_text : List ℕ → Option (List ℕ)
quoted_text word = quoted_part (slice_split (λ c. c == 34) word)

abbrev pub text_or_word : Option (List ℕ) → Result Operand SelectorReason
text_or_word None = Err reason.Word
text_or_word (Some text) = if is_text text then Ok (Run text) else Err reason.Word

abbrev pub text_value : List ℕ → Result Operand SelectorReason
text_value word = text_or_word (quoted_text word)

-- a digit, or a letter from `a` to `f`
abbrev pub is_lower_digit : ℕ → Bool
is_lower_digit c = (nat_le 48 c && nat_le c 57) || (nat_le 97 c && nat_le c 102)

abbrev pub run_or_word : Option (List ℕ) → Result Operand SelectorReason
run_or_word None = Err reason.Word
run_or_word (Some bytes) = Ok (Run bytes)

-- an `x`, and then two digits for each byte
abbrev pub bytes_value : List ℕ → Result Operand SelectorReason
bytes_value [] = Err reason.Word
bytes_value (c ∷ cs) =
    if (c == 120) && list_all is_lower_digit cs then run_or_word (result_ok (decode_of cs))
    else Err reason.Word

-- the meaning of a value for a field of the kind: `Word` if it is malformed, `Number` if it is out of range
abbrev pub operand_of : Kind → List ℕ → Result Operand SelectorReason
operand_of Text word = text_value word
operand_of Octets word = bytes_value word
operand_of (Message i) word = Err reason.Word
operand_of k word = number_value k word

-- the value is malformed for a field of the kind
abbrev pub is_word_fault : Result Operand SelectorReason → Bool
is_word_fault (Err reason.Word) = true
is_word_fault _ = false

abbrev pub is_out_of_form : Kind → List ℕ → Bool
is_out_of_form k word = is_word_fault (operand_of k word)

-- the value has none of the three forms: number, text or bytes
abbrev pub has_no_form : List ℕ → Bool
has_no_form word = (is_out_of_form Uint64 word && is_out_of_form Text word) && is_out_of_form Octets word
