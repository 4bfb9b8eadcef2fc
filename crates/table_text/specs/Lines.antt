-- The lines of a table's text, and how each is parsed (this project's own format).
use Rattle.std.specs.Prelude.{ℕ, pos, negsuc, ◌-◌, ◌^◌, ◌==◌, nat_lt, nat_le, if◌then◌else◌, List, [], ◌∷◌, codes, length, take, drop, Option, Some, None, option_map, option_and_then}
use Rattle.std.specs.List.{find}
use Rattle.std.specs.Option.{option_or}
use Rattle.std.specs.Str.{bytes_eq}
use Rattle.mrpc_table.specs.Lines.{words_of, number_of}
use Rattle.mrpc_table.specs.Names.{is_name_form, is_full_form}
use Rattle.mrpc_table.specs.Scalars.{scalar_of}
use Rattle.table_text.specs.declared.line.KindWord.{KindWord}
use Rattle.table_text.specs.declared.line.KindWord.TheVariants as kinds
use Rattle.table_text.specs.declared.line.LabelWord.{LabelWord}
use Rattle.table_text.specs.declared.line.LabelWord.TheVariants as labels
use Rattle.table_text.specs.declared.line.EnumNumber.{EnumNumber}
use Rattle.table_text.specs.declared.line.EnumNumber.TheVariants.{Low, Within, High}
use Rattle.table_text.specs.declared.line.TableLine.{TableLine}
use Rattle.table_text.specs.declared.line.TableLine.TheVariants.{Enum, Value, Message, Field, Method}

-- a number of at most 32 bits, or a larger one
abbrev pub in_32_bits : ℕ → Option ℕ
in_32_bits n = if nat_lt n (2 ^ 32) then Some n else None

-- the number itself, and its negative; 0 has no negative
abbrev pub not_negative : ℕ → EnumNumber
not_negative n = if nat_lt n (2 ^ 31) then Within (pos n) else High

abbrev pub negative : ℕ → Option EnumNumber
negative n = if n == 0 then None else Some (if nat_le n (2 ^ 31) then Within (negsuc (n - 1)) else Low)

-- digits, or a `-` and digits
abbrev pub enum_number_of : List ℕ → Option EnumNumber
enum_number_of [] = None
enum_number_of (c ∷ cs) =
    if c == 45 then option_and_then negative (number_of cs) else option_map not_negative (number_of (c ∷ cs))

-- the word, if it is a name, or a full name
abbrev pub name_of : List ℕ → Option (List ℕ)
name_of word = if is_name_form word then Some word else None

abbrev pub full_name_of : List ℕ → Option (List ℕ)
full_name_of word = if is_full_form word then Some word else None

-- the suffix after a prefix
abbrev pub without_prefix : List ℕ → List ℕ → Option (List ℕ)
without_prefix prefix word = if bytes_eq (take (length prefix) word) prefix then Some (drop (length prefix) word) else None

abbrev pub kind_of : List ℕ → Option KindWord
kind_of word =
    option_or (option_map kinds.Scalar (scalar_of word))
    (option_or (option_map kinds.Message (option_and_then full_name_of (without_prefix (codes "message:") word)))
    (option_map kinds.Choice (option_and_then full_name_of (without_prefix (codes "enum:") word))))

abbrev pub label_names : List (List ℕ × LabelWord)
label_names =
    (codes "plain", labels.Plain) ∷ (codes "optional", labels.Optional) ∷ (codes "repeated", labels.Repeated)
    ∷ (codes "packed", labels.Packed) ∷ []

abbrev pub label_of : List ℕ → Option LabelWord
label_of word =
    option_or (option_map (λ e. e.1) (find (λ e. bytes_eq word e.0) label_names))
    (option_or (option_map labels.Map (option_and_then kind_of (without_prefix (codes "map:") word)))
    (option_map labels.Member (option_and_then name_of (without_prefix (codes "oneof:") word))))

-- the line of each kind, by the words after the first
abbrev pub enum_line_of : List (List ℕ) → Option TableLine
enum_line_of (name ∷ []) = option_map Enum (full_name_of name)
enum_line_of _ = None

abbrev pub value_line_of : List (List ℕ) → Option TableLine
value_line_of (number ∷ name ∷ []) = option_and_then (λ z. option_map (λ n. Value z n) (name_of name)) (enum_number_of number)
value_line_of _ = None

abbrev pub message_line_of : List (List ℕ) → Option TableLine
message_line_of (name ∷ []) = option_map Message (full_name_of name)
message_line_of _ = None

abbrev pub field_line_of : List (List ℕ) → Option TableLine
field_line_of (number ∷ label ∷ kind ∷ name ∷ []) =
    option_and_then (λ n. option_and_then (λ l. option_and_then (λ k. option_map (λ m.
    Field (record { number = in_32_bits n; label = l; kind = k; name = m }))
    (name_of name)) (kind_of kind)) (label_of label)) (number_of number)
field_line_of _ = None

abbrev pub method_line_of : List (List ℕ) → Option TableLine
method_line_of (index ∷ service ∷ name ∷ input ∷ output ∷ []) =
    option_and_then (λ i. option_and_then (λ s. option_and_then (λ n. option_and_then (λ a. option_map (λ b.
    Method (record { index = in_32_bits i; service = s; name = n; input = a; output = b }))
    (full_name_of output)) (full_name_of input)) (name_of name)) (full_name_of service)) (number_of index)
method_line_of _ = None

-- a line by its words, if it has the right form
abbrev pub line_of_words : List (List ℕ) → Option TableLine
line_of_words [] = None
line_of_words (first ∷ words) =
    if bytes_eq first (codes "enum") then enum_line_of words
    else if bytes_eq first (codes "value") then value_line_of words
    else if bytes_eq first (codes "message") then message_line_of words
    else if bytes_eq first (codes "field") then field_line_of words
    else if bytes_eq first (codes "method") then method_line_of words
    else None

unfoldable pub line_of : List ℕ → Option TableLine
line_of text = line_of_words (words_of text)
