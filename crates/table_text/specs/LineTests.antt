-- The code's own: the tests of a line while the text of a table is read, given the names of the lines before it. The
-- first fault that they find is the first fault of the text.
use Rattle.std.specs.Prelude.{◌≡◌, ℕ, ℤ, pos, ◌+◌, ◌-◌, ◌<◌, ◌==◌, nat_lt, nat_le, Bool, true, false, not, ◌&&◌, ◌||◌, if◌then◌else◌, List, [], ◌∷◌, ◌++◌, codes, length, take, map, Option, Some, None, slice_get}
use Rattle.std.specs.List.{list_any, filter_map, fold}
use Rattle.std.specs.Option.{option_map_or}
use Rattle.std.specs.Ordering.{nat_cmp, is_lt, int_eq}
use Rattle.std.specs.Int.RustNames.{int_lt}
use Rattle.std.specs.Str.{bytes_eq}
use Rattle.std.specs.Cmp.Lexicographic.{slice_cmp}
use Rattle.mrpc_table.specs.Names.{is_short, is_short_full}
use Rattle.mrpc_table.specs.Valid.{is_field_number}
use Rattle.mrpc_table.specs.declared.limits.TheConstants.{MAX_ENUMS, MAX_MESSAGES, MAX_METHODS, MAX_FIELDS, MAX_VALUES, MAX_TEXT}
use Rattle.mrpc_table.specs.Lines.{whole_lines, remainder_of}
use Rattle.table_text.specs.Faults.{bytes_of_lines, is_packable_word, is_key_kind}
use Rattle.table_text.specs.Lines.{without_prefix, line_of}
use Rattle.table_text.specs.declared.fault.TableReason.{TableReason}
use Rattle.table_text.specs.declared.fault.TableReason.TheVariants.{Syntax, Number, Duplicate, UnknownType, MapKey, Limit}
use Rattle.table_text.specs.declared.fault.TableFault.{TableFault}
use Rattle.table_text.specs.declared.fault.TableFault.TheVariants as fault
use Rattle.table_text.specs.declared.line.KindWord.{KindWord}
use Rattle.table_text.specs.declared.line.KindWord.TheVariants as kinds
use Rattle.table_text.specs.declared.line.LabelWord.{LabelWord}
use Rattle.table_text.specs.declared.line.LabelWord.TheVariants as labels
use Rattle.table_text.specs.declared.line.EnumNumber.{EnumNumber}
use Rattle.table_text.specs.declared.line.EnumNumber.TheVariants.{Low, Within, High}
use Rattle.table_text.specs.declared.line.MethodLine.{MethodLine}
use Rattle.table_text.specs.declared.line.TableLine.{TableLine}
use Rattle.table_text.specs.declared.line.TableLine.TheVariants.{Enum, Value, Message, Field, Method}

-- the types that the text declares: those of all its `enum` and `message` lines, also of lines at fault
pub record TypeNames : Type 0 where
  pub enums : List (List ℕ)
  pub messages : List (List ℕ)

abbrev pub types_of : List (List ℕ) → TypeNames
types_of lines = record {
  enums = filter_map (without_prefix (codes "enum ")) lines;
  messages = filter_map (without_prefix (codes "message ")) lines;
}

-- the part that a line may extend: the values of the enum, or the numbers and names of the fields of the message, whose
-- lines directly precede it
pub data OpenNames : Type 0 where
  nothing : OpenNames
  values : List (ℤ × List ℕ) → OpenNames
  fields : List (ℕ × List ℕ) → OpenNames

-- the names in the lines before a line, in order; a method is named by its service and name, with a space between them
pub record NamesBefore : Type 0 where
  pub enums : List (List ℕ)
  pub messages : List (List ℕ)
  pub methods : List (List ℕ)
  pub open_part : OpenNames

abbrev pub names_with_value : OpenNames → EnumNumber → List ℕ → OpenNames
names_with_value (values vs) (Within z) name = values (vs ++ (z, name) ∷ [])
names_with_value part z name = part

abbrev pub names_with_field : OpenNames → Option ℕ → List ℕ → OpenNames
names_with_field (fields fs) (Some n) name = fields (fs ++ (n, name) ∷ [])
names_with_field part n name = part

abbrev pub method_key : MethodLine → List ℕ
method_key m = m.service ++ 32 ∷ m.name

abbrev pub names_after : NamesBefore → TableLine → NamesBefore
names_after b (Enum name) = record b { enums = b.enums ++ name ∷ []; open_part = values [] }
names_after b (Value z name) = record b { open_part = names_with_value b.open_part z name }
names_after b (Message name) = record b { messages = b.messages ++ name ∷ []; open_part = fields [] }
names_after b (Field f) = record b { open_part = names_with_field b.open_part f.number f.name }
names_after b (Method m) = record b { methods = b.methods ++ method_key m ∷ []; open_part = nothing }

abbrev pub names_after_line : NamesBefore → Option TableLine → NamesBefore
names_after_line b None = b
names_after_line b (Some l) = names_after b l

abbrev pub no_names_yet : NamesBefore
no_names_yet = record { enums = []; messages = []; methods = []; open_part = nothing }

abbrev pub names_in_lines : List (List ℕ) → NamesBefore
names_in_lines lines = fold (λ b line. names_after_line b (line_of line)) no_names_yet lines

-- names in order, and among others
abbrev pub is_below : List ℕ → List ℕ → Bool
is_below a b = is_lt (slice_cmp nat_cmp a b)

abbrev pub is_among : List ℕ → List (List ℕ) → Bool
is_among name names = list_any (λ other. bytes_eq name other) names

abbrev pub last_of : {X : Type 0} → List X → Option X
last_of xs = slice_get xs (length xs - 1)

abbrev pub is_empty : {X : Type 0} → List X → Bool
is_empty xs = length xs == 0

-- the name is below the last of these
abbrev pub is_below_last : List ℕ → List (List ℕ) → Bool
is_below_last name names = option_map_or (λ last. is_below name last) (last_of names) false

-- a value is below the last one: by number, then by name
abbrev pub is_value_below : EnumNumber → List ℕ → ℤ × List ℕ → Bool
is_value_below Low name last = true
is_value_below (Within z) name last = int_lt z last.0 || (int_eq z last.0 && is_below name last.1)
is_value_below High name last = false

-- the enum whose lines directly precede lacks a value, or a value 0
abbrev pub lacks_value : OpenNames → Bool
lacks_value (values vs) = is_empty vs
lacks_value _ = false

abbrev pub lacks_zero : OpenNames → Bool
lacks_zero (values vs) = not (list_any (λ v. int_eq v.0 (pos 0)) vs)
lacks_zero _ = false

-- a label that no field of the kind can have
abbrev pub is_message_word : KindWord → Bool
is_message_word (kinds.Message name) = true
is_message_word _ = false

abbrev pub clashes : LabelWord → KindWord → Bool
clashes labels.Optional k = is_message_word k
clashes labels.Packed k = not (is_packable_word k)
clashes _ k = false

abbrev pub is_value_out_of_order : OpenNames → EnumNumber → List ℕ → Bool
is_value_out_of_order (values vs) z name = option_map_or (is_value_below z name) (last_of vs) false
is_value_out_of_order _ z name = true

abbrev pub is_field_below : Option ℕ → ℕ × List ℕ → Bool
is_field_below (Some n) last = nat_lt n last.0
is_field_below None last = false

abbrev pub is_field_out_of_order : OpenNames → Option ℕ → Bool
is_field_out_of_order (fields fs) n = option_map_or (is_field_below n) (last_of fs) false
is_field_out_of_order _ n = true

-- Syntax: a line out of order, a label that doesn't go with its kind, an enum without a value
abbrev pub has_syntax_fault : NamesBefore → TableLine → Bool
has_syntax_fault b (Enum name) =
    ((lacks_value b.open_part || not (is_empty b.messages)) || not (is_empty b.methods)) || is_below_last name b.enums
has_syntax_fault b (Value z name) = is_value_out_of_order b.open_part z name
has_syntax_fault b (Message name) = (lacks_value b.open_part || not (is_empty b.methods)) || is_below_last name b.messages
has_syntax_fault b (Field f) = clashes f.label f.kind || is_field_out_of_order b.open_part f.number
has_syntax_fault b (Method m) = lacks_value b.open_part

-- Number: one out of its range, an enum without a value 0, an index that isn't the next one
abbrev pub is_enum_number : EnumNumber → Bool
is_enum_number (Within z) = true
is_enum_number _ = false

abbrev pub has_field_number : Option ℕ → Bool
has_field_number (Some n) = is_field_number n
has_field_number None = false

abbrev pub is_index : Option ℕ → ℕ → Bool
is_index (Some i) n = i == n
is_index None n = false

abbrev pub has_number_fault : NamesBefore → TableLine → Bool
has_number_fault b (Enum name) = lacks_zero b.open_part
has_number_fault b (Value z name) = not (is_enum_number z)
has_number_fault b (Message name) = lacks_zero b.open_part
has_number_fault b (Field f) = not (has_field_number f.number)
has_number_fault b (Method m) = lacks_zero b.open_part || not (is_index m.index (length b.methods))

-- Duplicate: an earlier line has the name of a type, of a value in its enum, of a field in its message or of a method
-- in its service. Or the previous field has the number.
abbrev pub is_type_before : NamesBefore → List ℕ → Bool
is_type_before b name = is_among name b.enums || is_among name b.messages

abbrev pub is_value_before : OpenNames → List ℕ → Bool
is_value_before (values vs) name = is_among name (map (λ v. v.1) vs)
is_value_before _ name = false

abbrev pub is_field_before : OpenNames → List ℕ → Bool
is_field_before (fields fs) name = is_among name (map (λ f. f.1) fs)
is_field_before _ name = false

abbrev pub repeats_number : OpenNames → Option ℕ → Bool
repeats_number (fields fs) n = option_map_or (λ last. is_index n last.0) (last_of fs) false
repeats_number _ n = false

abbrev pub has_duplicate : NamesBefore → TableLine → Bool
has_duplicate b (Enum name) = is_type_before b name
has_duplicate b (Value z name) = is_value_before b.open_part name
has_duplicate b (Message name) = is_type_before b name
has_duplicate b (Field f) = is_field_before b.open_part f.name || repeats_number b.open_part f.number
has_duplicate b (Method m) = is_among (method_key m) b.methods

-- UnknownType: a type that no line declares
abbrev pub is_unknown_kind : TypeNames → KindWord → Bool
is_unknown_kind t (kinds.Scalar k) = false
is_unknown_kind t (kinds.Message name) = not (is_among name t.messages)
is_unknown_kind t (kinds.Choice name) = not (is_among name t.enums)

abbrev pub is_unknown_label : TypeNames → LabelWord → Bool
is_unknown_label t (labels.Map key) = is_unknown_kind t key
is_unknown_label t _ = false

abbrev pub has_unknown_type : TypeNames → TableLine → Bool
has_unknown_type t (Field f) = is_unknown_label t f.label || is_unknown_kind t f.kind
has_unknown_type t (Method m) = not (is_among m.input t.messages) || not (is_among m.output t.messages)
has_unknown_type t _ = false

-- MapKey: a key that is neither integral, nor a bool, nor a string
abbrev pub is_map_key_label : LabelWord → Bool
is_map_key_label (labels.Map key) = not (is_key_kind key)
is_map_key_label _ = false

abbrev pub has_map_key_fault : TableLine → Bool
has_map_key_fault (Field f) = is_map_key_label f.label
has_map_key_fault _ = false

-- Limit: a name or a full name that is too long, one part too many, or too many bytes up to the end of the line
abbrev pub is_short_kind : KindWord → Bool
is_short_kind (kinds.Scalar k) = true
is_short_kind (kinds.Message name) = is_short_full name
is_short_kind (kinds.Choice name) = is_short_full name

abbrev pub is_short_label : LabelWord → Bool
is_short_label (labels.Map key) = is_short_kind key
is_short_label (labels.Member name) = is_short name
is_short_label _ = true

abbrev pub has_short_names : TableLine → Bool
has_short_names (Enum name) = is_short_full name
has_short_names (Value z name) = is_short name
has_short_names (Message name) = is_short_full name
has_short_names (Field f) = (is_short_label f.label && is_short_kind f.kind) && is_short f.name
has_short_names (Method m) =
    ((is_short_full m.service && is_short m.name) && is_short_full m.input) && is_short_full m.output

abbrev pub open_count : OpenNames → ℕ
open_count nothing = 0
open_count (values vs) = length vs
open_count (fields fs) = length fs

abbrev pub has_one_too_many : NamesBefore → TableLine → Bool
has_one_too_many b (Enum name) = nat_le MAX_ENUMS (length b.enums)
has_one_too_many b (Value z name) = nat_le MAX_VALUES (open_count b.open_part)
has_one_too_many b (Message name) = nat_le MAX_MESSAGES (length b.messages)
has_one_too_many b (Field f) = nat_le MAX_FIELDS (open_count b.open_part)
has_one_too_many b (Method m) = nat_le MAX_METHODS (length b.methods)

abbrev pub exceeds_limit : NamesBefore → ℕ → TableLine → Bool
exceeds_limit b bytes l = (not (has_short_names l) || has_one_too_many b l) || nat_lt MAX_TEXT bytes

-- the first reason for which a line is at fault, given the types of the text, the names before it, and the number of
-- bytes up to its end
abbrev pub line_fault : TypeNames → NamesBefore → ℕ → Option TableLine → Option TableReason
line_fault t b bytes None = Some Syntax
line_fault t b bytes (Some l) =
    if has_syntax_fault b l then Some Syntax
    else if has_number_fault b l then Some Number
    else if has_duplicate b l then Some Duplicate
    else if has_unknown_type t l then Some UnknownType
    else if has_map_key_fault l then Some MapKey
    else if exceeds_limit b bytes l then Some Limit
    else None

-- like `line_fault`, for the end of the text: a remainder without a line feed, an enum that lacks a value or a value 0
abbrev pub end_fault : NamesBefore → List ℕ → Option TableReason
end_fault b rest =
    if not (is_empty rest) || lacks_value b.open_part then Some Syntax
    else if lacks_zero b.open_part then Some Number
    else None

-- the first reason for which the line after i whole lines, or the end of the text, is at fault
abbrev pub fault_after_lines : List (List ℕ) → List ℕ → ℕ → Option TableReason
fault_after_lines lines rest i =
    option_map_or
    (λ line. line_fault (types_of lines) (names_in_lines (take i lines)) (bytes_of_lines (take (i + 1) lines)) (line_of line))
    (slice_get lines i)
    (if i == length lines then end_fault (names_in_lines lines) rest else None)

abbrev pub fault_at_line : List ℕ → ℕ → Option TableReason
fault_at_line text i = fault_after_lines (whole_lines text) (remainder_of text) i

-- the line is the first at fault by the tests, counted from 1, and this is the first reason found
pub record IsFirstFaultFound (text : List ℕ) (line : ℕ) (reason : TableReason) : Type 0 where
  pub counted : 0 < line
  pub here : fault_at_line text (line - 1) ≡ Some reason
  pub none_before : (i : ℕ) → i + 1 < line → fault_at_line text i ≡ None

-- what a fault means of a text by the tests; `Memory` can come with any text
abbrev pub IsFaultFound : List ℕ → TableFault → Type 0
IsFaultFound text (fault.At line reason) = IsFirstFaultFound text line reason
IsFaultFound text fault.Memory = Unit {0}
