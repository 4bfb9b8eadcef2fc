-- The faults of a line in a text that is no canonical text of a table, given the lines before it. Then the first line
-- at fault with its first reason (this project's own).
use Rattle.std.specs.Prelude.{◌≡◌, ◌≢◌, ℕ, ℤ, pos, ◌+◌, ◌<◌, ◌≤◌, true, false, List, [], ◌∷◌, ◌++◌, length, take, map, sum, All, Contains, count_by, FitsSigned, Some, slice_get}
use Rattle.std.specs.Prelude.{Bool}
use Rattle.std.specs.Int.{w32}
use Rattle.mrpc_table.specs.FirstFault as first
use Rattle.mrpc_table.specs.Lines.{whole_lines, remainder_of}
use Rattle.mrpc_table.specs.Names.{is_short_full}
use Rattle.mrpc_table.specs.Valid.{IsBelow, IsValueBelow, IsFieldNumber}
use Rattle.mrpc_table.specs.Words.{is_numeric, is_key}
use Rattle.mrpc_table.specs.declared.limits.TheConstants.{MAX_ENUMS, MAX_MESSAGES, MAX_METHODS, MAX_FIELDS, MAX_VALUES, MAX_NAME, MAX_TEXT}
use Rattle.table_text.specs.Forms.{TableLineForm, enum, value, message, field, method, HasLineForm, HaveLineForms, is_enum_line, is_message_line, is_method_line, is_enum_or_value, is_message_or_field, continues, type_named, types_used, names_in, full_names_in}
use Rattle.table_text.specs.declared.fault.TableReason.{TableReason}
use Rattle.table_text.specs.declared.fault.TableReason.TheVariants.{Syntax, Number, Duplicate, UnknownType, MapKey, Limit}
use Rattle.table_text.specs.declared.fault.TableFault.{TableFault}
use Rattle.table_text.specs.declared.fault.TableFault.TheVariants as fault
use Rattle.table_text.specs.declared.line.KindWord.{KindWord}
use Rattle.table_text.specs.declared.line.KindWord.TheVariants.{Scalar, Message, Choice}
use Rattle.table_text.specs.declared.line.LabelWord.{LabelWord}
use Rattle.table_text.specs.declared.line.LabelWord.TheVariants.{Optional, Packed, Map}

-- ---- where a line is among those before

-- the previous line has this form
abbrev pub IsPreviousLine : List TableLineForm → TableLineForm → Type 0
IsPreviousLine before f = (front : List TableLineForm) × (before ≡ front ++ f ∷ [])

-- an earlier line has this form, with only values and fields in between
pub record IsEarlierInPart (before : List TableLineForm) (f : TableLineForm) : Type 0 where
  pub front : List TableLineForm
  pub between : List TableLineForm
  pub before_is : before ≡ front ++ f ∷ between
  pub inner : All (λ g. continues g ≡ true) between

-- at least this many of the lines directly before are values or fields
pub record AreInner (before : List TableLineForm) (count : ℕ) : Type 0 where
  pub front : List TableLineForm
  pub inner : List TableLineForm
  pub before_is : before ≡ front ++ inner
  pub each : All (λ g. continues g ≡ true) inner
  pub many : count ≤ length inner

-- an enum ends here without a value, or without a value 0
abbrev pub HasNoValue : List TableLineForm → Type 0
HasNoValue before = (name : List ℕ) × IsPreviousLine before (enum name)

pub record HasNoZero (before : List TableLineForm) : Type 0 where
  pub last : TableLineForm
  pub is_last : IsPreviousLine before last
  pub of_enum : is_enum_or_value last ≡ true
  pub no_zero : (name : List ℕ) → IsEarlierInPart before (value (pos 0) name) → ⊥

-- ---- which labels go with which kinds

abbrev pub is_packable_word : KindWord → Bool
is_packable_word (Scalar k) = is_numeric k
is_packable_word (Message name) = false
is_packable_word (Choice name) = true

-- integral, `bool` or `string`
abbrev pub is_key_kind : KindWord → Bool
is_key_kind (Scalar k) = is_key k
is_key_kind _ = false

-- ---- reasons

-- the line is at fault for a reason: `lines` are all lines of the text, and `names_before_line` are the forms of those before the
-- line
pub data IsFaultyLine (lines : List (List ℕ)) (before : List TableLineForm) (line : List ℕ) (reason : TableReason) : Type 0 where
  -- the line has none of the forms
  no_form : ((f : TableLineForm) → HasLineForm line f → ⊥) → reason ≡ Syntax → IsFaultyLine lines before line reason
  -- it is out of order: enums come first, then messages, and methods last
  enum_after_message : (name other : List ℕ) → HasLineForm line (enum name) → Contains before (message other)
      → reason ≡ Syntax → IsFaultyLine lines before line reason
  enum_after_method : (name : List ℕ) (m : TableLineForm) → HasLineForm line (enum name) → Contains before m → is_method_line m ≡ true
      → reason ≡ Syntax → IsFaultyLine lines before line reason
  message_after_method : (name : List ℕ) (m : TableLineForm) → HasLineForm line (message name) → Contains before m
      → is_method_line m ≡ true → reason ≡ Syntax → IsFaultyLine lines before line reason
  -- its full name is below that of the enum, or of the message, above it
  enum_out_of_order : (name other : List ℕ) → HasLineForm line (enum name) → IsEarlierInPart before (enum other) → IsBelow name other
      → reason ≡ Syntax → IsFaultyLine lines before line reason
  message_out_of_order : (name other : List ℕ) → HasLineForm line (message name) → IsEarlierInPart before (message other)
      → IsBelow name other → reason ≡ Syntax → IsFaultyLine lines before line reason
  -- a value isn't in an enum, or it is below the previous value, by number and then by name
  value_outside : (number : ℤ) (name : List ℕ) → HasLineForm line (value number name)
      → ((f : TableLineForm) → IsPreviousLine before f → is_enum_or_value f ≡ true → ⊥) → reason ≡ Syntax → IsFaultyLine lines before line reason
  value_out_of_order : (number last : ℤ) (name other : List ℕ) → HasLineForm line (value number name)
      → IsPreviousLine before (value last other) → IsValueBelow (number, name) (last, other) → reason ≡ Syntax
      → IsFaultyLine lines before line reason
  -- a field isn't in a message, or its number is below that of the previous field
  field_outside : (number : ℕ) (label : LabelWord) (kind : KindWord) (name : List ℕ)
      → HasLineForm line (field number label kind name) → ((f : TableLineForm) → IsPreviousLine before f → is_message_or_field f ≡ true → ⊥)
      → reason ≡ Syntax → IsFaultyLine lines before line reason
  field_out_of_order : (number last : ℕ) (label other_label : LabelWord) (kind other_kind : KindWord) (name other : List ℕ)
      → HasLineForm line (field number label kind name) → IsPreviousLine before (field last other_label other_kind other)
      → number < last → reason ≡ Syntax → IsFaultyLine lines before line reason
  -- its label doesn't go with its kind
  optional_message : (number : ℕ) (type name : List ℕ) → HasLineForm line (field number Optional (Message type) name)
      → reason ≡ Syntax → IsFaultyLine lines before line reason
  packed_no_number : (number : ℕ) (kind : KindWord) (name : List ℕ) → HasLineForm line (field number Packed kind name)
      → is_packable_word kind ≡ false → reason ≡ Syntax → IsFaultyLine lines before line reason
  -- the previous enum has no value
  enum_without_value : (f : TableLineForm) → HasLineForm line f → continues f ≡ false → HasNoValue before → reason ≡ Syntax
      → IsFaultyLine lines before line reason
  -- a value isn't a signed 32-bit number
  value_out_of_range : (number : ℤ) (name : List ℕ) → HasLineForm line (value number name) → (FitsSigned w32 number → ⊥)
      → reason ≡ Number → IsFaultyLine lines before line reason
  -- a field's number isn't within 1 to 536870911, or is within 19000 to 19999
  no_field_number : (number : ℕ) (label : LabelWord) (kind : KindWord) (name : List ℕ)
      → HasLineForm line (field number label kind name) → (IsFieldNumber number → ⊥) → reason ≡ Number
      → IsFaultyLine lines before line reason
  -- a method's index isn't the number of methods before it
  index_out_of_turn : (index : ℕ) (service name input output : List ℕ)
      → HasLineForm line (method index service name input output) → index ≢ count_by is_method_line before → reason ≡ Number
      → IsFaultyLine lines before line reason
  -- the previous enum has no value 0
  enum_without_zero : (f : TableLineForm) → HasLineForm line f → continues f ≡ false → HasNoZero before → reason ≡ Number
      → IsFaultyLine lines before line reason
  -- an earlier line declares a type of the same name
  type_twice : (f g : TableLineForm) (name : List ℕ) → HasLineForm line f → type_named f ≡ Some name → Contains before g
      → type_named g ≡ Some name → reason ≡ Duplicate → IsFaultyLine lines before line reason
  -- a value of its enum, or a field of its message, has the same name
  value_twice : (number other : ℤ) (name : List ℕ) → HasLineForm line (value number name)
      → IsEarlierInPart before (value other name) → reason ≡ Duplicate → IsFaultyLine lines before line reason
  field_twice : (number other : ℕ) (label other_label : LabelWord) (kind other_kind : KindWord) (name : List ℕ)
      → HasLineForm line (field number label kind name) → IsEarlierInPart before (field other other_label other_kind name)
      → reason ≡ Duplicate → IsFaultyLine lines before line reason
  -- the previous field has the same number
  number_twice : (number : ℕ) (label other_label : LabelWord) (kind other_kind : KindWord) (name other : List ℕ)
      → HasLineForm line (field number label kind name) → IsPreviousLine before (field number other_label other_kind other)
      → reason ≡ Duplicate → IsFaultyLine lines before line reason
  -- a method of its service has the same name
  method_twice : (index other : ℕ) (service name input output other_input other_output : List ℕ)
      → HasLineForm line (method index service name input output)
      → Contains before (method other service name other_input other_output) → reason ≡ Duplicate
      → IsFaultyLine lines before line reason
  -- the line uses a type that no line of the text declares
  unknown_type : (f type : TableLineForm) → HasLineForm line f → Contains (types_used f) type
      → ((other : List ℕ) → Contains lines other → HasLineForm other type → ⊥) → reason ≡ UnknownType
      → IsFaultyLine lines before line reason
  -- a map's keys are neither integral, nor `bool`, nor `string`
  map_key : (number : ℕ) (key kind : KindWord) (name : List ℕ) → HasLineForm line (field number (Map key) kind name)
      → is_key_kind key ≡ false → reason ≡ MapKey → IsFaultyLine lines before line reason
  -- a name has more than 64 bytes; a full name has such a part, or more than 255 bytes
  long_name : (f : TableLineForm) (name : List ℕ) → HasLineForm line f → Contains (names_in f) name → MAX_NAME < length name
      → reason ≡ Limit → IsFaultyLine lines before line reason
  long_full_name : (f : TableLineForm) (name : List ℕ) → HasLineForm line f → Contains (full_names_in f) name
      → is_short_full name ≡ false → reason ≡ Limit → IsFaultyLine lines before line reason
  -- one enum, message or method too many; one value of an enum, or field of a message, too many
  too_many_enums : (name : List ℕ) → HasLineForm line (enum name) → MAX_ENUMS ≤ count_by is_enum_line before → reason ≡ Limit
      → IsFaultyLine lines before line reason
  too_many_messages : (name : List ℕ) → HasLineForm line (message name) → MAX_MESSAGES ≤ count_by is_message_line before
      → reason ≡ Limit → IsFaultyLine lines before line reason
  too_many_methods : (index : ℕ) (service name input output : List ℕ)
      → HasLineForm line (method index service name input output) → MAX_METHODS ≤ count_by is_method_line before
      → reason ≡ Limit → IsFaultyLine lines before line reason
  too_many_values : (number : ℤ) (name : List ℕ) → HasLineForm line (value number name) → AreInner before MAX_VALUES
      → reason ≡ Limit → IsFaultyLine lines before line reason
  too_many_fields : (number : ℕ) (label : LabelWord) (kind : KindWord) (name : List ℕ)
      → HasLineForm line (field number label kind name) → AreInner before MAX_FIELDS → reason ≡ Limit
      → IsFaultyLine lines before line reason

-- the end of the text is at fault for a reason, after lines of the forms `names_before_line`
pub data IsFaultyEnd (before : List TableLineForm) (rest : List ℕ) (reason : TableReason) : Type 0 where
  -- the last line lacks its line feed
  unended : rest ≢ [] → reason ≡ Syntax → IsFaultyEnd before rest reason
  -- the last enum has no value, or no value 0
  last_without_value : HasNoValue before → reason ≡ Syntax → IsFaultyEnd before rest reason
  last_without_zero : HasNoZero before → reason ≡ Number → IsFaultyEnd before rest reason

-- the bytes of whole lines, each with its line feed
abbrev pub bytes_of_lines : List (List ℕ) → ℕ
bytes_of_lines lines = sum (map (λ line. length line + 1) lines)

-- the line at index i, or the end of the text after i whole lines, is at fault for a reason
pub data HasReasonAt (text : List ℕ) (i : ℕ) (reason : TableReason) : Type 0 where
  at_line : (line : List ℕ) (before : List TableLineForm) → slice_get (whole_lines text) i ≡ Some line
      → HaveLineForms (take i (whole_lines text)) before → IsFaultyLine (whole_lines text) before line reason
      → HasReasonAt text i reason
  -- the text up to the line's end has more than 65536 bytes
  too_long : (line : List ℕ) → slice_get (whole_lines text) i ≡ Some line
      → MAX_TEXT < bytes_of_lines (take (i + 1) (whole_lines text)) → reason ≡ Limit → HasReasonAt text i reason
  at_end : (before : List TableLineForm) → i ≡ length (whole_lines text) → HaveLineForms (whole_lines text) before
      → IsFaultyEnd before (remainder_of text) reason → HasReasonAt text i reason

-- if a line has several reasons, the one with the least number counts
abbrev pub order_of_reason : TableReason → ℕ
order_of_reason Syntax = 1
order_of_reason Number = 2
order_of_reason Duplicate = 3
order_of_reason UnknownType = 4
order_of_reason MapKey = 5
order_of_reason Limit = 6

-- the line is the first at fault, counted from 1, and this is its first reason
abbrev pub IsFirstTableFault : List ℕ → ℕ → TableReason → Type 0
IsFirstTableFault text line reason = first.IsFirstFault (HasReasonAt text) order_of_reason line reason

-- what a fault means of a text; `Memory` can come with any text
abbrev pub IsTableFaultOf : List ℕ → TableFault → Type 0
IsTableFaultOf text (fault.At line reason) = IsFirstTableFault text line reason
IsTableFaultOf text fault.Memory = Unit {0}
