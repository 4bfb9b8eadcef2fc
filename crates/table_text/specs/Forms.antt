-- The meaning of a line of a table's text (this project's own format), with numbers of any size.
use Rattle.std.specs.Prelude.{◌≡◌, ℕ, ◌+◌, ℤ, pos, negsuc, Bool, true, false, List, [], ◌∷◌, ◌++◌, codes, IsTrue, Option, Some, None}
use Rattle.std.specs.List.{AllZip}
use Rattle.mrpc_table.specs.Lines.{words_of, number_of}
use Rattle.mrpc_table.specs.Names.{is_name_form, is_full_form}
use Rattle.table_text.specs.Lines.{kind_of, label_of}
use Rattle.table_text.specs.declared.line.KindWord.{KindWord}
use Rattle.table_text.specs.declared.line.KindWord.TheVariants.{Scalar, Message, Choice}
use Rattle.table_text.specs.declared.line.LabelWord.{LabelWord}
use Rattle.table_text.specs.declared.line.LabelWord.TheVariants.{Map, Member}

pub data TableLineForm : Type 0 where
  -- `enum FULLNAME`
  enum : (name : List ℕ) → TableLineForm
  -- `value NUMBER NAME`
  value : (number : ℤ) (name : List ℕ) → TableLineForm
  -- `message FULLNAME`
  message : (name : List ℕ) → TableLineForm
  -- `field NUMBER LABEL KIND NAME`
  field : (number : ℕ) (label : LabelWord) (kind : KindWord) (name : List ℕ) → TableLineForm
  -- `method INDEX SERVICE NAME INPUT OUTPUT`
  method : (index : ℕ) (service name input output : List ℕ) → TableLineForm

-- ---- the meaning of a line, by its words

-- a decimal number, or one other than 0 after a `-`
abbrev pub IsInteger : List ℕ → ℤ → Type 0
IsInteger word (pos n) = number_of word ≡ Some n
IsInteger word (negsuc n) = (digits : List ℕ) × (word ≡ 45 ∷ digits) × (number_of digits ≡ Some (n + 1))

abbrev pub AreWordsOf : TableLineForm → List (List ℕ) → Type 0
AreWordsOf (enum name) words = (words ≡ codes "enum" ∷ name ∷ []) × IsTrue (is_full_form name)
AreWordsOf (value number name) words =
    (digits : List ℕ) × (words ≡ codes "value" ∷ digits ∷ name ∷ []) × IsInteger digits number
    × IsTrue (is_name_form name)
AreWordsOf (message name) words = (words ≡ codes "message" ∷ name ∷ []) × IsTrue (is_full_form name)
AreWordsOf (field number label kind name) words =
    (n : List ℕ) × (l : List ℕ) × (k : List ℕ) × (words ≡ codes "field" ∷ n ∷ l ∷ k ∷ name ∷ [])
    × (number_of n ≡ Some number) × (label_of l ≡ Some label) × (kind_of k ≡ Some kind) × IsTrue (is_name_form name)
AreWordsOf (method index service name input output) words =
    (n : List ℕ) × (words ≡ codes "method" ∷ n ∷ service ∷ name ∷ input ∷ output ∷ []) × (number_of n ≡ Some index)
    × IsTrue (is_full_form service) × IsTrue (is_name_form name) × IsTrue (is_full_form input)
    × IsTrue (is_full_form output)

abbrev pub HasLineForm : List ℕ → TableLineForm → Type 0
HasLineForm line f = AreWordsOf f (words_of line)

-- each line has the form at the same index
abbrev pub HaveLineForms : List (List ℕ) → List TableLineForm → Type 0
HaveLineForms lines forms = AllZip HasLineForm lines forms

-- ---- which forms can follow each other

abbrev pub is_enum_line : TableLineForm → Bool
is_enum_line (enum name) = true
is_enum_line _ = false

abbrev pub is_message_line : TableLineForm → Bool
is_message_line (message name) = true
is_message_line _ = false

abbrev pub is_method_line : TableLineForm → Bool
is_method_line (method index service name input output) = true
is_method_line _ = false

-- the forms that may directly precede a value, or a field
abbrev pub is_enum_or_value : TableLineForm → Bool
is_enum_or_value (enum name) = true
is_enum_or_value (value number name) = true
is_enum_or_value _ = false

abbrev pub is_message_or_field : TableLineForm → Bool
is_message_or_field (message name) = true
is_message_or_field (field number label kind name) = true
is_message_or_field _ = false

-- a value or a field continues the enum or the message above it; other lines end that
abbrev pub continues : TableLineForm → Bool
continues (value number name) = true
continues (field number label kind name) = true
continues _ = false

-- ---- the names in a form

-- the type that a line declares
abbrev pub type_named : TableLineForm → Option (List ℕ)
type_named (enum name) = Some name
type_named (message name) = Some name
type_named _ = None

-- the lines of the types that a line uses
abbrev pub type_of_kind : KindWord → List TableLineForm
type_of_kind (Scalar k) = []
type_of_kind (Message name) = message name ∷ []
type_of_kind (Choice name) = enum name ∷ []

abbrev pub types_of_label : LabelWord → List TableLineForm
types_of_label (Map key) = type_of_kind key
types_of_label _ = []

abbrev pub types_used : TableLineForm → List TableLineForm
types_used (field number label kind name) = types_of_label label ++ type_of_kind kind
types_used (method index service name input output) = message input ∷ message output ∷ []
types_used _ = []

-- the names without dots, and the full names
abbrev pub names_of_label : LabelWord → List (List ℕ)
names_of_label (Member oneof) = oneof ∷ []
names_of_label _ = []

abbrev pub names_in : TableLineForm → List (List ℕ)
names_in (value number name) = name ∷ []
names_in (field number label kind name) = name ∷ names_of_label label
names_in (method index service name input output) = name ∷ []
names_in _ = []

abbrev pub full_name_of_kind : KindWord → List (List ℕ)
full_name_of_kind (Scalar k) = []
full_name_of_kind (Message name) = name ∷ []
full_name_of_kind (Choice name) = name ∷ []

abbrev pub full_names_of_label : LabelWord → List (List ℕ)
full_names_of_label (Map key) = full_name_of_kind key
full_names_of_label _ = []

abbrev pub full_names_in : TableLineForm → List (List ℕ)
full_names_in (enum name) = name ∷ []
full_names_in (message name) = name ∷ []
full_names_in (field number label kind name) = full_names_of_label label ++ full_name_of_kind kind
full_names_in (method index service name input output) = service ∷ input ∷ output ∷ []
full_names_in _ = []
