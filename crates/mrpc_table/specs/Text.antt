-- The canonical text of a table (this project's own), with a line for each part. Enums come by ascending full name,
-- each with its values, then messages by ascending full name, each with its fields, and then the methods.
use Rattle.std.specs.Prelude.{ℕ, ℤ, List, [], ◌∷◌, ◌++◌, codes, option_map, slice_get, unwrap_or}
use Rattle.std.specs.List.{flat_map, enumerate_from, join_with_byte}
use Rattle.std.specs.Fmt.{decimal, signed_decimal}
use Rattle.mrpc_table.specs.declared.table.Kind.{Kind}
use Rattle.mrpc_table.specs.declared.table.Kind.TheVariants.{Int32, Int64, Uint32, Uint64, Sint32, Sint64, Bool as TheBool, Fixed32, Fixed64, Sfixed32, Sfixed64, Float, Double, Text, Octets, Message as OfMessage, Choice}
use Rattle.mrpc_table.specs.declared.table.Label.{Label}
use Rattle.mrpc_table.specs.declared.table.Label.TheVariants.{Plain, Optional, Repeated, Packed, Map, Member}
use Rattle.mrpc_table.specs.declared.table.Field.{Field}
use Rattle.mrpc_table.specs.declared.table.Message.{Message}
use Rattle.mrpc_table.specs.declared.table.Choices.{Choices}
use Rattle.mrpc_table.specs.declared.table.Method.{Method}
use Rattle.mrpc_table.specs.declared.table.Table.{Table}

-- the name of a message and of an enum, by its index
abbrev pub message_name : Table → ℕ → List ℕ
message_name T i = unwrap_or (option_map (λ m. m.name) (slice_get T.messages i)) []

abbrev pub enum_name : Table → ℕ → List ℕ
enum_name T i = unwrap_or (option_map (λ e. e.name) (slice_get T.enums i)) []

abbrev pub kind_text : Table → Kind → List ℕ
kind_text T Int32 = codes "int32"
kind_text T Int64 = codes "int64"
kind_text T Uint32 = codes "uint32"
kind_text T Uint64 = codes "uint64"
kind_text T Sint32 = codes "sint32"
kind_text T Sint64 = codes "sint64"
kind_text T TheBool = codes "bool"
kind_text T Fixed32 = codes "fixed32"
kind_text T Fixed64 = codes "fixed64"
kind_text T Sfixed32 = codes "sfixed32"
kind_text T Sfixed64 = codes "sfixed64"
kind_text T Float = codes "float"
kind_text T Double = codes "double"
kind_text T Text = codes "string"
kind_text T Octets = codes "bytes"
kind_text T (OfMessage i) = codes "message:" ++ message_name T i
kind_text T (Choice i) = codes "enum:" ++ enum_name T i

abbrev pub label_text : Table → List (List ℕ) → Label → List ℕ
label_text T oneofs Plain = codes "plain"
label_text T oneofs Optional = codes "optional"
label_text T oneofs Repeated = codes "repeated"
label_text T oneofs Packed = codes "packed"
label_text T oneofs (Map key) = codes "map:" ++ kind_text T key
label_text T oneofs (Member o) = codes "oneof:" ++ unwrap_or (slice_get oneofs o) []

-- a line: its words, separated by spaces, and a line feed
abbrev pub spaced : List (List ℕ) → List ℕ
spaced words = join_with_byte 32 words

abbrev pub line : List (List ℕ) → List ℕ
line words = spaced words ++ 10 ∷ []

abbrev pub value_line : ℤ × List ℕ → List ℕ
value_line v = line (codes "value" ∷ signed_decimal v.0 ∷ v.1 ∷ [])

abbrev pub enum_lines : Choices → List ℕ
enum_lines e = line (codes "enum" ∷ e.name ∷ []) ++ flat_map value_line e.values

abbrev pub field_line : Table → List (List ℕ) → Field → List ℕ
field_line T oneofs f =
    line (codes "field" ∷ decimal f.number ∷ label_text T oneofs f.label ∷ kind_text T f.kind ∷ f.name ∷ [])

abbrev pub message_lines : Table → Message → List ℕ
message_lines T m = line (codes "message" ∷ m.name ∷ []) ++ flat_map (field_line T m.oneofs) m.fields

abbrev pub method_line : Table → ℕ × Method → List ℕ
method_line T m =
    line (codes "method" ∷ decimal m.0 ∷ m.1.service ∷ m.1.name
    ∷ message_name T m.1.input ∷ message_name T m.1.output ∷ [])

abbrev pub table_text : Table → List ℕ
table_text T = flat_map enum_lines T.enums ++ flat_map (message_lines T) T.messages
    ++ flat_map (method_line T) (enumerate_from 0 T.methods)
