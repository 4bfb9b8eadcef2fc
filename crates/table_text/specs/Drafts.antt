-- The code's own: a table while its text is read: what a line adds to it, and the names of the lines so far.
use Rattle.std.specs.Prelude.{◌≡◌, ℕ, List, [], ◌∷◌, ◌++◌, map, Option, Some, None, if◌then◌else◌}
use Rattle.std.specs.List.{fold}
use Rattle.table_text.specs.Lines.{line_of}
use Rattle.mrpc_table.specs.declared.table.Table.{Table}
use Rattle.table_text.specs.declared.fault.TableReason.{TableReason}
use Rattle.table_text.specs.declared.fault.TableFault.{TableFault}
use Rattle.table_text.specs.declared.fault.TableFault.TheVariants as fault
use Rattle.table_text.specs.LineTests.{types_of, TypeNames, NamesBefore, nothing, values, fields, is_among}
use Rattle.table_text.specs.LineTests as faults
use Rattle.table_text.specs.NameIndex.{index_or_next}
use Rattle.mrpc_table.specs.declared.table.Kind.{Kind}
use Rattle.mrpc_table.specs.declared.table.Kind.TheVariants.{Message as OfMessage, Choice}
use Rattle.mrpc_table.specs.declared.table.Label.{Label}
use Rattle.mrpc_table.specs.declared.table.Label.TheVariants.{Plain, Optional, Repeated, Packed, Map, Member}
use Rattle.mrpc_table.specs.declared.table.Field.{Field as TheField}
use Rattle.mrpc_table.specs.declared.table.Message.{Message as TheMessage}
use Rattle.mrpc_table.specs.declared.table.Choices.{Choices}
use Rattle.mrpc_table.specs.declared.table.Method.{Method as TheMethod}
use Rattle.table_text.specs.declared.line.KindWord.{KindWord}
use Rattle.table_text.specs.declared.line.KindWord.TheVariants as kinds
use Rattle.table_text.specs.declared.line.LabelWord.{LabelWord}
use Rattle.table_text.specs.declared.line.LabelWord.TheVariants as labels
use Rattle.table_text.specs.declared.line.EnumNumber.{EnumNumber}
use Rattle.table_text.specs.declared.line.EnumNumber.TheVariants.{Within}
use Rattle.table_text.specs.declared.line.FieldLine.{FieldLine}
use Rattle.table_text.specs.declared.line.MethodLine.{MethodLine}
use Rattle.table_text.specs.declared.line.TableLine.{TableLine}
use Rattle.table_text.specs.declared.line.TableLine.TheVariants.{Enum, Value, Message, Field, Method}
use Rattle.table_text.specs.declared.draft.OpenPart.{OpenPart}
use Rattle.table_text.specs.declared.draft.OpenPart.TheVariants as open_parts
use Rattle.table_text.specs.declared.draft.TableDraft.{TableDraft}

-- ---- the names of the lines so far

abbrev pub open_enum_name : OpenPart → List (List ℕ)
open_enum_name (open_parts.Enum c) = c.name ∷ []
open_enum_name _ = []

abbrev pub open_message_name : OpenPart → List (List ℕ)
open_message_name (open_parts.Message m) = m.name ∷ []
open_message_name _ = []

abbrev pub open_part : OpenPart → faults.OpenNames
open_part open_parts.Nothing = nothing
open_part (open_parts.Enum c) = values c.values
open_part (open_parts.Message m) = fields (map (λ f. (f.number, f.name)) m.fields)

abbrev pub enum_names : TableDraft → List (List ℕ)
enum_names d = map (λ e. e.name) d.enums ++ open_enum_name d.open_part

abbrev pub message_names : TableDraft → List (List ℕ)
message_names d = map (λ m. m.name) d.messages ++ open_message_name d.open_part

abbrev pub method_names : TableDraft → List (List ℕ)
method_names d = map (λ m. m.service ++ 32 ∷ m.name) d.methods

abbrev pub part_names : faults.OpenNames → List (List ℕ)
part_names nothing = []
part_names (values vs) = map (λ v. v.1) vs
part_names (fields fs) = map (λ f. f.1) fs

abbrev pub oneofs_of_open : OpenPart → List (List ℕ)
oneofs_of_open (open_parts.Message m) = m.oneofs
oneofs_of_open _ = []

abbrev pub names_before_line : TableDraft → NamesBefore
names_before_line d = record {
  enums = enum_names d;
  messages = message_names d;
  methods = method_names d;
  open_part = open_part d.open_part;
}

-- ---- what a line adds

abbrev pub resolved : TypeNames → KindWord → Kind
resolved t (kinds.Scalar k) = k
resolved t (kinds.Message name) = OfMessage (index_or_next name t.messages)
resolved t (kinds.Choice name) = Choice (index_or_next name t.enums)

abbrev pub labeled : TypeNames → List (List ℕ) → LabelWord → Label
labeled t oneofs labels.Plain = Plain
labeled t oneofs labels.Optional = Optional
labeled t oneofs labels.Repeated = Repeated
labeled t oneofs labels.Packed = Packed
labeled t oneofs (labels.Map key) = Map (resolved t key)
labeled t oneofs (labels.Member name) = Member (index_or_next name oneofs)

-- the oneof of a label, if it is new, and the oneofs with it
abbrev pub new_oneof : List (List ℕ) → LabelWord → Option (List ℕ)
new_oneof oneofs (labels.Member name) = if is_among name oneofs then None else Some name
new_oneof oneofs _ = None

abbrev pub joined_with : List (List ℕ) → Option (List ℕ) → List (List ℕ)
joined_with oneofs None = oneofs
joined_with oneofs (Some name) = oneofs ++ name ∷ []

-- the open part is moved to the list of its kind
abbrev pub with_enum : OpenPart → List Choices → List Choices
with_enum (open_parts.Enum c) es = es ++ c ∷ []
with_enum _ es = es

abbrev pub with_message : OpenPart → List TheMessage → List TheMessage
with_message (open_parts.Message m) ms = ms ++ m ∷ []
with_message _ ms = ms

abbrev pub with_part_closed : TableDraft → TableDraft
with_part_closed d = record {
  enums = with_enum d.open_part d.enums;
  messages = with_message d.open_part d.messages;
  methods = d.methods;
  open_part = open_parts.Nothing;
}

abbrev pub with_value : OpenPart → EnumNumber → List ℕ → OpenPart
with_value (open_parts.Enum c) (Within z) name =
    open_parts.Enum (record { name = c.name; values = c.values ++ (z, name) ∷ [] })
with_value o z name = o

abbrev pub resolved_field : TypeNames → List (List ℕ) → ℕ → FieldLine → TheField
resolved_field t oneofs n f = record { number = n; name = f.name; kind = resolved t f.kind; label = labeled t oneofs f.label }

-- a message with one field more, and with its oneof, if that is new
abbrev pub joined_parts : TheMessage → TheField → Option (List ℕ) → TheMessage
joined_parts m f oneof = record { name = m.name; fields = m.fields ++ f ∷ []; oneofs = joined_with m.oneofs oneof }

abbrev pub with_parts : OpenPart → TheField → Option (List ℕ) → OpenPart
with_parts (open_parts.Message m) f oneof = open_parts.Message (joined_parts m f oneof)
with_parts o f oneof = o

abbrev pub with_field_line : TypeNames → OpenPart → Option ℕ → FieldLine → OpenPart
with_field_line t (open_parts.Message m) (Some n) f =
    open_parts.Message (record {
      name = m.name;
      fields = m.fields ++ resolved_field t m.oneofs n f ∷ [];
      oneofs = joined_with m.oneofs (new_oneof m.oneofs f.label);
    })
with_field_line t o n f = o

abbrev pub resolved_method : TypeNames → MethodLine → TheMethod
resolved_method t m = record {
  service = m.service;
  name = m.name;
  input = index_or_next m.input t.messages;
  output = index_or_next m.output t.messages;
}

abbrev pub with_part_opened : TableDraft → OpenPart → TableDraft
with_part_opened d part = record {
  enums = with_enum d.open_part d.enums;
  messages = with_message d.open_part d.messages;
  methods = d.methods;
  open_part = part;
}

abbrev pub with_part : TableDraft → OpenPart → TableDraft
with_part d part = record { enums = d.enums; messages = d.messages; methods = d.methods; open_part = part }

abbrev pub added_enum : TableDraft → List ℕ → TableDraft
added_enum d name = with_part_opened d (open_parts.Enum (record { name = name; values = [] }))

abbrev pub added_message : TableDraft → List ℕ → TableDraft
added_message d name = with_part_opened d (open_parts.Message (record { name = name; fields = []; oneofs = [] }))

abbrev pub added_value : TableDraft → EnumNumber → List ℕ → TableDraft
added_value d z name = with_part d (with_value d.open_part z name)

abbrev pub added_field : TypeNames → TableDraft → FieldLine → TableDraft
added_field t d f = with_part d (with_field_line t d.open_part f.number f)

abbrev pub added_method : TypeNames → TableDraft → MethodLine → TableDraft
added_method t d m = record {
  enums = with_enum d.open_part d.enums;
  messages = with_message d.open_part d.messages;
  methods = d.methods ++ resolved_method t m ∷ [];
  open_part = open_parts.Nothing;
}

abbrev pub with_line : TypeNames → TableDraft → TableLine → TableDraft
with_line t d (Enum name) = added_enum d name
with_line t d (Value z name) = added_value d z name
with_line t d (Message name) = added_message d name
with_line t d (Field f) = added_field t d f
with_line t d (Method m) = added_method t d m

abbrev pub empty_draft : TableDraft
empty_draft = record { enums = []; messages = []; methods = []; open_part = open_parts.Nothing }

abbrev pub with_parsed_line : TypeNames → TableDraft → Option TableLine → TableDraft
with_parsed_line t d None = d
with_parsed_line t d (Some l) = with_line t d l

-- the draft of some lines, and the table after the open part is finished
abbrev pub table_draft_of : TypeNames → List (List ℕ) → TableDraft
table_draft_of t lines = fold (λ d line. with_parsed_line t d (line_of line)) empty_draft lines

abbrev pub table_of_draft : TableDraft → Table
table_of_draft d = record {
  messages = with_message d.open_part d.messages;
  enums = with_enum d.open_part d.enums;
  methods = d.methods;
}

abbrev pub table_in : List (List ℕ) → Table
table_in lines = table_of_draft (table_draft_of (types_of lines) lines)

-- the fault is at this line, for this reason
abbrev pub IsFaultAtLine : TableFault → ℕ → Option TableReason → Type 0
IsFaultAtLine (fault.At line reason) n stands = (line ≡ n) × (stands ≡ Some reason)
IsFaultAtLine fault.Memory n stands = Unit {0}
