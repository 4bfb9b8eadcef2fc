-- The code's own: lookups in two tables: the method at an index, the field with a number in the message at an index.
use Rattle.std.specs.Prelude.{◌≡◌, ◌≢◌, ℕ, ◌<◌, ◌≤◌, List, length, Option, Some, None, option_and_then, option_map, slice_get, if◌then◌else◌}
use Rattle.std.specs.Str.{bytes_eq}
use Rattle.mrpc_table.specs.Normal.{field_at}
use Rattle.mrpc_table.specs.Text.{message_name, kind_text}
use Rattle.mrpc_table.specs.Valid.{IsKnown}
use Rattle.mrpc_table.specs.declared.table.Kind.{Kind}
use Rattle.mrpc_table.specs.declared.table.Label.{Label}
use Rattle.mrpc_table.specs.declared.table.Label.TheVariants.{Map, Member}
use Rattle.mrpc_table.specs.declared.table.Field.{Field}
use Rattle.mrpc_table.specs.declared.table.Message.{Message}
use Rattle.mrpc_table.specs.declared.table.Method.{Method}
use Rattle.mrpc_table.specs.declared.table.Table.{Table}
use Rattle.schema_binding.specs.Agreement.{Signature, signature, FieldText, field_text, message_kind_text}

-- the method at an index, if it is one of the service
abbrev pub method_at : Table → List ℕ → ℕ → Option Method
method_at T service index =
    option_and_then (λ m. if bytes_eq m.service service then Some m else None) (slice_get T.methods index)

abbrev pub signature_at : Table → List ℕ → ℕ → Option Signature
signature_at T service index = option_map (λ m. signature T (index, m)) (method_at T service index)

-- the print of the field with a number in a message
abbrev pub printed_in : Table → Message → ℕ → Option FieldText
printed_in T m number = option_map (field_text T m) (field_at m.fields number)

-- like `printed_in`, for the message at an index
abbrev pub printed_at : Table → ℕ → ℕ → Option FieldText
printed_at T i number = option_and_then (λ m. printed_in T m number) (slice_get T.messages i)

-- the messages at these indices have the same name
pub record IsPair (T U : Table) (i j : ℕ) : Type 0 where
  pub ours : i < length T.messages
  pub theirs : j < length U.messages
  pub same : message_name T i ≡ message_name U j

-- both know a number, and the texts print its fields differently
pub record IsPrintedDifferently (T U : Table) (i j number : ℕ) : Type 0 where
  pub ours : FieldText
  pub theirs : FieldText
  pub ours_prints : printed_at T i number ≡ Some ours
  pub theirs_prints : printed_at U j number ≡ Some theirs
  pub other : ours ≢ theirs

-- the field of a number that both know has this message type in both
pub record HasFieldOfType (T U : Table) (i j : ℕ) (type : List ℕ) : Type 0 where
  pub number : ℕ
  pub ours : FieldText
  pub theirs : FieldText
  pub ours_prints : printed_at T i number ≡ Some ours
  pub theirs_prints : printed_at U j number ≡ Some theirs
  pub our_type : ours.kind ≡ message_kind_text type
  pub their_type : theirs.kind ≡ message_kind_text type

-- two kinds are this message type
pub record AreOfType (T U : Table) (k l : Kind) (type : List ℕ) : Type 0 where
  pub ours : kind_text T k ≡ message_kind_text type
  pub theirs : kind_text U l ≡ message_kind_text type

-- the field and the other message's field of its number have this message type
pub record IsShared (T U : Table) (field : Field) (other : Message) (type : List ℕ) : Type 0 where
  pub known : Field
  pub is : field_at other.fields field.number ≡ Some known
  pub types : AreOfType T U field.kind known.kind type

-- the other message's field of this field's number is printed differently
pub record IsOtherPrint (T U : Table) (message : Message) (field : Field) (other : Message) : Type 0 where
  pub known : Field
  pub is : field_at other.fields field.number ≡ Some known
  pub other_text : field_text T message field ≢ field_text U other known

-- a label of a field in a message with these oneofs
abbrev pub IsLabel : Table → List (List ℕ) → Label → Type 0
IsLabel T oneofs (Map key) = IsKnown T key
IsLabel T oneofs (Member o) = o < length oneofs
IsLabel T oneofs _ = Unit {0}

-- the least number whose fields the texts print differently
pub record IsLeastDifference (T U : Table) (i j number : ℕ) : Type 0 where
  pub here : IsPrintedDifferently T U i j number
  pub least : (n : ℕ) → IsPrintedDifferently T U i j n → number ≤ n
