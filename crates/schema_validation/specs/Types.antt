-- Numbers, types and labels of fields, as a table has them (Protocol Buffers, proto3 language guide: "Scalar Value
-- Types", "Specifying Field Labels", "Maps"; the names of labels and kinds are this project's own).
use Rattle.std.specs.Prelude.{◌≡◌, ℕ, ℤ, pos, neg_ℤ, ◌&&◌, Bool, true, false, List, ◌++◌, codes, Option, Some, None, IsTrue, if◌then◌else◌}
use Rattle.mrpc_table.specs.Lines.{magnitude}
use Rattle.mrpc_table.specs.declared.table.Kind.{Kind}
use Rattle.mrpc_table.specs.declared.table.Kind.TheVariants.{Message as OfMessage, Choice}
use Rattle.mrpc_table.specs.declared.table.Label.{Label}
use Rattle.mrpc_table.specs.declared.table.Label.TheVariants as labels
use Rattle.mrpc_table.specs.Words.{is_numeric, is_key}
use Rattle.mrpc_table.specs.Scalars.{no_table}
use Rattle.mrpc_table.specs.Text.{kind_text}
use Rattle.proto_ast.specs.declared.file.Word.{Word}
use Rattle.proto_ast.specs.declared.file.Number.{Number}
use Rattle.proto_ast.specs.declared.file.FieldLabel.{FieldLabel}
use Rattle.proto_ast.specs.declared.file.FieldLabel.TheVariants.{Plain, Optional, Repeated}
use Rattle.proto_ast.specs.declared.file.FieldType.TheVariants.{Named, Map}
use Rattle.proto_ast.specs.declared.file.FieldDecl.{FieldDecl}
use Rattle.proto_ast.specs.Joined.{Joined}
use Rattle.schema_symbols.specs.Scopes.{a_message, an_enum, text_of, IsReferenceTo}

-- ---- numbers

abbrev pub signed_value : Number → ℤ
signed_value n = if n.negative then neg_ℤ (pos (magnitude n.value)) else pos (magnitude n.value)

-- ---- types

abbrev pub is_scalar : Kind → Bool
is_scalar (OfMessage i) = false
is_scalar (Choice i) = false
is_scalar k = true

-- a scalar with this name
pub record IsScalar (name : List ℕ) (k : Kind) : Type 0 where
  pub is_one : is_scalar k ≡ true
  pub named : kind_text no_table k ≡ name

abbrev pub IsNoScalar : List ℕ → Type 0
IsNoScalar name = (k : Kind) → IsScalar name k → ⊥

-- The word for a type in a table's text, whether it is a message, and whether repeated values can be packed in one
-- record. The name of a scalar always means the scalar, whatever is declared.
pub data HasType (F : Joined) (file : ℕ) (scope : List (List ℕ)) (w : Word) : List ℕ → Bool → Bool → Type 0 where
  scalar : (k : Kind) → IsScalar w.name k → HasType F file scope w w.name false (is_numeric k)
  message : (full : List (List ℕ)) → IsNoScalar w.name → IsReferenceTo F file scope w.name a_message full
      → HasType F file scope w (codes "message:" ++ text_of full) true false
  enum : (full : List (List ℕ)) → IsNoScalar w.name → IsReferenceTo F file scope w.name an_enum full
      → HasType F file scope w (codes "enum:" ++ text_of full) false true

-- ---- labels

abbrev pub isnt_false : Option Bool → Bool
isnt_false (Some false) = false
isnt_false _ = true

-- a message has presence without a label; packable values are packed unless the option `packed` is `false`
abbrev pub single_label : FieldLabel → Option Bool → Bool → Bool → Label
single_label Plain packed is_message packable = labels.Plain
single_label Optional packed is_message packable = if is_message then labels.Plain else labels.Optional
single_label Repeated packed is_message packable =
    if packable && isnt_false packed then labels.Packed else labels.Repeated

abbrev pub label_in : Option ℕ → Label → Label
label_in None label = label
label_in (Some i) label = labels.Member i

-- the label of a field and the word for its type; a oneof is given by its index in the message
pub data HasShape (F : Joined) (file : ℕ) (scope : List (List ℕ)) (f : FieldDecl) : Label → List ℕ → Type 0 where
  single : (w : Word) (word : List ℕ) (is_message packable : Bool) → f.kind ≡ Named w
      → HasType F file scope w word is_message packable
      → HasShape F file scope f (label_in f.oneof (single_label f.label f.packed is_message packable)) word
  a_map : (key value : Word) (k : Kind) (word : List ℕ) (is_message packable : Bool) → f.kind ≡ Map key value
      → f.label ≡ Plain → f.oneof ≡ None → IsScalar key.name k → IsTrue (is_key k)
      → HasType F file scope value word is_message packable
      → HasShape F file scope f (labels.Map k) word
