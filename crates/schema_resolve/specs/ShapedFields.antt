-- The code's own: the fields of a message with their numbers and shapes.
use Rattle.std.specs.Prelude.{◌≡◌, ℕ, pos, ◌<◌, List, length, map, slice_get, Some, Contains}
use Rattle.mrpc_table.specs.Valid.{IsAscendingBy, AreDistinct, IsFieldNumber}
use Rattle.proto_ast.specs.declared.file.FieldDecl.{FieldDecl}
use Rattle.proto_ast.specs.declared.file.MessageDecl.{MessageDecl}
use Rattle.proto_ast.specs.Joined.{Joined}
use Rattle.proto_ast.specs.declared.joined.Enclosing.TheVariants as home
use Rattle.schema_symbols.specs.Scopes.{IsScope}
use Rattle.schema_validation.specs.Types.{signed_value}
use Rattle.schema_validation.specs.Shapes.{IsShape}
use Rattle.schema_resolve.specs.declared.field_table.ShapedField.{ShapedField}

-- a field of the message with an index, which is in this file
pub record IsFieldIn (F : Joined) (file place : ℕ) (f : FieldDecl) : Type 0 where
  pub message : MessageDecl
  pub at : slice_get F.messages place ≡ Some message
  pub of_file : message.file ≡ file
  pub field : Contains message.fields f

pub record IsShapedField (F : Joined) (file place : ℕ) (f : FieldDecl) (j : ShapedField) : Type 0 where
  pub decl_is : j.decl.now ≡ f
  pub number_is : signed_value f.number ≡ pos j.number
  pub in_range : IsFieldNumber j.number
  pub form_is : (scope : List (List ℕ)) → IsScope F (home.Message place) scope → IsShape F file scope f j.form

-- the fields with their numbers and shapes, in the order of the text
pub record AreShapedInOrder (F : Joined) (file place : ℕ) (fs : List FieldDecl) (js : List ShapedField) : Type 0 where
  pub decls : map (λ j. j.decl.now) js ≡ fs
  pub each : (j : ShapedField) → Contains js j → IsShapedField F file place j.decl.now j

-- the fields with their numbers and shapes, by ascending number
pub record AreShapedFields (F : Joined) (place : ℕ) (m : MessageDecl) (js : List ShapedField) : Type 0 where
  pub count : length js ≡ length m.fields
  pub each : (j : ShapedField) → Contains js j → IsShapedField F m.file place j.decl.now j × Contains m.fields j.decl.now
  pub all : (f : FieldDecl) → Contains m.fields f → (j : ShapedField) × Contains js j × (j.decl.now ≡ f)
  pub ascend : IsAscendingBy (λ j k. j.number < k.number) js
  pub distinct : AreDistinct (map (λ j. j.decl.now.name.name) js)
