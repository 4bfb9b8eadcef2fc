-- The code's own: the oneofs of a message in the order in which its fields need them, and fields with them.
use Rattle.std.specs.Prelude.{◌≡◌, ℕ, ◌<◌, List, [], ◌∷◌, ◌++◌, length, slice_get, slice_index_or, Option, Some, None}
use Rattle.mrpc_table.specs.Valid.{IsMessage, AreOneofsInOrder}
use Rattle.mrpc_table.specs.declared.table.Kind.{Kind}
use Rattle.mrpc_table.specs.declared.table.Kind.TheVariants as kinds
use Rattle.mrpc_table.specs.declared.table.Label.{Label}
use Rattle.mrpc_table.specs.declared.table.Label.TheVariants.{Member}
use Rattle.mrpc_table.specs.declared.table.Field.{Field}
use Rattle.mrpc_table.specs.declared.table.Message.{Message}
use Rattle.mrpc_table.specs.declared.table.Table.{Table}
use Rattle.proto_ast.specs.declared.file.Word.{Word}
use Rattle.proto_ast.specs.declared.file.MessageDecl.{MessageDecl}
use Rattle.proto_ast.specs.Joined.{Joined}
use Rattle.schema_symbols.specs.declared.symbol.Symbol.TheVariants as named
use Rattle.schema_validation.specs.Correspondence.{AreCorrespondingInOrder}
use Rattle.schema_validation.specs.declared.types.TypeOf.{TypeOf}
use Rattle.schema_validation.specs.declared.types.TypeOf.TheVariants.{Scalar, Named}
use Rattle.schema_resolve.specs.Tables.{IsMessageOf}
use Rattle.schema_resolve.specs.Placing.{name_at_index, HasTableNames}
use Rattle.schema_resolve.specs.declared.plan.TablePlan.{TablePlan}
use Rattle.schema_resolve.specs.declared.field_table.ShapedField.{ShapedField}
use Rattle.schema_resolve.specs.declared.oneof_table.Oneofs.{Oneofs}

-- no oneof has an index yet
pub record AreUnplaced (count : ℕ) (places : List (Option ℕ)) : Type 0 where
  pub count_is : length places ≡ count
  pub none : (i : ℕ) (place : Option ℕ) → slice_get places i ≡ Some place → place ≡ None

pub record IsPlacedOneof (words : List Word) (names : List (List ℕ)) (i p : ℕ) : Type 0 where
  pub word : Word
  pub at : slice_get words i ≡ Some word
  pub named : slice_get names p ≡ Some word.name

-- the names are those of the oneofs that have indices, in the order of these
pub record HasOneofs (words : List Word) (o : Oneofs) : Type 0 where
  pub count : length o.places.items ≡ length words
  pub placed : (i p : ℕ) → slice_get o.places.items i ≡ Some (Some p) → IsPlacedOneof words o.names i p
  pub met : (p : ℕ) → p < length o.names → (i : ℕ) × (slice_get o.places.items i ≡ Some (Some p))

-- a oneof has this index: it was added before, or is the next one
pub data HasPlace (names more : List (List ℕ)) (p : ℕ) : Type 0 where
  met_before : p < length names → more ≡ names → HasPlace names more p
  next_one : (name : List ℕ) → p ≡ length names → more ≡ names ++ name ∷ [] → HasPlace names more p

-- the label of a field, given the oneofs before and after it
abbrev pub IsLabelled : List Word → Option ℕ → Label → Oneofs → Oneofs → Label → Type 0
IsLabelled words None form old new label = (label ≡ form) × (new.names ≡ old.names)
IsLabelled words (Some i) form old new label =
    (p : ℕ) × (label ≡ Member p) × HasPlace old.names new.names p × IsPlacedOneof words new.names i p

abbrev pub table_kind : TablePlan → TypeOf → Kind
table_kind p (Scalar k) = k
table_kind p (Named (named.Message i)) = kinds.Message (slice_index_or p.messages.places.items i 0)
table_kind p (Named (named.Enum i)) = kinds.Choice (slice_index_or p.enums.places.items i 0)

abbrev pub IsInPlan : TablePlan → TypeOf → Type 0
IsInPlan p (Scalar k) = Unit {0}
IsInPlan p (Named (named.Message i)) = i < length p.messages.places.items
IsInPlan p (Named (named.Enum i)) = i < length p.enums.places.items

-- the label of a field of a table, given the oneofs of its message
abbrev pub IsLabelOf : List Word → List (List ℕ) → Option ℕ → Label → Label → Type 0
IsLabelOf words names None form label = label ≡ form
IsLabelOf words names (Some i) form label = (p : ℕ) × (label ≡ Member p) × IsPlacedOneof words names i p

pub record IsMadeField (plan : TablePlan) (words : List Word) (names : List (List ℕ)) (j : ShapedField) (g : Field) : Type 0 where
  pub number_is : g.number ≡ j.number
  pub name_is : g.name ≡ j.decl.now.name.name
  pub kind_is : g.kind ≡ table_kind plan j.form.type_of
  pub label_is : IsLabelOf words names j.decl.now.oneof j.form.label g.label

-- the first fields of a message
pub record AreFieldsMade (plan : TablePlan) (words : List Word) (js : List ShapedField) (o : Oneofs) (gs : List Field) : Type 0 where
  pub keeps : HasOneofs words o
  pub made : AreCorrespondingInOrder (IsMadeField plan words o.names) js gs
  pub follow : AreOneofsInOrder 0 (length o.names) gs

-- a field with its label, given the oneofs before and after it
pub record IsNextField (plan : TablePlan) (words : List Word) (j : ShapedField) (old new : Oneofs) (g : Field) : Type 0 where
  pub keeps : HasOneofs words new
  pub number_is : g.number ≡ j.number
  pub name_is : g.name ≡ j.decl.now.name.name
  pub kind_is : g.kind ≡ table_kind plan j.form.type_of
  pub label_is : IsLabelled words j.decl.now.oneof j.form.label old new g.label

-- the message with an index
pub record IsMessageAt (F : Joined) (p : TablePlan) (i : ℕ) (t : Message) : Type 0 where
  pub is : (T : Table) → HasTableNames p T → (m : MessageDecl) → slice_get F.messages i ≡ Some m
      → IsMessageOf T F m t
  pub valid : (T : Table) → HasTableNames p T → IsMessage T t
  pub name : t.name ≡ name_at_index p.messages.names.items i
