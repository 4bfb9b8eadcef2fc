-- The table of files (Protocol Buffers, proto3 language guide; labels and the order of methods are this project's
-- own).
use Rattle.std.specs.Prelude.{◌≡◌, ℕ, ℤ, pos, List, [], ◌∷◌, ◌++◌, map}
use Rattle.mrpc_table.specs.Valid.{IsValid, IsKnown}
use Rattle.mrpc_table.specs.Text.{kind_text, label_text, message_name}
use Rattle.mrpc_table.specs.declared.table.Label.{Label}
use Rattle.mrpc_table.specs.declared.table.Field.{Field}
use Rattle.mrpc_table.specs.declared.table.Message.{Message}
use Rattle.mrpc_table.specs.declared.table.Choices.{Choices}
use Rattle.mrpc_table.specs.declared.table.Method.{Method}
use Rattle.mrpc_table.specs.declared.table.Table.{Table}
use Rattle.proto_ast.specs.declared.file.Word.{Word}
use Rattle.proto_ast.specs.declared.file.ValueDecl.{ValueDecl}
use Rattle.proto_ast.specs.declared.file.FieldDecl.{FieldDecl}
use Rattle.proto_ast.specs.declared.file.MessageDecl.{MessageDecl}
use Rattle.proto_ast.specs.declared.file.EnumDecl.{EnumDecl}
use Rattle.proto_ast.specs.declared.file.RpcDecl.{RpcDecl}
use Rattle.proto_ast.specs.declared.file.ServiceDecl.{ServiceDecl}
use Rattle.proto_ast.specs.Joined.{Joined, enclosing_of, enclosing_of_enum, package_at}
use Rattle.schema_symbols.specs.Scopes.{IsScope, IsReferenceTo, a_message, text_of}
use Rattle.schema_validation.specs.Methods.{rpcs_of}
use Rattle.schema_validation.specs.Types.{HasShape, signed_value}
use Rattle.schema_validation.specs.Correspondence.{AreCorresponding, AreCorrespondingInOrder}

-- a field of a message of a file corresponds to a field of a message of the table
pub record IsFieldOf (T : Table) (F : Joined) (scope : List (List ℕ)) (m : MessageDecl) (t : Message)
    (f : FieldDecl) (g : Field) : Type 0 where
  pub name : g.name ≡ f.name.name
  pub number : pos g.number ≡ signed_value f.number
  pub label : Label
  pub word : List ℕ
  pub form : HasShape F m.file scope f label word
  pub kind : kind_text T g.kind ≡ word
  pub known : IsKnown T g.kind
  -- the label is the same; a oneof may have another index in the table, but not another name
  pub same : label_text T t.oneofs g.label ≡ label_text T (map (λ o. o.name) m.oneofs) label

abbrev pub IsOneofOf : Word → List ℕ → Type 0
IsOneofOf o name = name ≡ o.name

pub record IsMessageOf (T : Table) (F : Joined) (m : MessageDecl) (t : Message) : Type 0 where
  pub outer : List (List ℕ)
  pub stands : IsScope F (enclosing_of m) outer
  pub name : t.name ≡ text_of (outer ++ m.name.name ∷ [])
  pub fields : AreCorresponding (IsFieldOf T F (outer ++ m.name.name ∷ []) m t) m.fields t.fields
  pub oneofs : AreCorresponding IsOneofOf m.oneofs t.oneofs

abbrev pub IsValueOf : ValueDecl → ℤ × List ℕ → Type 0
IsValueOf v w = (w.0 ≡ signed_value v.number) × (w.1 ≡ v.name.name)

pub record IsEnumOf (F : Joined) (e : EnumDecl) (c : Choices) : Type 0 where
  pub outer : List (List ℕ)
  pub stands : IsScope F (enclosing_of_enum e) outer
  pub name : c.name ≡ text_of (outer ++ e.name.name ∷ [])
  pub values : AreCorresponding IsValueOf e.values c.values

pub record IsMethodOf (T : Table) (F : Joined) (p : ServiceDecl × RpcDecl) (t : Method) : Type 0 where
  pub service : t.service ≡ text_of (package_at F p.0.file ++ p.0.name.name ∷ [])
  pub name : t.name ≡ p.1.name.name
  pub input : List (List ℕ)
  pub output : List (List ℕ)
  pub takes : IsReferenceTo F p.0.file (package_at F p.0.file) p.1.input.name a_message input
  pub gives : IsReferenceTo F p.0.file (package_at F p.0.file) p.1.output.name a_message output
  pub input_place : message_name T t.input ≡ text_of input
  pub output_place : message_name T t.output ≡ text_of output

-- The table has the declarations of files that are resolved together. Its lists are ordered as in every valid table;
-- methods are numbered in the order of the files.
pub record IsTableOf (F : Joined) (T : Table) : Type 0 where
  pub valid : IsValid T
  pub messages : AreCorresponding (IsMessageOf T F) F.messages T.messages
  pub enums : AreCorresponding (IsEnumOf F) F.enums T.enums
  pub methods : AreCorrespondingInOrder (IsMethodOf T F) (rpcs_of F) T.methods
