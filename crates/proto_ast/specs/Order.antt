-- Invariants of every file that was read: its indices, the forms of its names, and the order in which its names and
-- numbers start in the text.
use Rattle.std.specs.Prelude.{◌≡◌, ℕ, ◌<◌, length, List, ◌∷◌, Option, Some, slice_get, IfSome, All, Contains, IsTrue}
use Rattle.mrpc_table.specs.Names.{is_name_form, is_full_form}
use Rattle.proto_ast.specs.Dot.{dot}
use Rattle.proto_ast.specs.declared.file.Span.{Span}
use Rattle.proto_ast.specs.declared.file.Word.{Word}
use Rattle.proto_ast.specs.declared.file.Import.{Import}
use Rattle.proto_ast.specs.declared.file.FieldType.{FieldType}
use Rattle.proto_ast.specs.declared.file.FieldType.TheVariants.{Named, Map, NestedMap}
use Rattle.proto_ast.specs.declared.file.FieldDecl.{FieldDecl}
use Rattle.proto_ast.specs.declared.file.MessageDecl.{MessageDecl}
use Rattle.proto_ast.specs.declared.file.ValueDecl.{ValueDecl}
use Rattle.proto_ast.specs.declared.file.EnumDecl.{EnumDecl}
use Rattle.proto_ast.specs.declared.file.RpcDecl.{RpcDecl}
use Rattle.proto_ast.specs.declared.file.ServiceDecl.{ServiceDecl}
use Rattle.proto_ast.specs.declared.file.File.{File}

-- ---- indices, and forms of names

-- none, or an index below n
abbrev pub IsIndexBelow : ℕ → Option ℕ → Type 0
IsIndexBelow n place = IfSome place (λ i. i < n)

abbrev pub HasName : Word → Type 0
HasName w = IsTrue (is_name_form w.name)

-- names joined by dots
abbrev pub HasFullName : Word → Type 0
HasFullName w = IsTrue (is_full_form w.name)

-- a full name, optionally after a dot
pub data HasTypeName (w : Word) : Type 0 where
  relative : IsTrue (is_full_form w.name) → HasTypeName w
  absolute : (full : List ℕ) → w.name ≡ dot ∷ full → IsTrue (is_full_form full) → HasTypeName w

-- each type name in the type of a field has this form
abbrev pub HasTypeNames : FieldType → Type 0
HasTypeNames (Named w) = HasTypeName w
HasTypeNames (Map key value) = HasTypeName key × HasTypeName value
HasTypeNames (NestedMap key) = HasTypeName key

-- a field of a message that has this many oneofs
pub record IsFormedField (oneofs : ℕ) (f : FieldDecl) : Type 0 where
  pub name : HasName f.name
  pub types : HasTypeNames f.kind
  pub oneof : IsIndexBelow oneofs f.oneof

pub record IsFormedMessage (m : MessageDecl) : Type 0 where
  pub name : HasName m.name
  pub fields : All (IsFormedField (length m.oneofs)) m.fields
  pub oneofs : All HasName m.oneofs
  -- each oneof has a field
  pub filled : (o : ℕ) → o < length m.oneofs → (f : FieldDecl) × Contains m.fields f × (f.oneof ≡ Some o)

pub record IsFormedEnum (e : EnumDecl) : Type 0 where
  pub name : HasName e.name
  pub values : All (λ v. HasName v.name) e.values
  -- it has a value
  pub filled : 0 < length e.values

pub record IsFormedRpc (r : RpcDecl) : Type 0 where
  pub name : HasName r.name
  pub input : HasTypeName r.input
  pub output : HasTypeName r.output

pub record IsFormedService (s : ServiceDecl) : Type 0 where
  pub name : HasName s.name
  pub rpcs : All IsFormedRpc s.rpcs

pub record IsFormed (F : File) : Type 0 where
  pub package_name : IfSome F.package HasFullName
  pub messages : All IsFormedMessage F.messages
  pub enums : All IsFormedEnum F.enums
  pub services : All IsFormedService F.services
  -- a message is in the file or in an earlier message
  pub parents : (i : ℕ) (m : MessageDecl) → slice_get F.messages i ≡ Some m → IsIndexBelow i m.parent
  -- an enum is in the file or in one of its messages
  pub enum_parents : All (λ e. IsIndexBelow (length F.messages) e.parent) F.enums

-- ---- names and numbers in the text

-- a declaration of a file, by its indices in the file's lists
pub data DeclIndex : Type 0 where
  package_decl : DeclIndex
  import_decl : ℕ → DeclIndex
  message_decl : ℕ → DeclIndex
  -- the message and then the field or oneof, the enum and then the value, the service and then the rpc
  field_decl : ℕ → ℕ → DeclIndex
  oneof_decl : ℕ → ℕ → DeclIndex
  enum_decl : ℕ → DeclIndex
  value_decl : ℕ → ℕ → DeclIndex
  service_decl : ℕ → DeclIndex
  rpc_decl : ℕ → ℕ → DeclIndex

-- the parts of a declaration, in this order
pub data DeclPart : Type 0 where
  its_type : DeclPart
  its_key : DeclPart
  its_value : DeclPart
  its_name : DeclPart
  its_number : DeclPart
  its_input : DeclPart
  its_output : DeclPart

abbrev pub part_rank : DeclPart → ℕ
part_rank its_type = 0
part_rank its_key = 1
part_rank its_value = 2
part_rank its_name = 3
part_rank its_number = 4
part_rank its_input = 5
part_rank its_output = 6

-- a part of a field has this span
pub data IsOfField (f : FieldDecl) (span : Span) : DeclPart → Type 0 where
  field_type : (w : Word) → f.kind ≡ Named w → span ≡ w.span → IsOfField f span its_type
  map_key : (key value : Word) → f.kind ≡ Map key value → span ≡ key.span → IsOfField f span its_key
  map_value : (key value : Word) → f.kind ≡ Map key value → span ≡ value.span → IsOfField f span its_value
  outer_key : (key : Word) → f.kind ≡ NestedMap key → span ≡ key.span → IsOfField f span its_key
  field_name : span ≡ f.name.span → IsOfField f span its_name
  field_number : span ≡ f.number.span → IsOfField f span its_number

-- a part of an enum's value has this span; then a part of an rpc
pub data IsOfValue (v : ValueDecl) (span : Span) : DeclPart → Type 0 where
  value_name : span ≡ v.name.span → IsOfValue v span its_name
  value_number : span ≡ v.number.span → IsOfValue v span its_number

pub data IsOfRpc (r : RpcDecl) (span : Span) : DeclPart → Type 0 where
  rpc_name : span ≡ r.name.span → IsOfRpc r span its_name
  rpc_input : span ≡ r.input.span → IsOfRpc r span its_input
  rpc_output : span ≡ r.output.span → IsOfRpc r span its_output

-- a part of a declaration has this span; the path of an import counts as its name
pub data IsPartSpan (F : File) (span : Span) : DeclIndex → DeclPart → Type 0 where
  package_name : (w : Word) → F.package ≡ Some w → span ≡ w.span → IsPartSpan F span package_decl its_name
  import : (i : ℕ) (x : Import) → slice_get F.imports i ≡ Some x → span ≡ x.span
      → IsPartSpan F span (import_decl i) its_name
  message : (i : ℕ) (m : MessageDecl) → slice_get F.messages i ≡ Some m → span ≡ m.name.span
      → IsPartSpan F span (message_decl i) its_name
  field : (i j : ℕ) (m : MessageDecl) (f : FieldDecl) {part : DeclPart} → slice_get F.messages i ≡ Some m
      → slice_get m.fields j ≡ Some f → IsOfField f span part → IsPartSpan F span (field_decl i j) part
  oneof : (i j : ℕ) (m : MessageDecl) (o : Word) → slice_get F.messages i ≡ Some m → slice_get m.oneofs j ≡ Some o
      → span ≡ o.span → IsPartSpan F span (oneof_decl i j) its_name
  enum : (i : ℕ) (e : EnumDecl) → slice_get F.enums i ≡ Some e → span ≡ e.name.span
      → IsPartSpan F span (enum_decl i) its_name
  value : (i j : ℕ) (e : EnumDecl) (v : ValueDecl) {part : DeclPart} → slice_get F.enums i ≡ Some e
      → slice_get e.values j ≡ Some v → IsOfValue v span part → IsPartSpan F span (value_decl i j) part
  service : (i : ℕ) (s : ServiceDecl) → slice_get F.services i ≡ Some s → span ≡ s.name.span
      → IsPartSpan F span (service_decl i) its_name
  rpc : (i j : ℕ) (s : ServiceDecl) (r : RpcDecl) {part : DeclPart} → slice_get F.services i ≡ Some s
      → slice_get s.rpcs j ≡ Some r → IsOfRpc r span part → IsPartSpan F span (rpc_decl i j) part

-- in every text the first declaration comes before the second
pub data IsAlwaysBefore : DeclIndex → DeclIndex → Type 0 where
  imports : (i j : ℕ) → i < j → IsAlwaysBefore (import_decl i) (import_decl j)
  messages : (i j : ℕ) → i < j → IsAlwaysBefore (message_decl i) (message_decl j)
  enums : (i j : ℕ) → i < j → IsAlwaysBefore (enum_decl i) (enum_decl j)
  services : (i j : ℕ) → i < j → IsAlwaysBefore (service_decl i) (service_decl j)
  fields : (i j k : ℕ) → j < k → IsAlwaysBefore (field_decl i j) (field_decl i k)
  oneofs : (i j k : ℕ) → j < k → IsAlwaysBefore (oneof_decl i j) (oneof_decl i k)
  values : (i j k : ℕ) → j < k → IsAlwaysBefore (value_decl i j) (value_decl i k)
  rpcs : (i j k : ℕ) → j < k → IsAlwaysBefore (rpc_decl i j) (rpc_decl i k)
  in_message : (i j : ℕ) → IsAlwaysBefore (message_decl i) (field_decl i j)
  oneof_in_message : (i j : ℕ) → IsAlwaysBefore (message_decl i) (oneof_decl i j)
  in_enum : (i j : ℕ) → IsAlwaysBefore (enum_decl i) (value_decl i j)
  in_service : (i j : ℕ) → IsAlwaysBefore (service_decl i) (rpc_decl i j)

pub record IsOrdered (F : File) : Type 0 where
  -- only one part of one declaration starts at an offset
  pub apart : (x y : DeclIndex) (p q : DeclPart) (s t : Span) → IsPartSpan F s x p → IsPartSpan F t y q → s.start ≡ t.start
      → (x ≡ y) × (p ≡ q) × (s ≡ t)
  -- a declaration comes before those that it precedes
  pub ascend : (x y : DeclIndex) (p q : DeclPart) (s t : Span) → IsAlwaysBefore x y → IsPartSpan F s x p → IsPartSpan F t y q
      → s.start < t.start
  -- the parts of a declaration come in their order
  pub parts : (x : DeclIndex) (p q : DeclPart) (s t : Span) → part_rank p < part_rank q → IsPartSpan F s x p → IsPartSpan F t x q
      → s.start < t.start
  -- an enum comes after the name of its message
  pub enum_after : (i j : ℕ) (m : MessageDecl) (e : EnumDecl) → slice_get F.messages i ≡ Some m
      → slice_get F.enums j ≡ Some e → e.parent ≡ Some i → m.name.span.start < e.name.span.start
