-- Invariants of files that were read and are resolved together: their indices, the forms of their names, and the
-- order in which their names and numbers start.
use Rattle.std.specs.Prelude.{◌≡◌, ℕ, ◌<◌, length, Some, slice_get, IfSome, All, Contains}
use Rattle.proto_ast.specs.Joined.{Joined}
use Rattle.proto_ast.specs.Order.{IsIndexBelow, HasFullName, IsFormedMessage, IsFormedEnum, IsFormedService, DeclPart, its_name, part_rank, IsOfField, IsOfValue, IsOfRpc}
use Rattle.proto_ast.specs.declared.file.Span.{Span}
use Rattle.proto_ast.specs.declared.file.Word.{Word}
use Rattle.proto_ast.specs.declared.file.FieldDecl.{FieldDecl}
use Rattle.proto_ast.specs.declared.file.MessageDecl.{MessageDecl}
use Rattle.proto_ast.specs.declared.file.ValueDecl.{ValueDecl}
use Rattle.proto_ast.specs.declared.file.EnumDecl.{EnumDecl}
use Rattle.proto_ast.specs.declared.file.RpcDecl.{RpcDecl}
use Rattle.proto_ast.specs.declared.file.ServiceDecl.{ServiceDecl}
use Rattle.proto_ast.specs.declared.joined.Head.{Head}

-- ---- indices, and forms of names

-- a file sees itself, and only files that exist
pub record IsFormedHead (files place : ℕ) (h : Head) : Type 0 where
  pub package_name : IfSome h.package HasFullName
  pub itself : Contains h.sees place
  pub there : All (λ j. j < files) h.sees

pub record IsFormed (F : Joined) : Type 0 where
  pub heads : (k : ℕ) (h : Head) → slice_get F.heads k ≡ Some h → IsFormedHead (length F.heads) k h
  pub messages : All IsFormedMessage F.messages
  pub enums : All IsFormedEnum F.enums
  pub services : All IsFormedService F.services
  -- a message is in a file or in an earlier message
  pub parents : (i : ℕ) (m : MessageDecl) → slice_get F.messages i ≡ Some m → IsIndexBelow i m.parent
  -- an enum is in a file or in a message
  pub enum_parents : All (λ e. IsIndexBelow (length F.messages) e.parent) F.enums
  -- each declaration is of a file that exists, and a nested one is of the file of its message
  pub message_files : All (λ m. m.file < length F.heads) F.messages
  pub enum_files : All (λ e. e.file < length F.heads) F.enums
  pub service_files : All (λ s. s.file < length F.heads) F.services
  pub nested : (i : ℕ) (m outer : MessageDecl) → Contains F.messages m → m.parent ≡ Some i
      → slice_get F.messages i ≡ Some outer → m.file ≡ outer.file
  pub nested_enums : (i : ℕ) (e : EnumDecl) (outer : MessageDecl) → Contains F.enums e → e.parent ≡ Some i
      → slice_get F.messages i ≡ Some outer → e.file ≡ outer.file

-- ---- names and numbers

-- a declaration, by its indices in the lists
pub data DeclIndex : Type 0 where
  package_decl : ℕ → DeclIndex
  message_decl : ℕ → DeclIndex
  -- the message and then the field or oneof, the enum and then the value, the service and then the rpc
  field_decl : ℕ → ℕ → DeclIndex
  oneof_decl : ℕ → ℕ → DeclIndex
  enum_decl : ℕ → DeclIndex
  value_decl : ℕ → ℕ → DeclIndex
  service_decl : ℕ → DeclIndex
  rpc_decl : ℕ → ℕ → DeclIndex

-- a part of a declaration has this span
pub data IsPartSpan (F : Joined) (span : Span) : DeclIndex → DeclPart → Type 0 where
  package_name : (k : ℕ) (h : Head) (w : Word) → slice_get F.heads k ≡ Some h → h.package ≡ Some w → span ≡ w.span
      → IsPartSpan F span (package_decl k) its_name
  message : (i : ℕ) (m : MessageDecl) → slice_get F.messages i ≡ Some m → span ≡ m.name.span
      → IsPartSpan F span (message_decl i) its_name
  field : (i j : ℕ) (m : MessageDecl) (f : FieldDecl) {part : DeclPart} → slice_get F.messages i ≡ Some m
      → slice_get m.fields j ≡ Some f → IsOfField f span part → IsPartSpan F span (field_decl i j) part
  oneof : (i j : ℕ) (m : MessageDecl) (o : Word) → slice_get F.messages i ≡ Some m → slice_get m.oneofs j ≡ Some o
      → span ≡ o.span → IsPartSpan F span (oneof_decl i j) its_name
  enum : (i : ℕ) (e : EnumDecl) → slice_get F.enums i ≡ Some e → span ≡ e.name.span
      → IsPartSpan F span (enum_decl i) its_name
  value : (i j : ℕ) (e : EnumDecl) (v : ValueDecl) {part : DeclPart} → slice_get F.enums i ≡ Some e
      → slice_get e.values j ≡ Some v → IsOfValue v span part → IsPartSpan F span (value_decl i j) part
  service : (i : ℕ) (s : ServiceDecl) → slice_get F.services i ≡ Some s → span ≡ s.name.span
      → IsPartSpan F span (service_decl i) its_name
  rpc : (i j : ℕ) (s : ServiceDecl) (r : RpcDecl) {part : DeclPart} → slice_get F.services i ≡ Some s
      → slice_get s.rpcs j ≡ Some r → IsOfRpc r span part → IsPartSpan F span (rpc_decl i j) part

-- the first declaration starts before the second, whatever the files contain
pub data IsAlwaysBefore : DeclIndex → DeclIndex → Type 0 where
  messages : (i j : ℕ) → i < j → IsAlwaysBefore (message_decl i) (message_decl j)
  enums : (i j : ℕ) → i < j → IsAlwaysBefore (enum_decl i) (enum_decl j)
  services : (i j : ℕ) → i < j → IsAlwaysBefore (service_decl i) (service_decl j)
  fields : (i j k : ℕ) → j < k → IsAlwaysBefore (field_decl i j) (field_decl i k)
  oneofs : (i j k : ℕ) → j < k → IsAlwaysBefore (oneof_decl i j) (oneof_decl i k)
  values : (i j k : ℕ) → j < k → IsAlwaysBefore (value_decl i j) (value_decl i k)
  rpcs : (i j k : ℕ) → j < k → IsAlwaysBefore (rpc_decl i j) (rpc_decl i k)
  in_message : (i j : ℕ) → IsAlwaysBefore (message_decl i) (field_decl i j)
  oneof_in_message : (i j : ℕ) → IsAlwaysBefore (message_decl i) (oneof_decl i j)
  in_enum : (i j : ℕ) → IsAlwaysBefore (enum_decl i) (value_decl i j)
  in_service : (i j : ℕ) → IsAlwaysBefore (service_decl i) (rpc_decl i j)

-- the index of the file that contains a declaration
pub data IsInFile (F : Joined) (k : ℕ) : DeclIndex → Type 0 where
  its_package : IsInFile F k (package_decl k)
  in_message_of : (i : ℕ) (m : MessageDecl) → slice_get F.messages i ≡ Some m → m.file ≡ k
      → IsInFile F k (message_decl i)
  in_field_of : (i j : ℕ) (m : MessageDecl) → slice_get F.messages i ≡ Some m → m.file ≡ k
      → IsInFile F k (field_decl i j)
  in_oneof_of : (i j : ℕ) (m : MessageDecl) → slice_get F.messages i ≡ Some m → m.file ≡ k
      → IsInFile F k (oneof_decl i j)
  in_enum_of : (i : ℕ) (e : EnumDecl) → slice_get F.enums i ≡ Some e → e.file ≡ k → IsInFile F k (enum_decl i)
  in_value_of : (i j : ℕ) (e : EnumDecl) → slice_get F.enums i ≡ Some e → e.file ≡ k → IsInFile F k (value_decl i j)
  in_service_of : (i : ℕ) (s : ServiceDecl) → slice_get F.services i ≡ Some s → s.file ≡ k
      → IsInFile F k (service_decl i)
  in_rpc_of : (i j : ℕ) (s : ServiceDecl) → slice_get F.services i ≡ Some s → s.file ≡ k → IsInFile F k (rpc_decl i j)

pub record IsOrdered (F : Joined) : Type 0 where
  -- only one part of one declaration starts at an offset
  pub apart : (x y : DeclIndex) (p q : DeclPart) (s t : Span) → IsPartSpan F s x p → IsPartSpan F t y q → s.start ≡ t.start
      → (x ≡ y) × (p ≡ q) × (s ≡ t)
  -- a declaration starts before those that it precedes
  pub ascend : (x y : DeclIndex) (p q : DeclPart) (s t : Span) → IsAlwaysBefore x y → IsPartSpan F s x p → IsPartSpan F t y q
      → s.start < t.start
  -- the parts of a declaration start in their order
  pub parts : (x : DeclIndex) (p q : DeclPart) (s t : Span) → part_rank p < part_rank q → IsPartSpan F s x p → IsPartSpan F t x q
      → s.start < t.start
  -- an enum starts after the name of its message
  pub enum_after : (i j : ℕ) (m : MessageDecl) (e : EnumDecl) → slice_get F.messages i ≡ Some m
      → slice_get F.enums j ≡ Some e → e.parent ≡ Some i → m.name.span.start < e.name.span.start
  -- every part in a file starts before every part in a later file
  pub files : (j k : ℕ) (x y : DeclIndex) (p q : DeclPart) (s t : Span) → j < k → IsInFile F j x → IsInFile F k y
      → IsPartSpan F s x p → IsPartSpan F t y q → s.start < t.start
