-- The names and numbers of a file lie in a text of this many bytes, including reserved ones; paths of imports aren't
-- covered.
use Rattle.std.specs.Prelude.{ℕ, ◌<◌, ◌≤◌, IfSome, All}
use Rattle.proto_ast.specs.declared.file.Span.{Span}
use Rattle.proto_ast.specs.declared.file.Word.{Word}
use Rattle.proto_ast.specs.declared.file.Number.{Number}
use Rattle.proto_ast.specs.declared.file.FieldType.{FieldType}
use Rattle.proto_ast.specs.declared.file.FieldType.TheVariants.{Named, Map, NestedMap}
use Rattle.proto_ast.specs.declared.file.FieldDecl.{FieldDecl}
use Rattle.proto_ast.specs.declared.file.Range.{Range}
use Rattle.proto_ast.specs.declared.file.MessageDecl.{MessageDecl}
use Rattle.proto_ast.specs.declared.file.ValueDecl.{ValueDecl}
use Rattle.proto_ast.specs.declared.file.EnumDecl.{EnumDecl}
use Rattle.proto_ast.specs.declared.file.RpcDecl.{RpcDecl}
use Rattle.proto_ast.specs.declared.file.ServiceDecl.{ServiceDecl}
use Rattle.proto_ast.specs.declared.file.File.{File}

pub record IsSpanWithin (size : ℕ) (s : Span) : Type 0 where
  pub start : s.start < size
  pub end : s.end ≤ size

abbrev pub IsWordWithin : ℕ → Word → Type 0
IsWordWithin size w = IsSpanWithin size w.span

abbrev pub IsNumberWithin : ℕ → Number → Type 0
IsNumberWithin size n = IsSpanWithin size n.span

pub record IsRangeWithin (size : ℕ) (r : Range) : Type 0 where
  pub first : IsNumberWithin size r.first
  pub last : IfSome r.last (IsNumberWithin size)

abbrev pub IsTypeWithin : ℕ → FieldType → Type 0
IsTypeWithin size (Named w) = IsWordWithin size w
IsTypeWithin size (Map key value) = IsWordWithin size key × IsWordWithin size value
IsTypeWithin size (NestedMap key) = IsWordWithin size key

pub record IsFieldWithin (size : ℕ) (f : FieldDecl) : Type 0 where
  pub name : IsWordWithin size f.name
  pub number : IsNumberWithin size f.number
  pub kind : IsTypeWithin size f.kind

pub record IsMessageWithin (size : ℕ) (m : MessageDecl) : Type 0 where
  pub name : IsWordWithin size m.name
  pub fields : All (IsFieldWithin size) m.fields
  pub oneofs : All (IsWordWithin size) m.oneofs
  pub ranges : All (IsRangeWithin size) m.ranges
  pub names : All (IsWordWithin size) m.names

pub record IsValueWithin (size : ℕ) (v : ValueDecl) : Type 0 where
  pub name : IsWordWithin size v.name
  pub number : IsNumberWithin size v.number

pub record IsEnumWithin (size : ℕ) (e : EnumDecl) : Type 0 where
  pub name : IsWordWithin size e.name
  pub values : All (IsValueWithin size) e.values
  pub ranges : All (IsRangeWithin size) e.ranges
  pub names : All (IsWordWithin size) e.names

pub record IsRpcWithin (size : ℕ) (r : RpcDecl) : Type 0 where
  pub name : IsWordWithin size r.name
  pub input : IsWordWithin size r.input
  pub output : IsWordWithin size r.output

pub record IsServiceWithin (size : ℕ) (s : ServiceDecl) : Type 0 where
  pub name : IsWordWithin size s.name
  pub rpcs : All (IsRpcWithin size) s.rpcs

pub record IsWithin (size : ℕ) (F : File) : Type 0 where
  pub package_name : IfSome F.package (IsWordWithin size)
  pub messages : All (IsMessageWithin size) F.messages
  pub enums : All (IsEnumWithin size) F.enums
  pub services : All (IsServiceWithin size) F.services
