-- Files of one package that read as one file with all their declarations.
use Rattle.std.specs.Prelude.{◌≡◌, ℕ, ◌<◌, true, List, [], length, map, option_map, Some, None, slice_get, All, Contains}
use Rattle.proto_ast.specs.Joined.{Joined, CanSee, alone, package_at}
use Rattle.proto_ast.specs.declared.file.Word.{Word}
use Rattle.proto_ast.specs.declared.file.Span.{Span}
use Rattle.proto_ast.specs.declared.file.FieldType.TheVariants.{Named, Map, NestedMap}
use Rattle.proto_ast.specs.declared.file.FieldDecl.{FieldDecl}
use Rattle.proto_ast.specs.declared.file.MessageDecl.{MessageDecl}
use Rattle.proto_ast.specs.declared.file.EnumDecl.{EnumDecl}
use Rattle.proto_ast.specs.declared.file.RpcDecl.{RpcDecl}
use Rattle.proto_ast.specs.declared.file.ServiceDecl.{ServiceDecl}
use Rattle.proto_ast.specs.declared.file.File.{File}
use Rattle.proto_ast.specs.declared.joined.Enclosing.TheVariants as home
use Rattle.schema_symbols.specs.Scopes.{IsScope, DeclKind, is_type, IsDeclarationOf, IsReferenceTo}

-- ---- one file

-- a declaration, in a file alone
abbrev pub message_alone : MessageDecl → MessageDecl
message_alone m = record m { file = 0 }

abbrev pub enum_alone : EnumDecl → EnumDecl
enum_alone e = record e { file = 0 }

abbrev pub service_alone : ServiceDecl → ServiceDecl
service_alone s = record s { file = 0 }

-- The one file has the package of each of the files, their declarations in the same order, and no imports.
pub record IsOneFile (F : Joined) (G : File) : Type 0 where
  pub some : 0 < length F.heads
  pub one_package : All (λ h. option_map (λ w. w.name) h.package ≡ option_map (λ w. w.name) G.package) F.heads
  pub no_imports : G.imports ≡ []
  pub messages : G.messages ≡ map message_alone F.messages
  pub enums : G.enums ≡ map enum_alone F.enums
  pub services : G.services ≡ map service_alone F.services

-- ---- names

-- No type at the top level of a file has the name of a part of the file's package. In a file that doesn't see the
-- type, the name would mean a package.
pub record HasNoTypeNamedAsPart (F : Joined) : Type 0 where
  pub messages : (m : MessageDecl) → Contains F.messages m → m.parent ≡ None
      → Contains (package_at F m.file) m.name.name → ⊥
  pub enums : (e : EnumDecl) → Contains F.enums e → e.parent ≡ None → Contains (package_at F e.file) e.name.name → ⊥

-- the types that a field names
pub data IsFieldReference (f : FieldDecl) : List ℕ → Type 0 where
  its_type : (w : Word) → f.kind ≡ Named w → IsFieldReference f w.name
  its_key : (key value : Word) → f.kind ≡ Map key value → IsFieldReference f key.name
  its_value : (key value : Word) → f.kind ≡ Map key value → IsFieldReference f value.name
  its_outer_key : (key : Word) → f.kind ≡ NestedMap key → IsFieldReference f key.name

-- the types that an rpc names
pub data IsRpcReference (r : RpcDecl) : List ℕ → Type 0 where
  its_input : IsRpcReference r r.input.name
  its_output : IsRpcReference r r.output.name

-- a file refers to a name in a scope: a field in that of its message, an rpc in that of the package
pub data IsReferenceIn (F : Joined) (file : ℕ) (scope : List (List ℕ)) (name : List ℕ) : Type 0 where
  of_field : (i : ℕ) (m : MessageDecl) (f : FieldDecl) → slice_get F.messages i ≡ Some m → m.file ≡ file
      → IsScope F (home.Message i) scope → Contains m.fields f → IsFieldReference f name
      → IsReferenceIn F file scope name
  of_rpc : (s : ServiceDecl) (r : RpcDecl) → Contains F.services s → s.file ≡ file → Contains s.rpcs r
      → scope ≡ package_at F file → IsRpcReference r name → IsReferenceIn F file scope name

-- Each file sees the files that declare the types which its references name in the one file.
pub record CanSeeItsTypes (F : Joined) (G : File) : Type 0 where
  pub sees : (file other : ℕ) (scope full : List (List ℕ)) (name : List ℕ) (sort own : DeclKind) (span : Span)
      → IsReferenceIn F file scope name → IsReferenceTo (alone G) 0 scope name sort full
      → IsDeclarationOf F other own full span
      → is_type own ≡ true → CanSee F file other

-- ---- one package

-- The files are of one package, which reads as this one file.
pub record IsOnePackage (F : Joined) (G : File) : Type 0 where
  pub file : IsOneFile F G
  pub apart : HasNoTypeNamedAsPart F
  pub sees : CanSeeItsTypes F G
