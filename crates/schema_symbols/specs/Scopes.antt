-- Names and scopes (Protocol Buffers, language guide, "Packages and Name Resolution"): the full name of a
-- declaration, and the one that a reference means. A full name is a list of names, the outermost first. A scope is
-- such a list too: the prefix of the full names in it. The scope of a package is the same for all files of that
-- package.
use Rattle.std.specs.Prelude.{◌≡◌, ◌≢◌, ℕ, ◌≤◌, Bool, true, false, List, [], ◌∷◌, ◌++◌, Some, slice_get, Contains}
use Rattle.std.specs.List.{join_with_byte}
use Rattle.mrpc_table.specs.Names.{parts_of}
use Rattle.proto_ast.specs.Dot.{dot}
use Rattle.proto_ast.specs.Joined.{Joined, CanSee, enclosing_of, enclosing_of_enum, package_at}
use Rattle.proto_ast.specs.declared.file.Word.{Word}
use Rattle.proto_ast.specs.declared.file.Span.{Span}
use Rattle.proto_ast.specs.declared.file.FieldDecl.{FieldDecl}
use Rattle.proto_ast.specs.declared.file.MessageDecl.{MessageDecl}
use Rattle.proto_ast.specs.declared.file.ValueDecl.{ValueDecl}
use Rattle.proto_ast.specs.declared.file.EnumDecl.{EnumDecl}
use Rattle.proto_ast.specs.declared.file.ServiceDecl.{ServiceDecl}
use Rattle.proto_ast.specs.declared.joined.Enclosing.{Enclosing}
use Rattle.proto_ast.specs.declared.joined.Enclosing.TheVariants as home

-- the text of a full name
abbrev pub text_of : List (List ℕ) → List ℕ
text_of full = join_with_byte dot full

-- ---- declarations

-- the scope inside the file or the message with this index
pub data IsScope (F : Joined) : Enclosing → List (List ℕ) → Type 0 where
  of_file : (k : ℕ) → IsScope F (home.File k) (package_at F k)
  of_message : (i : ℕ) (m : MessageDecl) {outer : List (List ℕ)} → slice_get F.messages i ≡ Some m
      → IsScope F (enclosing_of m) outer → IsScope F (home.Message i) (outer ++ m.name.name ∷ [])

pub data DeclKind : Type 0 where
  a_message : DeclKind
  an_enum : DeclKind
  no_type : DeclKind

abbrev pub is_type : DeclKind → Bool
is_type a_message = true
is_type an_enum = true
is_type no_type = false

-- The file with an index declares this full name, here. The values of an enum are in the scope that encloses the
-- enum. The rpcs of a service are only in the service's own scope.
pub data IsDeclarationOf (F : Joined) : ℕ → DeclKind → List (List ℕ) → Span → Type 0 where
  message : (m : MessageDecl) {outer : List (List ℕ)} → Contains F.messages m → IsScope F (enclosing_of m) outer
      → IsDeclarationOf F m.file a_message (outer ++ m.name.name ∷ []) m.name.span
  enum : (e : EnumDecl) {outer : List (List ℕ)} → Contains F.enums e → IsScope F (enclosing_of_enum e) outer
      → IsDeclarationOf F e.file an_enum (outer ++ e.name.name ∷ []) e.name.span
  service : (s : ServiceDecl) → Contains F.services s
      → IsDeclarationOf F s.file no_type (package_at F s.file ++ s.name.name ∷ []) s.name.span
  value : (e : EnumDecl) (v : ValueDecl) {outer : List (List ℕ)} → Contains F.enums e → Contains e.values v
      → IsScope F (enclosing_of_enum e) outer → IsDeclarationOf F e.file no_type (outer ++ v.name.name ∷ []) v.name.span
  field : (m : MessageDecl) (f : FieldDecl) {outer : List (List ℕ)} → Contains F.messages m → Contains m.fields f
      → IsScope F (enclosing_of m) outer
      → IsDeclarationOf F m.file no_type (outer ++ m.name.name ∷ f.name.name ∷ []) f.name.span
  oneof : (m : MessageDecl) (o : Word) {outer : List (List ℕ)} → Contains F.messages m → Contains m.oneofs o
      → IsScope F (enclosing_of m) outer → IsDeclarationOf F m.file no_type (outer ++ m.name.name ∷ o.name ∷ []) o.span

-- the package of a file has this full name, or starts with it
pub record IsPackagePrefix (F : Joined) (full : List (List ℕ)) : Type 0 where
  pub file : ℕ
  pub rest : List (List ℕ)
  pub begins : package_at F file ≡ full ++ rest

-- ---- references

-- a type of a visible file, or the package of one, or a prefix of such a package
pub data IsVisibleName (F : Joined) (file : ℕ) (full : List (List ℕ)) : Type 0 where
  a_type : (other : ℕ) (sort : DeclKind) (span : Span) → CanSee F file other → IsDeclarationOf F other sort full span
      → is_type sort ≡ true → IsVisibleName F file full
  a_package : (other : ℕ) (rest : List (List ℕ)) → CanSee F file other → package_at F other ≡ full ++ rest
      → IsVisibleName F file full

-- the innermost scope, from this one outward, that has a visible type or package of a name
pub data IsDecisiveScope (F : Joined) (file : ℕ) (name : List ℕ) : List (List ℕ) → List (List ℕ) → Type 0 where
  here : {scope : List (List ℕ)} → IsVisibleName F file (scope ++ name ∷ []) → IsDecisiveScope F file name scope scope
  outward : (last : List ℕ) {outer scope decisive : List (List ℕ)} → scope ≡ outer ++ last ∷ []
      → (IsVisibleName F file (scope ++ name ∷ []) → ⊥) → IsDecisiveScope F file name outer decisive
      → IsDecisiveScope F file name scope decisive

-- The full name that a reference of a file means in a scope. Only its first part is searched for; after a leading dot
-- it is the full name itself.
pub data IsMeaningOf (F : Joined) (file : ℕ) (scope : List (List ℕ)) : List ℕ → List (List ℕ) → Type 0 where
  absolute : (name : List ℕ) → IsMeaningOf F file scope (dot ∷ name) (parts_of name)
  relative : (name first : List ℕ) {others decisive : List (List ℕ)} → parts_of name ≡ first ∷ others → first ≢ []
      → IsDecisiveScope F file first scope decisive → IsMeaningOf F file scope name (decisive ++ first ∷ others)

-- the declaration of a full name that is visible to a file; if there are several, the first one counts
pub record IsVisibleDeclaration (F : Joined) (file : ℕ) (sort : DeclKind) (full : List (List ℕ)) : Type 0 where
  pub span : Span
  pub other : ℕ
  pub seen : CanSee F file other
  pub declared : IsDeclarationOf F other sort full span
  pub names_type : is_type sort ≡ true
  pub first : (another : ℕ) (its_sort : DeclKind) (t : Span) → CanSee F file another → IsDeclarationOf F another its_sort full t
      → is_type its_sort ≡ true → span.start ≤ t.start

-- in a scope, a reference of a file names a message or an enum of this full name
pub record IsReferenceTo (F : Joined) (file : ℕ) (scope : List (List ℕ)) (name : List ℕ) (sort : DeclKind)
    (full : List (List ℕ)) : Type 0 where
  pub means : IsMeaningOf F file scope name full
  pub finds : IsVisibleDeclaration F file sort full
