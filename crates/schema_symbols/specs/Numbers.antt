-- Messages and enums by their indices, and scopes by their numbers.
use Rattle.std.specs.Prelude.{◌≡◌, ℕ, ◌+◌, ◌<◌, ◌≤◌, List, [], ◌∷◌, ◌++◌, length, take, sum_by, Some, slice_get, All, Contains}
use Rattle.proto_ast.specs.Joined.{Joined, CanSee, enclosing_of, enclosing_of_enum, package_parts, package_at}
use Rattle.proto_ast.specs.declared.file.Span.{Span}
use Rattle.proto_ast.specs.declared.file.MessageDecl.{MessageDecl}
use Rattle.proto_ast.specs.declared.file.EnumDecl.{EnumDecl}
use Rattle.proto_ast.specs.declared.joined.Head.{Head}
use Rattle.proto_ast.specs.declared.joined.Enclosing.{Enclosing}
use Rattle.proto_ast.specs.declared.joined.Enclosing.TheVariants as home
use Rattle.schema_symbols.specs.Scopes.{IsScope, DeclKind, a_message, an_enum}
use Rattle.schema_symbols.specs.declared.symbol.Symbol.{Symbol}
use Rattle.schema_symbols.specs.declared.symbol.Symbol.TheVariants.{Message, Enum}

-- messages and enums are in files that exist, nested messages in earlier messages, nested enums in messages that
-- exist
pub record AreWellNested (F : Joined) : Type 0 where
  pub messages : (i p : ℕ) (m : MessageDecl) → slice_get F.messages i ≡ Some m → m.parent ≡ Some p → p < i
  pub enums : (e : EnumDecl) (p : ℕ) → Contains F.enums e → e.parent ≡ Some p → p < length F.messages
  pub message_files : All (λ m. m.file < length F.heads) F.messages
  pub enum_files : All (λ e. e.file < length F.heads) F.enums

-- a file or a message that exists
abbrev pub IsEnclosing : Joined → Enclosing → Type 0
IsEnclosing F (home.File k) = k < length F.heads
IsEnclosing F (home.Message i) = i < length F.messages

abbrev pub decl_kind : Symbol → DeclKind
decl_kind (Message i) = a_message
decl_kind (Enum i) = an_enum

-- the message or enum with an index, its full name, and the span of its name
pub data IsSymbolAt (F : Joined) : Symbol → List (List ℕ) → Span → Type 0 where
  message : (i : ℕ) (m : MessageDecl) {outer : List (List ℕ)} → slice_get F.messages i ≡ Some m
      → IsScope F (enclosing_of m) outer → IsSymbolAt F (Message i) (outer ++ m.name.name ∷ []) m.name.span
  enum : (i : ℕ) (e : EnumDecl) {outer : List (List ℕ)} → slice_get F.enums i ≡ Some e
      → IsScope F (enclosing_of_enum e) outer → IsSymbolAt F (Enum i) (outer ++ e.name.name ∷ []) e.name.span

-- the index of its file
pub data IsOfFile (F : Joined) : Symbol → ℕ → Type 0 where
  message_of : (i : ℕ) (m : MessageDecl) → slice_get F.messages i ≡ Some m → IsOfFile F (Message i) m.file
  enum_of : (i : ℕ) (e : EnumDecl) → slice_get F.enums i ≡ Some e → IsOfFile F (Enum i) e.file

-- it is in a file that is visible to a file
pub record IsSeen (F : Joined) (file : ℕ) (named : Symbol) : Type 0 where
  pub other : ℕ
  pub stands_in : IsOfFile F named other
  pub seen : CanSee F file other

-- the first declaration of a full name visible to a file
pub record IsFirstSymbol (F : Joined) (file : ℕ) (named : Symbol) (full : List (List ℕ)) : Type 0 where
  pub span : Span
  pub stands : IsSymbolAt F named full span
  pub seen : IsSeen F file named
  pub first : (other : Symbol) (t : Span) → IsSeen F file other → IsSymbolAt F other full t → span.start ≤ t.start

-- ---- numbers of scopes

-- the number of scopes of a package: the root, and one for each part
abbrev pub prefix_count : Head → ℕ
prefix_count h = length (package_parts h.package) + 1

abbrev pub prefixes_before : Joined → ℕ → ℕ
prefixes_before F file = sum_by prefix_count (take file F.heads)

abbrev pub all_prefix_count : Joined → ℕ
all_prefix_count F = prefixes_before F (length F.heads)

abbrev pub scope_count : Joined → ℕ
scope_count F = all_prefix_count F + length F.messages

-- All scopes in one list: the prefixes of the files' packages, starting with the root, and then the scopes of the
-- messages.
pub data IsListedScope (F : Joined) (k : ℕ) (scope : List (List ℕ)) : Type 0 where
  a_front : (file n : ℕ) → file < length F.heads → n ≤ length (package_at F file) → k ≡ prefixes_before F file + n
      → scope ≡ take n (package_at F file) → IsListedScope F k scope
  a_message_scope : (i : ℕ) → k ≡ all_prefix_count F + i → IsScope F (home.Message i) scope → IsListedScope F k scope

-- The number of a scope: the first index at which its full name is listed. So scopes with the same full name have the
-- same number.
pub record IsScopeNumber (F : Joined) (scope : List (List ℕ)) (k : ℕ) : Type 0 where
  pub listed : IsListedScope F k scope
  pub first : (l : ℕ) → l < k → IsListedScope F l scope → ⊥

-- no two names of messages and enums start at the same offset
pub record HaveDistinctStarts (F : Joined) : Type 0 where
  pub apart : (a b : Symbol) (f g : List (List ℕ)) (s t : Span) → IsSymbolAt F a f s → IsSymbolAt F b g t
      → s.start ≡ t.start → a ≡ b
