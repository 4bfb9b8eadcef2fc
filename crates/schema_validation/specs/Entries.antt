-- The code's own: the names that files declare, each with the number of its scope. Here the methods of a service are
-- in a scope of their own, whose number comes after those of all other scopes.
use Rattle.std.specs.Prelude.{◌≡◌, ◌⊎◌, ◌↔◌, ℕ, ◌+◌, ◌<◌, List, [], ◌∷◌, ◌++◌, map, length, Option, Some, slice_get, Contains}
use Rattle.std.specs.Ordering.{nat_cmp, ordering_then}
use Rattle.std.specs.Cmp.Lexicographic.{slice_cmp}
use Rattle.std.specs.BTreeMap.{get_by}
use Rattle.proto_ast.specs.declared.file.Span.{Span}
use Rattle.proto_ast.specs.declared.file.Word.{Word}
use Rattle.proto_ast.specs.declared.file.FieldDecl.{FieldDecl}
use Rattle.proto_ast.specs.declared.file.MessageDecl.{MessageDecl}
use Rattle.proto_ast.specs.declared.file.ValueDecl.{ValueDecl}
use Rattle.proto_ast.specs.declared.file.EnumDecl.{EnumDecl}
use Rattle.proto_ast.specs.declared.file.RpcDecl.{RpcDecl}
use Rattle.proto_ast.specs.declared.file.ServiceDecl.{ServiceDecl}
use Rattle.proto_ast.specs.Joined.{Joined, enclosing_of, enclosing_of_enum}
use Rattle.proto_ast.specs.declared.joined.Enclosing.{Enclosing}
use Rattle.proto_ast.specs.declared.joined.Enclosing.TheVariants as home
use Rattle.schema_symbols.specs.Scopes.{IsScope, IsPackagePrefix}
use Rattle.schema_symbols.specs.Numbers.{IsScopeNumber, scope_count}
use Rattle.schema_validation.specs.Members.{Is}
use Rattle.schema_validation.specs.declared.reason.ResolveReason.{ResolveReason}
use Rattle.schema_validation.specs.declared.reason.ResolveReason.TheVariants.{DuplicateName}
use Rattle.schema_validation.specs.declared.names.DeclaredName.{DeclaredName}
use Rattle.schema_validation.specs.declared.names.Starts.{Starts}

-- a name in the scope with a number, and its span
pub record NameEntry : Type 0 where
  pub scope : ℕ
  pub name : List ℕ
  pub span : Span

abbrev pub name_entry : ℕ → Word → NameEntry
name_entry scope w = record { scope = scope; name = w.name; span = w.span }

abbrev pub name_entry_of : DeclaredName → NameEntry
name_entry_of d = record { scope = d.scope; name = d.name.now; span = d.span }

abbrev pub entries_of : List DeclaredName → List NameEntry
entries_of names = map name_entry_of names

-- ---- what files declare

-- the scope inside a file or a message has this number
pub record HasNumber (F : Joined) (place : Enclosing) (k : ℕ) : Type 0 where
  pub full : List (List ℕ)
  pub is_scope : IsScope F place full
  pub number : IsScopeNumber F full k

-- for each of the first n items of a list, the enclosing scope has a number
abbrev pub HaveNumbers : {X : Type 0} → Joined → ℕ → List X → (X → Enclosing) → Type 0
HaveNumbers {X} F n xs stands_in =
    (i : ℕ) (x : X) → i < n → slice_get xs i ≡ Some x → (k : ℕ) × HasNumber F (stands_in x) k

-- the scopes of the first n messages have numbers
abbrev pub HaveOwnNumbers : Joined → ℕ → Type 0
HaveOwnNumbers F n = (i : ℕ) → i < n → (k : ℕ) × HasNumber F (home.Message i) k

-- a message, and its fields and oneofs
pub data IsEntryOfMessage (F : Joined) (i : ℕ) (m : MessageDecl) : NameEntry → Type 0 where
  message : (k : ℕ) → HasNumber F (enclosing_of m) k → IsEntryOfMessage F i m (name_entry k m.name)
  field : (k : ℕ) (f : FieldDecl) → HasNumber F (home.Message i) k → Contains m.fields f
      → IsEntryOfMessage F i m (name_entry k f.name)
  oneof : (k : ℕ) (o : Word) → HasNumber F (home.Message i) k → Contains m.oneofs o → IsEntryOfMessage F i m (name_entry k o)

-- an enum, and its values in the same scope
pub data IsEntryOfEnum (F : Joined) (i : ℕ) (e : EnumDecl) : NameEntry → Type 0 where
  enum : (k : ℕ) → HasNumber F (enclosing_of_enum e) k → IsEntryOfEnum F i e (name_entry k e.name)
  value : (k : ℕ) (v : ValueDecl) → HasNumber F (enclosing_of_enum e) k → Contains e.values v → IsEntryOfEnum F i e (name_entry k v.name)

-- a service, and its methods
pub data IsEntryOfService (F : Joined) (i : ℕ) (s : ServiceDecl) : NameEntry → Type 0 where
  service : (k : ℕ) → HasNumber F (home.File s.file) k → IsEntryOfService F i s (name_entry k s.name)
  rpc : (r : RpcDecl) → Contains s.rpcs r → IsEntryOfService F i s (name_entry (scope_count F + i) r.name)

-- an entry of one of the first n items of a list
pub record IsEntryOfFirst {X : Type 0} (n : ℕ) (xs : List X) (of : ℕ → X → NameEntry → Type 0) (e : NameEntry) : Type 0 where
  pub place : ℕ
  pub thing : X
  pub below : place < n
  pub at : slice_get xs place ≡ Some thing
  pub is : of place thing e

abbrev pub IsEntryOfAny : {X : Type 0} → List X → (ℕ → X → NameEntry → Type 0) → NameEntry → Type 0
IsEntryOfAny xs of e = IsEntryOfFirst (length xs) xs of e

-- the new entries are the old ones and further ones
pub record HasAddedEntries (more : NameEntry → Type 0) (old new : List NameEntry) : Type 0 where
  pub one : (e : NameEntry) → Contains new e → Contains old e ⊎ more e
  pub each : (e : NameEntry) → Contains old e ⊎ more e → Contains new e

-- ---- duplicate entries

-- an entry of this name starts before an offset
pub record HasEarlierStart (es : List NameEntry) (scope : ℕ) (name : List ℕ) (place : ℕ) : Type 0 where
  pub earlier : NameEntry
  pub among : Contains es earlier
  pub in_scope : earlier.scope ≡ scope
  pub named : earlier.name ≡ name
  pub before : earlier.span.start < place

abbrev pub start_in : Starts → ℕ → List ℕ → Option ℕ
start_in s scope name =
    get_by (λ key. ordering_then (nat_cmp scope key.0) (slice_cmp nat_cmp name key.1.now)) s.by

-- the first occurrence of a name is before an offset
pub record IsEarlierThan (known : Option ℕ) (place : ℕ) : Type 0 where
  pub first : ℕ
  pub is : known ≡ Some first
  pub before : first < place

abbrev pub AreStarts : List NameEntry → Starts → Type 0
AreStarts es s = (scope : ℕ) (name : List ℕ) (place : ℕ)
    → IsEarlierThan (start_in s scope name) place ↔ HasEarlierStart es scope name place

-- an entry of the same name starts before this one: a duplicate name
abbrev pub IsRedeclared : List NameEntry → ℕ → NameEntry → ResolveReason → Span → Type 0
IsRedeclared es i e q s = HasEarlierStart es e.scope e.name e.span.start × Is DuplicateName e.span q s

-- a declaration with this name in this scope is also a package, or a prefix of one
pub record IsPackageNamed (F : Joined) (place : Enclosing) (w : Word) (q : ResolveReason) (s : Span) : Type 0 where
  pub scope : List (List ℕ)
  pub is_scope : IsScope F place scope
  pub front : IsPackagePrefix F (scope ++ w.name ∷ [])
  pub is : Is DuplicateName w.span q s
