-- The code's own: the first declarations of names in scopes, one for each file that declares them.
use Rattle.std.specs.Prelude.{◌≡◌, ℕ, ◌<◌, ◌≤◌, false, List, [], ◌∷◌, ◌++◌, Option, Some, None, Contains, ◌⊎◌}
use Rattle.std.specs.Global.{Vec}
use Rattle.proto_ast.specs.Joined.{Joined}
use Rattle.proto_ast.specs.declared.file.Span.{Span}
use Rattle.schema_symbols.specs.Numbers.{IsScopeNumber, IsSymbolAt, IsOfFile}
use Rattle.schema_symbols.specs.Children.{child, same_child}
use Rattle.schema_symbols.specs.declared.symbol.Symbol.{Symbol}
use Rattle.schema_symbols.specs.declared.symbol.Symbol.TheVariants.{Message, Enum}
use Rattle.schema_symbols.specs.declared.symbol.DeclaredType.{DeclaredType}
use Rattle.schema_symbols.specs.declared.types.DeclaredTypes.{DeclaredTypes}

abbrev pub declared_items : Option (Vec DeclaredType) → List DeclaredType
declared_items None = []
declared_items (Some all) = all.items

abbrev pub declared_in : DeclaredTypes → ℕ → List ℕ → List DeclaredType
declared_in types scope name = declared_items (child types.by scope name)

-- a declaration is added: the first one of each file is kept
pub record IsFirstKept (old new : List DeclaredType) (d : DeclaredType) : Type 0 where
  pub among : (x : DeclaredType) → Contains new x → Contains old x ⊎ (x ≡ d)
  pub kept : (x : DeclaredType) → Contains old x → (y : DeclaredType) × Contains new y × (y.file ≡ x.file) × (y.start ≤ x.start)
  pub newest : (y : DeclaredType) × Contains new y × (y.file ≡ d.file) × (y.start ≤ d.start)

-- a declaration of a name in a scope is added
pub record HasAddedType (old new : ℕ → List ℕ → List DeclaredType) (scope : ℕ) (name : List ℕ) (d : DeclaredType) : Type 0 where
  pub its_own : IsFirstKept (old scope name) (new scope name) d
  pub others : (k : ℕ) (other : List ℕ) → same_child scope name k other ≡ false → new k other ≡ old k other

abbrev pub IsAmong : ℕ → ℕ → Symbol → Type 0
IsAmong messages enums (Message i) = i < messages
IsAmong messages enums (Enum i) = i < enums

-- the first declarations among the first messages and enums, by scope and name
pub record KnowsTypes (F : Joined) (messages enums : ℕ) (at : ℕ → List ℕ → List DeclaredType) : Type 0 where
  pub sound : (k : ℕ) (name : List ℕ) (d : DeclaredType) → Contains (at k name) d
      → (s : List (List ℕ)) × (span : Span) × IsScopeNumber F s k × IsSymbolAt F d.named (s ++ name ∷ []) span
      × (d.start ≡ span.start) × IsOfFile F d.named d.file
  pub whole : (named : Symbol) (s : List (List ℕ)) (name : List ℕ) (span : Span) (k file : ℕ)
      → IsAmong messages enums named → IsSymbolAt F named (s ++ name ∷ []) span → IsOfFile F named file → IsScopeNumber F s k
      → (d : DeclaredType) × Contains (at k name) d × (d.file ≡ file) × (d.start ≤ span.start)
