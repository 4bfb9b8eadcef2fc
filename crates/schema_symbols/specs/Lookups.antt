-- The result of a look-up.
use Rattle.std.specs.Prelude.{ℕ, List, Option, MatchOption}
use Rattle.proto_ast.specs.Joined.{Joined}
use Rattle.proto_ast.specs.declared.file.Span.{Span}
use Rattle.schema_symbols.specs.Scopes.{DeclKind, IsReferenceTo}
use Rattle.schema_symbols.specs.Numbers.{IsSymbolAt, decl_kind, IsSeen, IsFirstSymbol}
use Rattle.schema_symbols.specs.declared.symbol.Symbol.{Symbol}

-- a reference of a file names no message and no enum
abbrev pub IsUnresolved : Joined → ℕ → List (List ℕ) → List ℕ → Type 0
IsUnresolved F file scope name = (sort : DeclKind) (full : List (List ℕ)) → IsReferenceTo F file scope name sort full → ⊥

-- the code's own: no message or enum visible to a file has this full name
abbrev pub HasNoType : Joined → ℕ → List (List ℕ) → Type 0
HasNoType F file full = (named : Symbol) (span : Span) → IsSeen F file named → IsSymbolAt F named full span → ⊥

-- the result is the first message or enum that a reference of a file names in a scope
abbrev pub IsLookupResult : Joined → ℕ → List (List ℕ) → List ℕ → Option Symbol → Type 0
IsLookupResult F file scope name answer =
    MatchOption answer (IsUnresolved F file scope name)
    (λ named. (full : List (List ℕ)) × IsReferenceTo F file scope name (decl_kind named) full × IsFirstSymbol F file named full)
