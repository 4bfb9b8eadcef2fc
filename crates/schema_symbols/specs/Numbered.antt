-- The code's own: the numbers of the scopes listed so far, and the packages of the files so far.
use Rattle.std.specs.Prelude.{◌≡◌, ℕ, ◌+◌, ◌<◌, ◌≤◌, List, [], ◌∷◌, ◌++◌, length, Option, Some, None, slice_get}
use Rattle.std.proofs.Common.{get_or}
use Rattle.proto_ast.specs.Joined.{Joined, package_at}
use Rattle.proto_ast.specs.declared.joined.Enclosing.{Enclosing}
use Rattle.proto_ast.specs.declared.joined.Enclosing.TheVariants as home
use Rattle.schema_symbols.specs.Numbers.{IsListedScope, IsScopeNumber, prefixes_before}
use Rattle.schema_symbols.specs.Children.{child}
use Rattle.schema_symbols.specs.Parts.{KnowsLastIndices, values_of}
use Rattle.schema_symbols.specs.declared.numbering.Numbering.{Numbering}
use Rattle.schema_symbols.specs.declared.numbering.Package.{Package}

-- the first listed scopes have these numbers
pub record AreNumbers (F : Joined) (numbers : List ℕ) : Type 0 where
  pub each : (place : ℕ) (s : List (List ℕ)) → place < length numbers → IsListedScope F place s
      → IsScopeNumber F s (get_or numbers place 0)

-- the numbers of the first n listed scopes, by the number of the enclosing scope and the name in it
pub record KnowsScopes (F : Joined) (n : ℕ) (at : ℕ → List ℕ → Option ℕ) : Type 0 where
  pub sound : (k : ℕ) (name : List ℕ) (v : ℕ) → at k name ≡ Some v
      → (s : List (List ℕ)) × IsScopeNumber F s k × IsScopeNumber F (s ++ name ∷ []) v
  pub whole : (place : ℕ) (s : List (List ℕ)) (name : List ℕ) (k : ℕ) → place < n
      → IsListedScope F place (s ++ name ∷ []) → IsScopeNumber F s k → (v : ℕ) × (at k name ≡ Some v)

-- the first n listed scopes are numbered
pub record HasNumberedScopes (F : Joined) (n : ℕ) (x : Numbering) : Type 0 where
  pub count : length x.numbers.items ≡ n
  pub numbers : AreNumbers F x.numbers.items
  pub inner : KnowsScopes F n (child x.inner)

-- the numbers of parts of the prefixes among the first n listed scopes
pub record AreDepths (F : Joined) (n : ℕ) (depths : List ℕ) : Type 0 where
  pub count : length depths ≡ n
  pub each : (file depth : ℕ) → file < length F.heads → depth ≤ length (package_at F file)
      → prefixes_before F file + depth < n → get_or depths (prefixes_before F file + depth) 0 ≡ depth

-- the data stored for the package of a file
pub record IsPackage (F : Joined) (file : ℕ) (p : Package) : Type 0 where
  pub its_parts : values_of p.parts.items ≡ package_at F file
  pub last : KnowsLastIndices (package_at F file) p.last_places
  pub starts : p.start ≡ prefixes_before F file
  pub its_number : IsScopeNumber F (package_at F file) p.number

-- the packages of the first n files
pub record ArePackages (F : Joined) (n : ℕ) (packages : List Package) : Type 0 where
  pub count : length packages ≡ n
  pub each : (file : ℕ) (p : Package) → slice_get packages file ≡ Some p → IsPackage F file p

-- the stored number of the scope inside a file or a message
abbrev pub package_number : Option Package → ℕ
package_number None = 0
package_number (Some p) = p.number

abbrev pub scope_number_of : List Package → ℕ → List ℕ → Enclosing → ℕ
scope_number_of packages fronts numbers (home.File k) = package_number (slice_get packages k)
scope_number_of packages fronts numbers (home.Message i) = get_or numbers (fronts + i) 0

abbrev pub HasScopeNumber : List Package → ℕ → List ℕ → Enclosing → Type 0
HasScopeNumber packages fronts numbers (home.File k) = k < length packages
HasScopeNumber packages fronts numbers (home.Message i) = fronts + i < length numbers
