-- The code's own: the longest prefix of a package that has a name.
use Rattle.std.specs.Prelude.{◌≡◌, ℕ, ◌+◌, ◌<◌, ◌≤◌, List, [], ◌∷◌, ◌++◌, length, take, Option, Some, None, slice_get, Contains, MatchOption, nat_le, max, if◌then◌else◌}
use Rattle.proto_ast.specs.Joined.{Joined, CanSee, package_at}
use Rattle.proto_ast.specs.declared.joined.Enclosing.{Enclosing}
use Rattle.proto_ast.specs.declared.joined.Enclosing.TheVariants as home
use Rattle.schema_symbols.specs.Scopes.{IsScope, IsVisibleName, IsDecisiveScope}
use Rattle.schema_symbols.specs.PackagePrefixes.{CanSeePrefix}
use Rattle.schema_symbols.specs.declared.symbol.DeclaredType.{DeclaredType}

-- the largest number that satisfies P, or none
abbrev pub IsDeepest : (ℕ → Type 0) → Option ℕ → Type 0
IsDeepest P answer = MatchOption answer ((n : ℕ) → P n → ⊥) (λ n. P n × ((m : ℕ) → n < m → P m → ⊥))

-- the prefix with n parts has a type or a package of a name
pub record IsVisibleNameAt (F : Joined) (file its_file : ℕ) (name : List ℕ) (n : ℕ) : Type 0 where
  pub within : n ≤ length (package_at F its_file)
  pub there : IsVisibleName F file (take n (package_at F its_file) ++ name ∷ [])

-- the name is the next part of the package, and the file sees a package with that prefix
pub record IsNextPartAt (F : Joined) (file its_file : ℕ) (name : List ℕ) (n : ℕ) : Type 0 where
  pub its_part : slice_get (package_at F its_file) n ≡ Some name
  pub seen : CanSeePrefix F file (take n (package_at F its_file) ++ name ∷ [])

-- if a longer prefix has the name, the name is the package's next part there
abbrev pub IsDeepestBusy : Joined → ℕ → ℕ → List ℕ → Option ℕ → Type 0
IsDeepestBusy F file its_file name answer =
    MatchOption answer ((m : ℕ) → IsVisibleNameAt F file its_file name m → IsNextPartAt F file its_file name m)
    (λ n. IsVisibleNameAt F file its_file name n
    × ((m : ℕ) → n < m → IsVisibleNameAt F file its_file name m → IsNextPartAt F file its_file name m))

-- among some declarations, the first one in a file that is visible to a file
abbrev pub IsFirstVisible : Joined → ℕ → List DeclaredType → Option DeclaredType → Type 0
IsFirstVisible F file all answer =
    MatchOption answer ((d : DeclaredType) → Contains all d → CanSee F file d.file → ⊥)
    (λ first. Contains all first × CanSee F file first.file
    × ((d : DeclaredType) → Contains all d → CanSee F file d.file → first.start ≤ d.start))

-- the one of two declarations that starts first
abbrev pub earlier_of : Option DeclaredType → DeclaredType → DeclaredType
earlier_of None d = d
earlier_of (Some other) d = if nat_le other.start d.start then other else d

abbrev pub larger_of : Option ℕ → Option ℕ → Option ℕ
larger_of None right = right
larger_of (Some n) None = Some n
larger_of (Some n) (Some m) = Some (max n m)

-- from a scope outward, no scope before this one has the name
pub record IsReachedOutward (F : Joined) (file : ℕ) (name : List ℕ) (scope : List (List ℕ)) (place : Enclosing) : Type 0 where
  pub reached : List (List ℕ)
  pub stands : IsScope F place reached
  pub outward : (decisive : List (List ℕ)) → IsDecisiveScope F file name reached decisive → IsDecisiveScope F file name scope decisive
  pub inward : (decisive : List (List ℕ)) → IsDecisiveScope F file name scope decisive → IsDecisiveScope F file name reached decisive

abbrev pub enclosing_rank : Enclosing → ℕ
enclosing_rank (home.File k) = 0
enclosing_rank (home.Message i) = i + 1
