-- The code's own: the names directly below scopes.
use Rattle.std.specs.Prelude.{◌≡◌, ℕ, ◌+◌, ◌<◌, ◌≤◌, ◌==◌, Bool, true, false, List, [], ◌∷◌, ◌++◌, length, take, Some, slice_get, Contains, ◌⊎◌, if◌then◌else◌}
use Rattle.std.specs.Global.{Vec}
use Rattle.std.proofs.Common.{get_or}
use Rattle.proto_ast.specs.Joined.{Joined, package_at}
use Rattle.proto_ast.specs.declared.file.Span.{Span}
use Rattle.proto_ast.specs.declared.joined.Enclosing.TheVariants as home
use Rattle.schema_symbols.specs.Scopes.{IsScope}
use Rattle.schema_symbols.specs.Numbers.{IsScopeNumber, IsSymbolAt}
use Rattle.schema_symbols.specs.declared.symbol.Symbol.{Symbol}
use Rattle.schema_symbols.specs.declared.below.KnownBelow.{KnownBelow}
use Rattle.schema_symbols.specs.declared.below.KnownBelow.TheVariants.{Nothing, One, Several}

abbrev pub with_prefix : KnownBelow → ℕ → KnownBelow
with_prefix Nothing scope = One scope
with_prefix (One other) scope = if other == scope then One other else Several
with_prefix Several scope = Several

abbrev pub is_one : KnownBelow → Bool
is_one Nothing = false
is_one (One scope) = true
is_one Several = false

-- it is known that this prefix is directly below
abbrev pub IsKnownBelow : KnownBelow → ℕ → Type 0
IsKnownBelow Nothing scope = ⊥
IsKnownBelow (One other) scope = other ≡ scope
IsKnownBelow Several scope = Unit {0}

-- at least as much is known
pub record KnowsMore (old new : List KnownBelow) : Type 0 where
  pub same_length : length new ≡ length old
  pub has : (k scope : ℕ) → IsKnownBelow (get_or old k Nothing) scope → IsKnownBelow (get_or new k Nothing) scope
  pub several : (k : ℕ) → get_or old k Nothing ≡ Several → get_or new k Nothing ≡ Several

-- the prefixes of a file's package are recorded, and that it may contain types
pub record KnowsPackage (F : Joined) (file : ℕ) (below : List KnownBelow) : Type 0 where
  pub next : (n k : ℕ) → n < length (package_at F file) → IsScopeNumber F (take n (package_at F file)) k
      → (scope : ℕ) × IsScopeNumber F (take (n + 1) (package_at F file)) scope × IsKnownBelow (get_or below k Nothing) scope
  pub last : (k : ℕ) → IsScopeNumber F (package_at F file) k → get_or below k Nothing ≡ Several

-- it is known what is below each scope
pub record KnowsBelow (F : Joined) (below : List KnownBelow) : Type 0 where
  pub files : (file : ℕ) → file < length F.heads → KnowsPackage F file below
  pub messages : (i k : ℕ) (s : List (List ℕ)) → IsScope F (home.Message i) s → IsScopeNumber F s k
      → get_or below k Nothing ≡ Several

-- below a prefix of a package there is only its next part
pub record HasOnlyNextPart (F : Joined) (file n : ℕ) : Type 0 where
  pub no_types : (named : Symbol) (name : List ℕ) (span : Span)
      → IsSymbolAt F named (take n (package_at F file) ++ name ∷ []) span → ⊥
  pub fronts : (other : ℕ) (name : List ℕ) (rest : List (List ℕ)) → other < length F.heads
      → package_at F other ≡ take n (package_at F file) ++ name ∷ rest → slice_get (package_at F file) n ≡ Some name

-- among the prefixes with at least n parts, those below which there may be more than the package's next part, the
-- longest first
pub record IsBusyFrom (F : Joined) (file n : ℕ) (busy : List ℕ) : Type 0 where
  pub within : (m : ℕ) → Contains busy m → m ≤ length (package_at F file)
  pub above : (j : ℕ) → j < length busy → n ≤ get_or busy j 0
  pub descend : (i j : ℕ) → i < j → j < length busy → get_or busy j 0 < get_or busy i 0
  pub others : (m : ℕ) → n ≤ m → m ≤ length (package_at F file) → Contains busy m ⊎ HasOnlyNextPart F file m

-- the prefixes of a package below which there may be more than its next part, by their number of parts, the longest
-- first
pub record IsBusy (F : Joined) (file : ℕ) (busy : List ℕ) : Type 0 where
  pub within : (n : ℕ) → Contains busy n → n ≤ length (package_at F file)
  pub descend : (i j : ℕ) → i < j → j < length busy → get_or busy j 0 < get_or busy i 0
  pub others : (n : ℕ) → n ≤ length (package_at F file) → Contains busy n ⊎ HasOnlyNextPart F file n

pub record AreBusy (F : Joined) (n : ℕ) (all : List (Vec ℕ)) : Type 0 where
  pub count : length all ≡ n
  pub each : (file : ℕ) (busy : Vec ℕ) → slice_get all file ≡ Some busy → IsBusy F file busy.items
