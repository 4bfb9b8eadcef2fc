-- A depth-first visit of the files of a set, in the order of import statements.
use Rattle.std.specs.Prelude.{ℕ, ◌+◌, List, [], ◌∷◌, ◌++◌, Contains}
use Rattle.proto_ast.specs.declared.file.Import.{Import}
use Rattle.proto_set.specs.Importing.{HasImport, IsImport}
use Rattle.proto_set.specs.declared.set.ParsedFile.{ParsedFile}

-- file i has no n-th import
abbrev pub HasNoImport : List ParsedFile → ℕ → ℕ → Type 0
HasNoImport set i n = (x : Import) → HasImport set i n x → ⊥

-- a file that is neither being visited nor finished
pub record IsUnvisited (visiting left : List ℕ) (j : ℕ) : Type 0 where
  pub unvisited : Contains visiting j → ⊥
  pub unleft : Contains left j → ⊥

-- the outcome of visiting a file
pub data TraversalOutcome : Type 0 where
  -- its visit finishes; these files are finished by then, the latest first
  leaves : List ℕ → TraversalOutcome
  -- the n-th import of file i closes a cycle
  at_cycle : (i n : ℕ) → TraversalOutcome

-- The visit of file i from its n-th import on has this outcome. The files in the first list are being visited around
-- it, the innermost last, and those in the second list are finished.
pub data IsVisit (set : List ParsedFile) : List ℕ → List ℕ → ℕ → ℕ → TraversalOutcome → Type 0 where
  -- there is no further import, so the file is finished
  ends : {within left : List ℕ} {i n : ℕ} → HasNoImport set i n → IsVisit set within left i n (leaves (i ∷ left))
  -- the import leads to a file that is being visited, possibly the file itself: a cycle
  closes : {within left : List ℕ} {i n j : ℕ} → IsImport set i n j → Contains (within ++ i ∷ []) j
      → IsVisit set within left i n (at_cycle i n)
  -- it leads to a finished file: the next import follows
  passes : {within left : List ℕ} {i n j : ℕ} {outcome : TraversalOutcome} → IsImport set i n j → Contains left j
      → IsVisit set within left i (n + 1) outcome → IsVisit set within left i n outcome
  -- it leads to a new file, whose visit finishes: the next import follows
  enters : {within left after : List ℕ} {i n j : ℕ} {outcome : TraversalOutcome} → IsImport set i n j
      → IsUnvisited (within ++ i ∷ []) left j → IsVisit set (within ++ i ∷ []) left j 0 (leaves after)
      → IsVisit set within after i (n + 1) outcome → IsVisit set within left i n outcome
  -- it leads to a new file, whose visit finds a cycle
  meets : {within left : List ℕ} {i n j k m : ℕ} → IsImport set i n j → IsUnvisited (within ++ i ∷ []) left j
      → IsVisit set (within ++ i ∷ []) left j 0 (at_cycle k m) → IsVisit set within left i n (at_cycle k m)

-- the outcome of visiting the root
abbrev pub IsRootVisit : List ParsedFile → TraversalOutcome → Type 0
IsRootVisit set outcome = IsVisit set [] [] 0 0 outcome
