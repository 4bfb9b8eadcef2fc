-- The files that the root of a set reaches, in the order in which they are resolved, and the files that each of them
-- sees.
use Rattle.std.specs.Prelude.{◌≡◌, ◌≢◌, ◌↔◌, ℕ, ◌<◌, List, ◌∷◌, Some, slice_get, Contains, map}
use Rattle.std.specs.Borrow.{Bor}
use Rattle.std.specs.List.{AllZip}
use Rattle.mrpc_table.specs.Valid.{IsAscendingBy, AreDistinct, IsBelow}
use Rattle.proto_ast.specs.declared.file.Import.{Import}
use Rattle.proto_set.specs.Importing.{HasImport, HasPath, IsImport, IsReachable, IsInCycle, IsVisible}
use Rattle.proto_set.specs.declared.set.ParsedFile.{ParsedFile}
use Rattle.proto_set.specs.declared.set.ImportClosure.{ImportClosure}
use Rattle.proto_set.specs.declared.traversal.VisitState.{VisitState}
use Rattle.proto_set.specs.declared.traversal.VisitState.TheVariants.{Left}

-- no two files have the same path
abbrev pub HaveDistinctPaths : List ParsedFile → Type 0
HaveDistinctPaths set = AreDistinct (map (λ m. m.path) set)

-- the path of file i is less than that of file j
pub record IsPathBelow (set : List ParsedFile) (i j : ℕ) : Type 0 where
  pub lower : List ℕ
  pub upper : List ℕ
  pub lower_at : HasPath set i lower
  pub upper_at : HasPath set j upper
  pub below : IsBelow lower upper

-- the root, then the other files that it reaches by ascending path, each once
pub record IsResolutionOrder (set : List ParsedFile) (order : List ℕ) : Type 0 where
  pub others : List ℕ
  pub root_first : order ≡ 0 ∷ others
  pub ascend : IsAscendingBy (IsPathBelow set) others
  pub reached : (j : ℕ) → Contains order j ↔ IsReachable set 0 j
  pub once : AreDistinct order

-- the files that file i sees, by ascending index
pub record AreVisible (set : List ParsedFile) (i : ℕ) (seen : List ℕ) : Type 0 where
  pub those : (j : ℕ) → Contains seen j ↔ IsVisible set i j
  pub ascend : IsAscendingBy ◌<◌ seen

pub record IsReach (set : List ParsedFile) (reach : ImportClosure) : Type 0 where
  -- each import leads to a file, no two of one file to the same one
  pub led : (i n : ℕ) (x : Import) → HasImport set i n x → (j : ℕ) × IsImport set i n j
  pub apart : (i n m j : ℕ) → IsImport set i n j → IsImport set i m j → n ≡ m
  -- no file that the root reaches is in a cycle
  pub open_ended : (i : ℕ) → IsReachable set 0 i → IsInCycle set i → ⊥
  pub order : IsResolutionOrder set reach.order
  pub sees : AllZip (AreVisible set) reach.order reach.sees

abbrev pub places_in : List (Bor (List ℕ) × ℕ) → List ℕ
places_in pairs = map (λ p. p.1) pairs

-- the finished files except the root, by ascending path
pub record AreOthers (set : List ParsedFile) (marks : List VisitState) (pairs : List (Bor (List ℕ) × ℕ)) : Type 0 where
  pub distinct : AreDistinct (places_in pairs)
  pub those : (i : ℕ) → Contains (places_in pairs) i ↔ ((i ≢ 0) × (slice_get marks i ≡ Some Left))
  pub ascend : IsAscendingBy (IsPathBelow set) (places_in pairs)
