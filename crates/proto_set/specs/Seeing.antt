-- The code's own: the files that are seen so far.
use Rattle.std.specs.Prelude.{◌≡◌, ◌⊎◌, ℕ, ◌+◌, ◌*◌, ◌<◌, ◌≤◌, List, [], ◌∷◌, Bool, true, false, Some, All, slice_get, length, Contains}
use Rattle.proto_set.specs.Importing.{IsImport, IsPublicImport, IsVisible}
use Rattle.proto_set.specs.declared.set.ParsedFile.{ParsedFile}
use Rattle.proto_set.specs.declared.links.ImportLink.{ImportLink}
use Rattle.proto_set.specs.declared.seen.SeenFiles.{SeenFiles}

abbrev pub IsSeenFile : SeenFiles → ℕ → Type 0
IsSeenFile s i = slice_get s.marks.items i ≡ Some true

-- the number of unmarked files
abbrev pub unmarked : List Bool → ℕ
unmarked [] = 0
unmarked (true ∷ bs) = unmarked bs
unmarked (false ∷ bs) = unmarked bs + 1

-- a bound on the remaining work
abbrev pub work_of : SeenFiles → ℕ
work_of s = 2 * unmarked s.marks.items + length s.next.items

-- the files that satisfy P are marked in addition, and the newly marked ones are queued
pub record HasSeenMore (P : ℕ → Type 0) (old new : SeenFiles) : Type 0 where
  pub count : length new.marks.items ≡ length old.marks.items
  pub keeps : (i : ℕ) → IsSeenFile old i → IsSeenFile new i
  pub those : (i : ℕ) → P i → IsSeenFile new i
  pub alone : (i : ℕ) → IsSeenFile new i → IsSeenFile old i ⊎ (P i × Contains new.next.items i)
  pub waits : (i : ℕ) → Contains old.next.items i → Contains new.next.items i
  pub fresh : (i : ℕ) → Contains new.next.items i → Contains old.next.items i ⊎ P i
  pub within : All (λ i. i < length old.marks.items) old.next.items
      → All (λ i. i < length new.marks.items) new.next.items
  pub less : work_of new ≤ work_of old

-- one of some imports leads to a file
abbrev pub IsLinked : List ImportLink → ℕ → Type 0
IsLinked links j = (n : ℕ) × (l : ImportLink) × (slice_get links n ≡ Some l) × (l.file ≡ j)

-- one of the public imports leads to a file
abbrev pub IsLinkedPublicly : List ImportLink → ℕ → Type 0
IsLinkedPublicly links j = (n : ℕ) × (l : ImportLink) × (slice_get links n ≡ Some l) × (l.public ≡ true) × (l.file ≡ j)

-- the files that file i sees are marked, except those only reached by public imports of queued files
pub record IsSeenSoFar (set : List ParsedFile) (i : ℕ) (s : SeenFiles) : Type 0 where
  pub count : length s.marks.items ≡ length set
  pub sound : (j : ℕ) → IsSeenFile s j → IsVisible set i j
  pub start : IsSeenFile s i
  pub imported : (n j : ℕ) → IsImport set i n j → IsSeenFile s j
  pub closed : (j n k : ℕ) → IsSeenFile s j → IsPublicImport set j n k → IsSeenFile s k ⊎ Contains s.next.items j
  pub waiting : (j : ℕ) → Contains s.next.items j → IsVisible set i j
  pub within : All (λ j. j < length set) s.next.items
