-- Laws of all inputs, and of all paths.
use Rattle.std.specs.Prelude.{◌≡◌, ◌⊎◌, ℕ, List}
use Rattle.proto_set.specs.Bundle.{BundledFile, IsBundle, IsBundleOf}
use Rattle.proto_set.specs.BundleFaults.{IsBundleFault}
use Rattle.proto_set.specs.Paths.{HaveValidPaths, IsFirstRejected}

-- an input is the text of at most one list of files
abbrev pub IsBundleUnique : Type 0
IsBundleUnique = (input : List ℕ) (files others : List BundledFile) → IsBundleOf input files → IsBundleOf input others → files ≡ others

-- no input both is the text of files and has a first file that can't be read
abbrev pub IsNeverBundleAndFault : Type 0
IsNeverBundleAndFault = (input : List ℕ) (files : List BundledFile) (k : ℕ) → IsBundleOf input files → IsBundleFault input k → ⊥

-- an input with the first line is such a text or has a first file that can't be read
abbrev pub IsBundleOrFault : Type 0
IsBundleOrFault = (input : List ℕ) → IsBundle input
    → ((files : List BundledFile) × IsBundleOf input files) ⊎ ((k : ℕ) × IsBundleFault input k)

-- at most one file is the first that can't be read
abbrev pub IsBundleFaultUnique : Type 0
IsBundleFaultUnique = (input : List ℕ) (k j : ℕ) → IsBundleFault input k → IsBundleFault input j → k ≡ j

-- files have valid paths, or one of them is the first whose path is rejected
abbrev pub AreValidOrRejected : Type 0
AreValidOrRejected = (files : List BundledFile) → HaveValidPaths files ⊎ ((place : ℕ) × IsFirstRejected files place)

-- never both
abbrev pub AreNeverValidAndRejected : Type 0
AreNeverValidAndRejected = (files : List BundledFile) (place : ℕ) → HaveValidPaths files → IsFirstRejected files place → ⊥

-- at most one is the first
abbrev pub IsRejectionUnique : Type 0
IsRejectionUnique = (files : List BundledFile) (place other : ℕ) → IsFirstRejected files place → IsFirstRejected files other
    → place ≡ other
