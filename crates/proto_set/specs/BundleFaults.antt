-- Where an input that is not a set of files breaks off.
use Rattle.std.specs.Prelude.{◌≡◌, ◌≢◌, ℕ, ◌+◌, ◌<◌, List, [], ◌++◌, codes, length, All}
use Rattle.proto_set.specs.Bundle.{BundledFile, paths_of, header_line, bundle_text, IsPathWord}
use Rattle.mrpc_table.specs.declared.limits.TheConstants.{MAX_FILES}
use Rattle.proto_set.specs.declared.bundle_fault.BundleFault.{BundleFault}
use Rattle.proto_set.specs.declared.bundle_fault.BundleFault.TheVariants.{Bundle, Memory}

-- the bytes start with no header line
abbrev pub HasNoHeader : List ℕ → Type 0
HasNoHeader bytes = (path : List ℕ) (size : ℕ) (behind : List ℕ) → IsPathWord path
    → bytes ≡ header_line path size ++ behind → ⊥

-- the bytes start with a header line, and fewer bytes follow than it states
pub record HasTooFewBytes (bytes : List ℕ) : Type 0 where
  pub path : List ℕ
  pub size : ℕ
  pub behind : List ℕ
  pub word : IsPathWord path
  pub text : bytes ≡ header_line path size ++ behind
  pub fewer : length behind < size

-- Why an input breaks off after these files, given the remainder. The set has no file, or something follows the 64th
-- file. Or the remainder starts with no header line, or fewer bytes follow than its header line states.
pub data IsBreakAfter (files : List BundledFile) (rest : List ℕ) : Type 0 where
  no_file : files ≡ [] → rest ≡ [] → IsBreakAfter files rest
  too_many : length files ≡ MAX_FILES → rest ≢ [] → IsBreakAfter files rest
  no_header : length files < MAX_FILES → rest ≢ [] → HasNoHeader rest → IsBreakAfter files rest
  too_few : length files < MAX_FILES → HasTooFewBytes rest → IsBreakAfter files rest

-- the input breaks off at file k, counted from 1, after the files before it
pub record HasBreakAt (input : List ℕ) (k : ℕ) : Type 0 where
  pub files : List BundledFile
  pub rest : List ℕ
  pub text : input ≡ bundle_text files ++ rest
  pub words : All IsPathWord (paths_of files)
  pub ends : IsBreakAfter files rest
  pub number : k ≡ length files + 1

-- file k, counted from 1, can't be read: the input breaks off there, or lacks the line feed of the first line
pub data IsBundleFault (input : List ℕ) (k : ℕ) : Type 0 where
  breaks_off : HasBreakAt input k → IsBundleFault input k
  no_line_feed : input ≡ codes "mrpc-files 1" → k ≡ 1 → IsBundleFault input k

-- what a fault means for an input; `Memory` means nothing
abbrev pub IsFaultOf : List ℕ → BundleFault → Type 0
IsFaultOf input (Bundle k) = IsBundleFault input k
IsFaultOf input Memory = Unit {0}
