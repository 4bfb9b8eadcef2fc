-- The text of a set of files (this project's own): the line `mrpc-files 1`, and for each file a header line and its
-- bytes. A header line is the word `file`, the path and the number of bytes.
use Rattle.std.specs.Prelude.{◌≡◌, ◌≢◌, ℕ, ◌+◌, ◌≤◌, ◌==◌, if◌then◌else◌, List, [], ◌∷◌, ◌++◌, length, map, All, codes}
use Rattle.std.specs.Int.Digits.{digits_of}
use Rattle.std.specs.List.{flat_map, join_with_byte}
use Rattle.mrpc_table.specs.declared.limits.TheConstants.{MAX_FILES}

-- a file: its path and its bytes
abbrev pub BundledFile : Type 0
BundledFile = List ℕ × List ℕ

abbrev pub paths_of : List BundledFile → List (List ℕ)
paths_of files = map (λ f. f.0) files

-- the decimal digits of a number of any size, without leading zeros
abbrev pub decimal_word : ℕ → List ℕ
decimal_word n = if n == 0 then codes "0" else map (λ d. 48 + d) (digits_of 10 n)

abbrev pub bundle_first_line : List ℕ
bundle_first_line = codes "mrpc-files 1\n"

-- three words separated by single spaces, and a line feed
abbrev pub header_line : List ℕ → ℕ → List ℕ
header_line path size = join_with_byte 32 (codes "file" ∷ path ∷ decimal_word size ∷ []) ++ codes "\n"

abbrev pub file_text : BundledFile → List ℕ
file_text f = header_line f.0 (length f.1) ++ f.1

abbrev pub bundle_text : List BundledFile → List ℕ
bundle_text files = bundle_first_line ++ flat_map file_text files

-- what a path in a header line may be: at least one byte, and neither a space nor a line feed
pub record IsPathWord (word : List ℕ) : Type 0 where
  pub some : word ≢ []
  pub bytes : All (λ c. (c ≢ 32) × (c ≢ 10)) word

-- the input starts with the first line, or is that line without its line feed
pub data IsBundle (input : List ℕ) : Type 0 where
  whole_line : (behind : List ℕ) → input ≡ bundle_first_line ++ behind → IsBundle input
  no_line_feed : input ≡ codes "mrpc-files 1" → IsBundle input

-- the input is the text of these files
pub record IsBundleOf (input : List ℕ) (files : List BundledFile) : Type 0 where
  pub text : input ≡ bundle_text files
  pub words : All IsPathWord (paths_of files)
  pub some : 1 ≤ length files
  pub few : length files ≤ MAX_FILES
