-- The code's own: the header line and the file at the start of bytes, as the parts of the reader find them.
use Rattle.std.specs.Prelude.{◌≡◌, ◌⊎◌, ℕ, List, ◌++◌}
use Rattle.mrpc_table.specs.Lines.{in_64_bits}
use Rattle.mrpc_table.specs.declared.words.Decimal.{Decimal}
use Rattle.proto_set.specs.Bundle.{BundledFile, header_line, file_text, IsPathWord}
use Rattle.proto_set.specs.BundleFaults.{HasNoHeader, HasTooFewBytes}

-- the bytes start with a header line of this path and this count, and these bytes follow
pub record HasHeader (bytes path : List ℕ) (count : Decimal) (behind : List ℕ) : Type 0 where
  pub size : ℕ
  pub counted : count ≡ in_64_bits size
  pub word : IsPathWord path
  pub text : bytes ≡ header_line path size ++ behind

-- the bytes start with this file, and these bytes follow
pub record HasFile (bytes : List ℕ) (file : BundledFile) (behind : List ℕ) : Type 0 where
  pub word : IsPathWord file.0
  pub text : bytes ≡ file_text file ++ behind

-- the bytes start with no file
abbrev pub HasNoFile : List ℕ → Type 0
HasNoFile bytes = HasNoHeader bytes ⊎ HasTooFewBytes bytes
