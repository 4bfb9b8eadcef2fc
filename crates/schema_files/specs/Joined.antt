-- The contents of the files of a set, and the files that its first one reaches, as they are joined.
use Rattle.std.specs.Prelude.{◌≡◌, ℕ, List, length, Some, slice_get}
use Rattle.std.specs.List.{AllZip}
use Rattle.proto_set.specs.Bundle.{BundledFile as PackedFile}
use Rattle.proto_schema.specs.Faults.{IsProtoTextOf}
use Rattle.proto_set.specs.declared.set.ParsedFile.{ParsedFile}
use Rattle.proto_set.specs.declared.set.ImportClosure.{ImportClosure}
use Rattle.proto_set.specs.declared.linked_file.LinkedFile.{LinkedFile}

-- the text of a file reads as the contents of a member of the set
pub record IsReadAs (f : PackedFile) (m : ParsedFile) : Type 0 where
  pub path : m.path ≡ f.0
  pub text : IsProtoTextOf f.1 m.file

abbrev pub AreReadAs : List PackedFile → List ParsedFile → Type 0
AreReadAs files members = AllZip IsReadAs files members

-- this file has this index in the joined order
abbrev pub IsAtIndex : List ℕ → ℕ → ℕ → Type 0
IsAtIndex order file place = slice_get order place ≡ Some file

-- the file with an index in the joined order: its declarations, the files that it sees by joined indices, and the
-- size of its text
pub record IsLinkedFile (files : List PackedFile) (members : List ParsedFile) (reach : ImportClosure) (k : ℕ)
    (p : LinkedFile) : Type 0 where
  pub i : ℕ
  pub packed : PackedFile
  pub member : ParsedFile
  pub seen : List ℕ
  pub at : IsAtIndex reach.order i k
  pub packed_at : slice_get files i ≡ Some packed
  pub member_at : slice_get members i ≡ Some member
  pub seen_at : slice_get reach.sees k ≡ Some seen
  pub says : p.file ≡ member.file
  pub sees : AllZip (IsAtIndex reach.order) seen p.sees
  pub size : p.size ≡ length packed.1

-- all files in the joined order
pub record AreLinkedFiles (files : List PackedFile) (members : List ParsedFile) (reach : ImportClosure)
    (ps : List LinkedFile) : Type 0 where
  pub count : length ps ≡ length reach.order
  pub each : (k : ℕ) (p : LinkedFile) → slice_get ps k ≡ Some p → IsLinkedFile files members reach k p
