-- The code's own: what a fault means for one text of a set, and for the contents of a set.
use Rattle.std.specs.Prelude.{◌≡◌, ℕ, List}
use Rattle.proto_set.specs.Bundle.{BundledFile as PackedFile}
use Rattle.proto_ast.specs.declared.file.Span.{Span}
use Rattle.proto_schema.specs.Faults.{HasProtoFault as HasTextFault}
use Rattle.proto_grammar.specs.declared.fault.ProtoReason.{ProtoReason}
use Rattle.schema_files.specs.Resolving.{HasFilesFault}
use Rattle.schema_files.specs.declared.fault.FilesReason.{FilesReason}
use Rattle.schema_files.specs.declared.fault.FilesReason.TheVariants.{Proto}
use Rattle.schema_files.specs.declared.fault.FilesFault.{FilesFault}
use Rattle.schema_files.specs.declared.fault.FilesFault.TheVariants as fault

-- the first fault of the file's text is in this line and has this reason
pub data HasUnread (f : PackedFile) (line : ℕ) : FilesReason → Type 0 where
  unread_text : (q : ProtoReason) (s : Span) → HasTextFault f.1 q s → line ≡ s.line → HasUnread f line (Proto q)

-- what a fault means for the file with an index; `Memory` means nothing
abbrev pub IsUnread : PackedFile → ℕ → FilesFault → Type 0
IsUnread f place (fault.At file line reason) = (file ≡ place) × HasUnread f line reason
IsUnread f place (fault.Path file) = ⊥
IsUnread f place fault.Memory = Unit {0}

-- what a fault means for files with valid paths
abbrev pub IsContentFault : List PackedFile → FilesFault → Type 0
IsContentFault files (fault.At file line reason) = HasFilesFault files file line reason
IsContentFault files (fault.Path file) = ⊥
IsContentFault files fault.Memory = Unit {0}
