-- The table of a set of proto files, and its first fault. The paths must be valid. The files that the first one
-- reaches are resolved together, as if their texts were concatenated.
use Rattle.std.specs.Prelude.{◌≡◌, ℕ, ◌<◌, List, Some, slice_get}
use Rattle.mrpc_table.specs.declared.table.Table.{Table}
use Rattle.proto_set.specs.Bundle.{BundledFile as PackedFile}
use Rattle.proto_set.specs.Paths.{HaveValidPaths, IsFirstRejected}
use Rattle.proto_ast.specs.declared.file.Span.{Span}
use Rattle.proto_ast.specs.declared.file.File.{File}
use Rattle.proto_schema.specs.Faults.{IsProtoTextOf, HasProtoFault as HasTextFault}
use Rattle.proto_grammar.specs.declared.fault.ProtoReason.{ProtoReason}
use Rattle.proto_set.specs.ImportFaults.{HasImportFault as HasImportFault}
use Rattle.proto_set.specs.Reaching.{IsReach}
use Rattle.proto_set.specs.declared.import_fault.ImportReason.{ImportReason}
use Rattle.proto_set.specs.declared.set.ParsedFile.{ParsedFile}
use Rattle.proto_set.specs.declared.set.ImportClosure.{ImportClosure}
use Rattle.proto_set.specs.Joining.{joined, IsInText}
use Rattle.proto_set.specs.declared.linked_file.LinkedFile.{LinkedFile}
use Rattle.schema_validation.specs.Violations.{HasFirstViolation}
use Rattle.schema_validation.specs.declared.reason.ResolveReason.{ResolveReason}
use Rattle.schema_resolve.specs.Resolving.{AreResolvedTogether}
use Rattle.schema_files.specs.Joined.{AreReadAs, AreLinkedFiles}
use Rattle.schema_files.specs.declared.fault.FilesReason.{FilesReason}
use Rattle.schema_files.specs.declared.fault.FilesReason.TheVariants.{Proto, Import, Resolve}
use Rattle.schema_files.specs.declared.fault.FilesFault.{FilesFault}
use Rattle.schema_files.specs.declared.fault.FilesFault.TheVariants as fault

-- the files that the first one reaches are joined as these linked files
pub record AreJoinedAs (files : List PackedFile) (ps : List LinkedFile) : Type 0 where
  pub members : List ParsedFile
  pub reach : ImportClosure
  pub read : AreReadAs files members
  pub reached : IsReach members reach
  pub parts : AreLinkedFiles files members reach ps

-- the files resolve to a table
pub record AreResolvedTo (files : List PackedFile) (T : Table) : Type 0 where
  pub paths : HaveValidPaths files
  pub parts : List LinkedFile
  pub joins : AreJoinedAs files parts
  pub resolves : AreResolvedTogether (joined parts) T

-- a text that reads as a file
abbrev pub CanBeRead : PackedFile → Type 0
CanBeRead f = (F : File) × IsProtoTextOf f.1 F

-- The first fault of the files' contents: its file, its line there and its reason. A text that is not a proto file
-- counts before imports at fault, and these before violations of the joined files.
pub data HasFilesFault (files : List PackedFile) (file line : ℕ) : FilesReason → Type 0 where
  unread : (f : PackedFile) (q : ProtoReason) (s : Span) → slice_get files file ≡ Some f → HasTextFault f.1 q s
      → ((j : ℕ) (g : PackedFile) → j < file → slice_get files j ≡ Some g → CanBeRead g)
      → line ≡ s.line → HasFilesFault files file line (Proto q)
  import_at_fault : (members : List ParsedFile) (q : ImportReason) (s : Span) → AreReadAs files members
      → HasImportFault members q file s → line ≡ s.line → HasFilesFault files file line (Import q)
  unresolved : (ps : List LinkedFile) (q : ResolveReason) (s : Span) (k : ℕ) (joins : AreJoinedAs files ps)
      → HasFirstViolation (joined ps) q s → IsInText ps k s.start → slice_get joins.reach.order k ≡ Some file
      → line ≡ s.line
      → HasFilesFault files file line (Resolve q)

-- The first fault of a set: a rejected path counts before every fault of the files' contents. `Memory` is none.
abbrev pub IsFirstFilesFault : List PackedFile → FilesFault → Type 0
IsFirstFilesFault files (fault.Path file) = IsFirstRejected files file
IsFirstFilesFault files (fault.At file line reason) = HaveValidPaths files × HasFilesFault files file line reason
IsFirstFilesFault files fault.Memory = ⊥

-- what a fault means for a set; `Memory` means nothing
abbrev pub IsFaultOf : List PackedFile → FilesFault → Type 0
IsFaultOf files (fault.Path file) = IsFirstFilesFault files (fault.Path file)
IsFaultOf files (fault.At file line reason) = IsFirstFilesFault files (fault.At file line reason)
IsFaultOf files fault.Memory = Unit {0}
