-- What `check` prints for a proto file or a set of files: the table, or the first fault.
use Rattle.std.specs.Prelude.{ℕ, ◌+◌, List, ◌∷◌, ◌++◌, codes, Option}
use Rattle.std.specs.Fmt.{decimal}
use Rattle.std.specs.Io.KnownBytes.{Appends}
use Rattle.mrpc_table.specs.Text.{table_text}
use Rattle.mrpc_table.specs.declared.table.Table.{Table}
use Rattle.proto_set.specs.Bundle.{BundledFile as PackedFile, IsBundle, IsBundleOf}
use Rattle.proto_set.specs.BundleFaults.{IsBundleFault}
use Rattle.proto_ast.specs.declared.file.File.{File}
use Rattle.proto_ast.specs.declared.file.Span.{Span}
use Rattle.proto_schema.specs.Faults.{IsProtoTextOf, HasProtoFault}
use Rattle.proto_grammar.specs.Reason.{proto_word}
use Rattle.proto_grammar.specs.declared.fault.ProtoReason.{ProtoReason}
use Rattle.schema_validation.specs.Violations.{HasFirstFileViolation}
use Rattle.schema_validation.specs.Reason.{resolve_word}
use Rattle.schema_validation.specs.declared.reason.ResolveReason.{ResolveReason}
use Rattle.schema_resolve.specs.Resolving.{Resolves}
use Rattle.schema_files.specs.Reason.{files_word}
use Rattle.schema_files.specs.Resolving.{AreResolvedTo, IsFirstFilesFault}
use Rattle.schema_files.specs.declared.fault.FilesReason.{FilesReason}
use Rattle.schema_files.specs.declared.fault.FilesFault.TheVariants as files_fault
use Rattle.text_commands.specs.FaultLines.{line_of_fault}
use Rattle.text_commands.specs.declared.check.FaultLocation.{FaultLocation}
use Rattle.text_commands.specs.declared.check.FaultLocation.TheVariants.{Line, InFile, OfFile}
use Rattle.text_commands.specs.declared.check.CheckFault.{CheckFault}
use Rattle.text_commands.specs.declared.check.CheckFault.TheVariants.{At, Memory}

-- the text reads as a proto file, or is a set of files, and resolves to a table
pub data HasDeclaredTable (text : List ℕ) (T : Table) : Type 0 where
  a_file : (F : File) → (IsBundle text → ⊥) → IsProtoTextOf text F → Resolves F T → HasDeclaredTable text T
  a_set : (files : List PackedFile) → IsBundle text → IsBundleOf text files → AreResolvedTo files T
      → HasDeclaredTable text T

-- the location of a fault, as a command prints it
abbrev pub location_text : FaultLocation → List ℕ
location_text (Line n) = decimal n
location_text (InFile file line) = decimal file ++ 58 ∷ decimal line
location_text (OfFile file) = decimal file

-- The first fault of a text, as the command prints it: its location, and a word. In a proto file a token at
-- fault counts before all other faults. Files of a set are numbered from 1.
pub data IsCheckFault (text : List ℕ) : FaultLocation → List ℕ → Type 0 where
  unread : (q : ProtoReason) (s : Span) → (IsBundle text → ⊥) → HasProtoFault text q s
      → IsCheckFault text (Line s.line) (proto_word q)
  unresolved : (F : File) (q : ResolveReason) (s : Span) → (IsBundle text → ⊥) → IsProtoTextOf text F
      → HasFirstFileViolation F q s
      → IsCheckFault text (Line s.line) (resolve_word q)
  no_such_file : (k : ℕ) → IsBundle text → IsBundleFault text k → IsCheckFault text (OfFile k) (codes "Bundle")
  wrong_path : (files : List PackedFile) (file : ℕ) → IsBundle text → IsBundleOf text files
      → IsFirstFilesFault files (files_fault.Path file) → IsCheckFault text (OfFile (file + 1)) (codes "Path")
  in_set : (files : List PackedFile) (file line : ℕ) (q : FilesReason) → IsBundle text → IsBundleOf text files
      → IsFirstFilesFault files (files_fault.At file line q) → IsCheckFault text (InFile (file + 1) line) (files_word q)

-- the code's own: what a fault means for a text; running out of memory means nothing
abbrev pub IsFaultOf : List ℕ → CheckFault → Type 0
IsFaultOf text (At spot word) = IsCheckFault text spot word.now
IsFaultOf text Memory = Unit {0}

-- ---- what the command does

-- a text is a proto file or a set of files, and the text of its table was written
pub record HasCheckedText (text : List ℕ) (out out' : Option (List ℕ)) : Type 0 where
  pub table : Table
  pub checks : HasDeclaredTable text table
  pub written : Appends out out' (table_text table)

-- the line of a fault of a file or of a set of files
abbrev pub location_line : FaultLocation → List ℕ → List ℕ
location_line spot word = line_of_fault (location_text spot) word

-- a text was rejected as a proto file or a set of files: its first fault was written
pub record HasRejectedProto (text : List ℕ) (out out' : Option (List ℕ)) : Type 0 where
  pub spot : FaultLocation
  pub word : List ℕ
  pub fault : IsCheckFault text spot word
  pub written : Appends out out' (location_line spot word)
