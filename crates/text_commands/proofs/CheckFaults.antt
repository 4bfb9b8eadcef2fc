-- The meaning of a detected fault for a text.
use Rattle.std.proofs.Common.{◌≡◌, ℕ, ◌+◌, List}
use Rattle.std.specs.Prelude.{codes}
use Rattle.proto_set.specs.Bundle.{BundledFile as PackedFile, IsBundle, IsBundleOf}
use Rattle.proto_set.specs.BundleFaults.{IsBundleFault}
use Rattle.proto_ast.specs.declared.file.File.{File}
use Rattle.proto_ast.specs.declared.file.Span.{Span}
use Rattle.proto_schema.specs.Faults.{IsProtoTextOf, HasProtoFault}
use Rattle.proto_grammar.specs.Reason.{proto_word}
use Rattle.proto_grammar.specs.declared.fault.ProtoReason.{ProtoReason}
use Rattle.schema_validation.specs.Violations.{HasFirstFileViolation}
use Rattle.schema_validation.specs.Reason.{resolve_word}
use Rattle.schema_validation.specs.declared.reason.ResolveReason.{ResolveReason}
use Rattle.schema_files.specs.Reason.{files_word}
use Rattle.schema_files.specs.Resolving.{IsFirstFilesFault}
use Rattle.schema_files.specs.declared.fault.FilesReason.{FilesReason}
use Rattle.schema_files.specs.declared.fault.FilesFault.TheVariants as files_fault
use Rattle.text_commands.specs.Checking.{IsCheckFault}
use Rattle.text_commands.specs.Checking.IsCheckFault.{unread, unresolved, no_such_file, wrong_path, in_set}
use Rattle.text_commands.specs.declared.check.FaultLocation.TheVariants.{Line, InFile, OfFile}

pub text_fault : (text : List ℕ) (q : ProtoReason) (s : Span) (line : ℕ) (word : List ℕ) → (IsBundle text → ⊥)
    → HasProtoFault text q s → line ≡ s.line → word ≡ proto_word q → IsCheckFault text (Line line) word
text_fault text q s line word alone fault e f =
    let first : IsCheckFault text (Line s.line) (proto_word q) = unread q s alone fault in
    rw (e, f) first

pub file_fault : (text : List ℕ) (F : File) (q : ResolveReason) (s : Span) (line : ℕ) (word : List ℕ)
    → (IsBundle text → ⊥) → IsProtoTextOf text F → HasFirstFileViolation F q s → line ≡ s.line → word ≡ resolve_word q
    → IsCheckFault text (Line line) word
file_fault text F q s line word alone reads offence e f =
    let first : IsCheckFault text (Line s.line) (resolve_word q) = unresolved F q s alone reads offence in
    rw (e, f) first

pub fault_in_file : (text : List ℕ) (files : List PackedFile) (i l file line : ℕ) (q : FilesReason) (word : List ℕ)
    → IsBundle text → IsBundleOf text files → IsFirstFilesFault files (files_fault.At i l q) → file ≡ i + 1 → line ≡ l
    → word ≡ files_word q → IsCheckFault text (InFile file line) word
fault_in_file text files i l file line q word set are stands e f g =
    let first : IsCheckFault text (InFile (i + 1) l) (files_word q) = in_set files i l q set are stands in
    rw (e, f, g) first

pub missing_file : (text : List ℕ) (k file : ℕ) → IsBundle text → IsBundleFault text k → file ≡ k
    → IsCheckFault text (OfFile file) (codes "Bundle")
missing_file text k file set stands e =
    let first : IsCheckFault text (OfFile k) (codes "Bundle") = no_such_file k set stands in
    rw e first

pub refused_path : (text : List ℕ) (files : List PackedFile) (i file : ℕ) → IsBundle text → IsBundleOf text files
    → IsFirstFilesFault files (files_fault.Path i) → file ≡ i + 1 → IsCheckFault text (OfFile file) (codes "Path")
refused_path text files i file set are stands e =
    let first : IsCheckFault text (OfFile (i + 1)) (codes "Path") = wrong_path files i set are stands in
    rw e first
