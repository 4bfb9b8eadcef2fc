-- The words for reasons in the text of faults.
use Rattle.std.specs.Prelude.{ℕ, List}
use Rattle.proto_set.specs.Reason.{import_word}
use Rattle.proto_grammar.specs.Reason.{proto_word}
use Rattle.schema_validation.specs.Reason.{resolve_word}
use Rattle.schema_files.specs.declared.fault.FilesReason.{FilesReason}
use Rattle.schema_files.specs.declared.fault.FilesReason.TheVariants.{Proto, Import, Resolve}

abbrev pub files_word : FilesReason → List ℕ
files_word (Proto q) = proto_word q
files_word (Import q) = import_word q
files_word (Resolve q) = resolve_word q
