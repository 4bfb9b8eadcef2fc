use Rattle.std.proofs.Common.{◌≡◌, map}
use Rattle.std.specs.Prelude.{Some}
use Rattle.proto_set.specs.declared.set.ParsedFile.{ParsedFile}
use Rattle.schema_files.proofs.linked_files.files_in.Given as goal

-- the files of the members so far
abbrev pub invariant-loop-member : goal.invariant-loop-member
invariant-loop-member l = l.files.items ≡ map (λ (m : ParsedFile). Some m.file) l.yielded
