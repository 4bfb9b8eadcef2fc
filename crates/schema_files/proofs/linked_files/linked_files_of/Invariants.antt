use Rattle.proto_set.specs.Named.{files_of}
use Rattle.schema_files.proofs.Taken.{TakenSo}
use Rattle.schema_files.proofs.linked_files.linked_files_of.Given as goal

-- the linked files so far, and the remaining contents
abbrev pub invariant-loop-k : goal.invariant-loop-k
invariant-loop-k l = TakenSo (files_of l.files) l.fn.members.items l.fn.reach l.k l.left.items l.parts.items
