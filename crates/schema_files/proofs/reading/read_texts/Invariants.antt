use Rattle.proto_set.specs.Named.{files_of}
use Rattle.schema_files.proofs.TextsRead.{ReadBefore}
use Rattle.schema_files.proofs.reading.read_texts.Given as goal

-- the texts so far were read
abbrev pub invariant-loop-i : goal.invariant-loop-i
invariant-loop-i l = ReadBefore (files_of l.files) l.i l.members.items
