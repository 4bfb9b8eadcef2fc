use Rattle.std.proofs.Common.{ℕ}
use Rattle.proto_ast.specs.declared.file.MessageDecl.{MessageDecl}
use Rattle.proto_ast.specs.Joined.{enclosing_of}
use Rattle.schema_validation.specs.Recording.{HasRecorded, IsOfFirst, IsOfElement}
use Rattle.schema_validation.specs.Lengths.{IsLongName}
use Rattle.schema_validation.proofs.lines.Lengths.note_messages.Given as goal

-- the long names so far are recorded
abbrev pub invariant-loop-i : goal.invariant-loop-i
invariant-loop-i l =
    HasRecorded (IsOfFirst l.i (IsOfElement l.fn.files.messages
    (λ (i : ℕ) (m : MessageDecl). IsLongName l.fn.self (enclosing_of m) m.name))) l.initial.first l.first
