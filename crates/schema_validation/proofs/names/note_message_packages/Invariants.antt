use Rattle.std.proofs.Common.{ℕ}
use Rattle.proto_ast.specs.declared.file.MessageDecl.{MessageDecl}
use Rattle.proto_ast.specs.Joined.{enclosing_of}
use Rattle.schema_validation.specs.Recording.{HasRecorded, IsOfFirst, IsOfElement}
use Rattle.schema_validation.specs.Entries.{IsPackageNamed}
use Rattle.schema_validation.proofs.names.note_message_packages.Given as goal

-- the messages so far with the name of a package are recorded
abbrev pub invariant-loop-i : goal.invariant-loop-i
invariant-loop-i l =
    HasRecorded (IsOfFirst l.i (IsOfElement l.fn.files.messages
    (λ (i : ℕ) (x : MessageDecl). IsPackageNamed l.fn.files (enclosing_of x) x.name))) l.initial.first l.first
