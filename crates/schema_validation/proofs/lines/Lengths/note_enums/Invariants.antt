use Rattle.std.proofs.Common.{ℕ}
use Rattle.proto_ast.specs.declared.file.EnumDecl.{EnumDecl}
use Rattle.proto_ast.specs.Joined.{enclosing_of_enum}
use Rattle.schema_validation.specs.Recording.{HasRecorded, IsOfFirst, IsOfElement}
use Rattle.schema_validation.specs.Lengths.{IsLongName}
use Rattle.schema_validation.proofs.lines.Lengths.note_enums.Given as goal

-- the long names so far are recorded
abbrev pub invariant-loop-i : goal.invariant-loop-i
invariant-loop-i l =
    HasRecorded (IsOfFirst l.i (IsOfElement l.fn.files.enums
    (λ (i : ℕ) (e : EnumDecl). IsLongName l.fn.self (enclosing_of_enum e) e.name))) l.initial.first l.first
