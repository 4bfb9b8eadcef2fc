use Rattle.std.proofs.Common.{ℕ}
use Rattle.proto_ast.specs.declared.file.ServiceDecl.{ServiceDecl}
use Rattle.proto_ast.specs.declared.joined.Enclosing.TheVariants as home
use Rattle.schema_validation.specs.Recording.{HasRecorded, IsOfFirst, IsOfElement}
use Rattle.schema_validation.specs.Lengths.{IsLongName}
use Rattle.schema_validation.proofs.lines.Lengths.note_services.Given as goal

-- the long names so far are recorded
abbrev pub invariant-loop-i : goal.invariant-loop-i
invariant-loop-i l =
    HasRecorded (IsOfFirst l.i (IsOfElement l.fn.files.services
    (λ (i : ℕ) (x : ServiceDecl). IsLongName l.fn.self (home.File x.file) x.name))) l.initial.first l.first
