use Rattle.std.proofs.Common.{ℕ}
use Rattle.proto_ast.specs.declared.file.EnumDecl.{EnumDecl}
use Rattle.proto_ast.specs.Joined.{enclosing_of_enum}
use Rattle.schema_validation.specs.Recording.{HasRecorded, IsOfFirst, IsOfElement}
use Rattle.schema_validation.specs.Entries.{IsPackageNamed}
use Rattle.schema_validation.proofs.names.note_enum_packages.Given as goal

-- the enums so far with the name of a package are recorded
abbrev pub invariant-loop-i : goal.invariant-loop-i
invariant-loop-i l =
    HasRecorded (IsOfFirst l.i (IsOfElement l.fn.files.enums
    (λ (i : ℕ) (x : EnumDecl). IsPackageNamed l.fn.files (enclosing_of_enum x) x.name))) l.initial.first l.first
