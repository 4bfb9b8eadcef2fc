use Rattle.std.proofs.Common.{◌≡◌, List, refl, sym, ap, ◌∙◌}
use Rattle.std.specs.Prelude.{Some, None, slice_get}
use Rattle.proto_ast.specs.declared.file.Import.{Import}
use Rattle.schema_validation.specs.declared.first.FirstViolation.{FirstViolation}
use Rattle.schema_validation.proofs.Firsts.{meets_import, meets_no_import, file_first_is}
use Rattle.schema_validation.proofs.validate.with_import.Goals as goal

pub returns-in-Some : goal.returns-in-Some
returns-in-Some c =
    let F = c.args.file.now in
    let start : FirstViolation = record { found = c.args.found } in
    let at : slice_get F.imports 0 ≡ Some c.in-Some.import.now =
    sym (c.in-Some.ensures.value ∙ ap (λ (xs : List Import). slice_get xs 0) c.as_slice.ensures) in
    file_first_is F start c.note.new.self c.requires
    (meets_import F c.in-Some.import.now start c.note.new.self at c.note.ensures)

pub returns-in_default : goal.returns-in_default
returns-in_default c =
    let F = c.args.file.now in
    let start : FirstViolation = record { found = c.args.found } in
    let none : slice_get F.imports 0 ≡ None =
    sym (c.in_default.ensures.value ∙ ap (λ (xs : List Import). slice_get xs 0) c.as_slice.ensures) in
    file_first_is F start start c.requires (meets_no_import F start start none refl)
