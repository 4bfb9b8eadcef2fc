use Rattle.std.proofs.Common.{◌<◌, ℕ, List, length, subst, sym}
use Rattle.std.proofs.lemmas.Option.{slice_get_within}
use Rattle.mrpc_table.specs.declared.table.Label.{Label}
use Rattle.schema_validation.specs.Types.{HasShape}
use Rattle.schema_resolve.proofs.CleanFiles.{scope_at, message_file}
use Rattle.schema_resolve.proofs.FieldTables.{has_form, has_number}
use Rattle.schema_resolve.proofs.field_table.shape_field.Goals as goal

pub field_shape_of-requires-clause-file : goal.field_shape_of-requires-clause-file
field_shape_of-requires-clause-file c =
    let s = c.requires.stands in
    let P : ℕ → Type 0 = λ k. k < length c.args.scopes.now.heads in
    subst P s.of_file (message_file c.args.scopes.now c.args.place s.message c.requires.formed s.at)

pub field_shape_of-requires-clause-message : goal.field_shape_of-requires-clause-message
field_shape_of-requires-clause-message c =
    slice_get_within c.args.scopes.now.messages c.args.place c.requires.stands.message c.requires.stands.at

pub unreachable-requires : goal.unreachable-requires
unreachable-requires c =
    let F = c.args.scopes.now in
    let s = c.requires.stands in
    let l : c.args.place < length F.messages = slice_get_within F.messages c.args.place s.message s.at in
    let scope = scope_at c.requires.formed c.args.place l in
    has_number F c.args.place s.message scope.0 c.args.decl.now c.requires.clean s.at scope.1 s.field
    c.in_default.ensures

pub unreachable-requires-in_default-field_shape_of : goal.unreachable-requires-in_default-field_shape_of
unreachable-requires-in_default-field_shape_of c =
    let F = c.args.scopes.now in
    let s = c.requires.stands in
    let l : c.args.place < length F.messages = slice_get_within F.messages c.args.place s.message s.at in
    let scope = scope_at c.requires.formed c.args.place l in
    let P : ℕ → Type 0 = λ k. (label : Label) (word : List ℕ) → HasShape F k scope.0 c.args.decl.now label word → ⊥ in
    has_form F c.args.place s.message scope.0 c.args.decl.now c.requires.clean s.at scope.1 s.field
    (subst P (sym s.of_file) (let e = c.in_default-field_shape_of.ensures in e scope.0 scope.1))
