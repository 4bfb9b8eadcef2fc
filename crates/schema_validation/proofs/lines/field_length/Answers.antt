use Rattle.std.proofs.Common.{◌≡◌, ◌∙◌, ◌+◌, ℕ, length, sym, ap, subst}
use Rattle.std.specs.Fmt.{decimal}
use Rattle.proto_ast.specs.Together.{field_decl}
use Rattle.mrpc_table.specs.Capped.{capped}
use Rattle.schema_validation.specs.Lengths.{IsLengthAt}
use Rattle.schema_validation.proofs.LineLengths.{is_kept, sums_three, field_line, no_form, no_number}
use Rattle.schema_validation.proofs.lines.field_length.Goals as goal

pub returns-in_err-form : goal.returns-in_err-form
returns-in_err-form c = λ j fat.
    let F = c.args.scopes.now in
    subst (IsLengthAt F (field_decl c.args.i j) c.args.field.now.name.span) (sym c.from_residual.ensures)
    (no_form F c.args.i j c.args.message.now c.args.field.now c.requires.place fat c.in_err-form.ensures)

pub returns-in_err-number : goal.returns-in_err-number
returns-in_err-number c = λ j fat.
    let F = c.args.scopes.now in
    subst (IsLengthAt F (field_decl c.args.i j) c.args.field.now.name.span) (sym c.from_residual-in_err-number.ensures)
    (no_number F c.args.i j c.args.message.now c.args.field.now c.requires.place fat c.in_err-number.ensures)

pub of_type-requires : goal.of_type-requires
of_type-requires c =
    let scope = c.requires.scope in
    let form = c.in_ok-form.ensures scope.0 scope.1 in
    is_kept c.args.scopes.now c.args.lengths.now c.requires.lengths c.in_ok-form.form.type_of form.word form.of_type

pub returns : goal.returns
returns c = λ j fat.
    let scope = c.requires.scope in
    let form = c.in_ok-form.ensures scope.0 scope.1 in
    field_line c.args.scopes.now c.args.lengths.now c.requires.lengths c.args.i j c.args.message.now c.args.field.now
    scope.0 c.in_ok-form.form c.in_ok-number.number c.label_length.result _ c.requires.place fat scope.1 form
    c.in_ok-number.ensures.0 c.in_ok-number.ensures.1 c.label_length.ensures
    (sums_three _ c.digits-front.result c.label_length.result _ c.len.result _ c.saturating_add.result
    c.saturating_add-2.result c.saturating_add-3.result
    (c.digits-front.ensures.is ∙ ap (λ (n : ℕ). length (decimal n)) c.from.ensures) c.len.ensures
    c.saturating_add.ensures
    (subst (λ (t : ℕ). c.saturating_add-2.result ≡ capped (c.saturating_add.result + t))
    c.of_type.ensures c.saturating_add-2.ensures) c.saturating_add-3.ensures)
