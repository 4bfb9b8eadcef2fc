-- A field has a shape if its types are known and it isn't a misplaced map.
use Rattle.std.proofs.Common.{ℕ, List, sym, ◌∙◌, subst}
use Rattle.std.specs.Prelude.{Option, MatchOption}
use Rattle.std.proofs.lemmas.Bool.{false≢true}
use Rattle.mrpc_table.specs.declared.table.Label.{Label}
use Rattle.schema_validation.specs.Types.{HasShape}
use Rattle.schema_validation.specs.Shapes.{IsShape}
use Rattle.schema_validation.specs.declared.types.FieldShape.{FieldShape}
use Rattle.schema_validation.proofs.FieldForms.{no_single, no_value, single_form, map_form}
use Rattle.schema_validation.proofs.types.field_shape_of.Goals as goal

pub returns-in_err-type_of-in-Named : goal.returns-in_err-type_of-in-Named
returns-in_err-type_of-in-Named c = λ scope is.
    let none = c.in_err-type_of-in-Named.ensures scope is in
    subst
    (λ (r : Option FieldShape). MatchOption r
    ((label : Label) (word : List ℕ) → HasShape c.args.scopes.now c.args.file scope c.args.field.now label word → ⊥)
    (IsShape c.args.scopes.now c.args.file scope c.args.field.now)) (sym c.from_residual.ensures)
    (no_single c.args.scopes.now c.args.file scope c.args.field.now c.in-Named.word c.in-Named.is none.0 none.1)

pub returns-in_err-type_of-in-Map : goal.returns-in_err-type_of-in-Map
returns-in_err-type_of-in-Map c = λ scope is.
    let none = c.in_err-type_of-in-Map.ensures scope is in
    subst
    (λ (r : Option FieldShape). MatchOption r
    ((label : Label) (word : List ℕ) → HasShape c.args.scopes.now c.args.file scope c.args.field.now label word → ⊥)
    (IsShape c.args.scopes.now c.args.file scope c.args.field.now)) (sym c.from_residual-in_err-type_of-in-Map.ensures)
    (no_value c.args.scopes.now c.args.file scope c.args.field.now c.in-Map.key c.in-Map.value c.in-Map.is none.0
    none.1)

pub returns-in_ok-type_of-in-Named : goal.returns-in_ok-type_of-in-Named
returns-in_ok-type_of-in-Named c = λ scope is.
    single_form c.args.scopes.now c.args.file scope c.args.field.now c.in-Named.word c.in_ok-type_of-in-Named.type_of
    c.single_label.result c.in-Named.is (c.in_ok-type_of-in-Named.ensures scope is) c.single_label.ensures

pub returns-in_ok-type_of-in-Map : goal.returns-in_ok-type_of-in-Map
returns-in_ok-type_of-in-Map c = λ scope is.
    map_form c.args.scopes.now c.args.file scope c.args.field.now c.in-Map.key c.in-Map.value c.in_ok-key-in-Map.key
    c.in_ok-type_of-in-Map.type_of c.in-Map.is
    (λ m. false≢true (sym c.if-is_misplaced_map.false ∙ c.is_misplaced_map.ensures.1 m))
    c.in_ok-key-in-Map.ensures.0 c.in_ok-key-in-Map.ensures.1 (c.in_ok-type_of-in-Map.ensures scope is)
