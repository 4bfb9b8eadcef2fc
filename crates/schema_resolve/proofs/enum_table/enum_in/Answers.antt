use Rattle.std.proofs.Common.{◌≡◌, ◌∙◌, ◌<◌, [], sym, ap, subst, ℕ, List, length, arith, All, map}
use Rattle.std.specs.Prelude.{FitsSigned}
use Rattle.std.specs.Int.{w32}
use Rattle.proto_ast.specs.declared.file.ValueDecl.{ValueDecl}
use Rattle.mrpc_table.specs.Valid.{AreDistinct}
use Rattle.schema_validation.specs.Types.{signed_value}
use Rattle.std.specs.Prelude.{ℤ}
use Rattle.std.specs.Borrow.{Bor}
use Rattle.std.proofs.lemmas.List.{get_or_default}
use Rattle.schema_resolve.specs.InOrder.{AreValues, value_pair}
use Rattle.schema_resolve.proofs.CleanFiles.{item_at}
use Rattle.schema_resolve.proofs.EnumTables.{values_fit, values_distinct, enum_at}
use Rattle.schema_resolve.proofs.enum_table.enum_in.Goals as goal

pub sorted-requires-clause-fits : goal.sorted-requires-clause-fits
sorted-requires-clause-fits c =
    let F = c.args.files.now in
    let at = item_at c.enums.result.now F.enums c.args.place c.index-enums-place.result c.enums.ensures c.requires.within c.index-enums-place.is in
    let P : List ValueDecl → Type 0 = λ vs. All (λ (v : ValueDecl). FitsSigned w32 (signed_value v.number)) vs in
    subst P (sym c.as_slice.ensures) (values_fit F c.args.place c.index-enums-place.result c.requires.clean at)

pub sorted-requires-clause-distinct : goal.sorted-requires-clause-distinct
sorted-requires-clause-distinct c =
    let F = c.args.files.now in
    let at = item_at c.enums.result.now F.enums c.args.place c.index-enums-place.result c.enums.ensures c.requires.within c.index-enums-place.is in
    let P : List ValueDecl → Type 0 = λ vs. AreDistinct (map (λ (v : ValueDecl). v.name.name) vs) in
    subst P (sym c.as_slice.ensures) (values_distinct F c.args.place c.index-enums-place.result c.requires.formed c.requires.ordered c.requires.clean at)

pub returns : goal.returns
returns c =
    let F = c.args.files.now in
    let e = c.index-enums-place.result in
    let at = item_at c.enums.result.now F.enums c.args.place e c.enums.ensures c.requires.within c.index-enums-place.is in
    let pairs : List (ℤ × Bor (List ℕ)) → List (ℤ × List ℕ) = λ vs. map value_pair vs in
    let same : c.in_ok-values.values ≡ pairs c.in_ok-sorted.sorted.items =
    c.in_ok-values.ensures ∙ ap pairs c.as_slice-2.ensures.value in
    let decls : List ValueDecl → Type 0 = λ ds. AreValues ds (pairs c.in_ok-sorted.sorted.items) in
    let names = c.args.plan.now.enums.names.items in
    let l : c.args.place < length names = omega (arith, c.requires.plan.all_enums, c.requires.within) in
    enum_at F c.args.plan.now c.args.place e _ c.requires.formed c.requires.ordered c.requires.clean c.requires.plan at
    (c.in_ok-copied.ensures ∙ c.index.ensures ∙ get_or_default names c.args.place c.index.result.now [] l)
    (subst (AreValues e.values) (sym same) (subst decls c.as_slice.ensures c.in_ok-sorted.ensures))
