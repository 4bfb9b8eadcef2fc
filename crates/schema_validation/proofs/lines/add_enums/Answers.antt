use Rattle.std.proofs.Common.{◌≡◌, ◌∙◌, ◌+◌, ◌<◌, ◌≤◌, ℕ, length, get_or, refl, sym, ap, subst, arith}
use Rattle.std.specs.Prelude.{Some, slice_get}
use Rattle.proto_ast.specs.Together.{enum_decl}
use Rattle.proto_ast.specs.Joined.{enclosing_of_enum}
use Rattle.mrpc_table.specs.Capped.{capped}
use Rattle.schema_validation.specs.Lengths.{HasLinesBefore}
use Rattle.schema_validation.proofs.Meetings.{item_at}
use Rattle.std.proofs.lemmas.Grind.{get_or_default_zero}
use Rattle.schema_validation.proofs.Formed.{stand_behind, enum_place}
use Rattle.schema_validation.proofs.LineLengths.{enum_line}
use Rattle.schema_validation.proofs.LinesAdded.{own_enum, covers_add, covers_class, no_enum}
use Rattle.schema_validation.proofs.lines.add_enums.Goals as goal

pub add_values-requires-clause-choices : goal.add_values-requires-clause-choices
add_values-requires-clause-choices c =
    let F = c.args.files.now in
    let kept = c.args.lengths.now in
    let i = c.loop-i.i in
    let e = c.index-all-i.result in
    let l : i < length F.enums = omega (arith, ap length c.enums-all.ensures, c.loop-i-test.true) in
    let at : slice_get F.enums i ≡ Some e =
    item_at c.enums-all.result.now F.enums i e c.enums-all.ensures l c.index-all-i.is in
    let behind = stand_behind F c.requires.formed in
    let outer = c.scope_is_determined.ensures.exists F (enclosing_of_enum e) behind (enum_place F behind i e at) in
    let read : c.index.result.now ≡ get_or kept.enums.items i 0 =
    c.index.ensures
    ∙ get_or_default_zero kept.enums.items i c.index.result.now (omega (arith, c.requires.lengths.all_enums)) in
    let line = enum_line F kept c.requires.lengths i e outer.0 c.saturating_add-length.result at outer.1
    (c.saturating_add-length.ensures ∙ ap (λ (n : ℕ). capped (n + 6)) read) in
    let more = covers_add F 1 i 0 c.loop-i.lines.items c.requires.ordered (enum_decl i) e.name.span
    (Some c.saturating_add-length.result) (own_enum i) refl refl refl line c.loop-i.invariant in
    subst (HasLinesBefore F 1 i 1) (sym c.in_ok-add.ensures) more

pub returns : goal.returns
returns c =
    let F = c.args.files.now in
    let all : length F.enums ≤ c.loop-i.i =
    omega (arith, ap length c.enums-all.ensures, c.loop-i-test.false) in
    covers_class F 1 c.loop-i.i c.loop-i.lines.items c.loop-i.invariant (no_enum F c.loop-i.i all)
