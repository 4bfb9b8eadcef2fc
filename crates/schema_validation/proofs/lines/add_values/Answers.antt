use Rattle.std.proofs.Common.{◌≡◌, ◌+◌, ◌<◌, ◌≤◌, length, refl, sym, ap, subst, arith}
use Rattle.std.specs.Prelude.{Some, slice_get}
use Rattle.proto_ast.specs.Together.{value_decl}
use Rattle.schema_validation.specs.Lengths.{HasLinesBefore}
use Rattle.schema_validation.proofs.Meetings.{item_at}
use Rattle.schema_validation.proofs.LineLengths.{value_at}
use Rattle.schema_validation.proofs.LinesAdded.{own_value, covers_add, covers_row, no_value}
use Rattle.schema_validation.proofs.lines.add_values.Goals as goal

pub loop-j-preserved : goal.loop-j-preserved
loop-j-preserved c =
    let F = c.args.files.now in
    let e = c.index-enums-i.result in
    let j = c.loop-j.j in
    let at : slice_get F.enums c.args.i ≡ Some e =
    item_at c.enums.result.now F.enums c.args.i e c.enums.ensures c.requires.place c.index-enums-i.is in
    let l : j < length e.values = omega (arith, ap length c.as_slice-values.ensures, c.loop-j-test.true) in
    let vat : slice_get e.values j ≡ Some c.index-values-j.result =
    item_at c.as_slice-values.result.now e.values j c.index-values-j.result c.as_slice-values.ensures l
    c.index-values-j.is in
    let more = covers_add F 1 c.args.i (j + 1) c.loop-j.lines.items c.requires.ordered (value_decl c.args.i j)
    c.index-values-j.result.name.span c.value_length-length.result (own_value c.args.i j) refl refl (omega arith)
    (value_at F c.args.i j e c.index-values-j.result c.value_length-length.result at vat c.value_length-length.ensures)
    c.loop-j.invariant in
    subst (HasLinesBefore F 1 c.args.i (j + 1 + 1)) (sym c.in_ok-add.ensures) more

pub returns : goal.returns
returns c =
    let F = c.args.files.now in
    let e = c.index-enums-i.result in
    let at : slice_get F.enums c.args.i ≡ Some e =
    item_at c.enums.result.now F.enums c.args.i e c.enums.ensures c.requires.place c.index-enums-i.is in
    let all : length e.values ≤ c.loop-j.j =
    omega (arith, ap length c.as_slice-values.ensures, c.loop-j-test.false) in
    covers_row F 1 c.args.i (c.loop-j.j + 1) c.loop-j.lines.items c.loop-j.invariant
    (no_value F c.args.i e c.loop-j.j at all)
