use Rattle.std.proofs.Common.{◌≡◌, ◌+◌, ◌<◌, ◌≤◌, length, refl, sym, ap, subst, arith}
use Rattle.std.specs.Prelude.{Some, slice_get}
use Rattle.proto_ast.specs.Together.{field_decl}
use Rattle.proto_ast.specs.Joined.{Joined}
use Rattle.schema_validation.specs.Lengths.{HasLinesBefore, IsLengthAt}
use Rattle.schema_validation.proofs.Formed.{message_file}
use Rattle.schema_validation.proofs.Meetings.{item_at}
use Rattle.schema_validation.proofs.LinesAdded.{own_field, covers_add, covers_row, no_field}
use Rattle.schema_validation.proofs.lines.add_fields.Goals as goal

pub loop-j-preserved : goal.loop-j-preserved
loop-j-preserved c =
    let F = c.args.files.now in
    let m = c.index-messages-i.result in
    let f = c.index-fields-j.result in
    let j = c.loop-j.j in
    let l : j < length m.fields = omega (arith, ap length c.as_slice-fields.ensures, c.loop-j-test.true) in
    let fat : slice_get m.fields j ≡ Some f =
    item_at c.as_slice-fields.result.now m.fields j f c.as_slice-fields.ensures l c.index-fields-j.is in
    let is : IsLengthAt F (field_decl c.args.i j) f.name.span c.field_length-length.result =
    subst (λ (G : Joined). IsLengthAt G (field_decl c.args.i j) f.name.span c.field_length-length.result)
    c.requires.scopes (c.field_length-length.ensures j fat) in
    let more = covers_add F 0 c.args.i (j + 1) c.loop-j.lines.items c.requires.ordered (field_decl c.args.i j)
    f.name.span c.field_length-length.result (own_field c.args.i j) refl refl (omega arith) is c.loop-j.invariant in
    subst (HasLinesBefore F 0 c.args.i (j + 1 + 1)) (sym c.in_ok-add.ensures) more

pub returns : goal.returns
returns c =
    let F = c.args.files.now in
    let m = c.index-messages-i.result in
    let at : slice_get F.messages c.args.i ≡ Some m =
    item_at c.messages.result.now F.messages c.args.i m c.messages.ensures c.requires.place c.index-messages-i.is in
    let all : length m.fields ≤ c.loop-j.j =
    omega (arith, ap length c.as_slice-fields.ensures, c.loop-j-test.false) in
    covers_row F 0 c.args.i (c.loop-j.j + 1) c.loop-j.lines.items c.loop-j.invariant
    (no_field F c.args.i m c.loop-j.j at all)

pub field_length-length-requires-clause-file : goal.field_length-length-requires-clause-file
field_length-length-requires-clause-file c =
    let F = c.args.files.now in
    let m = c.index-messages-i.result in
    let at : slice_get F.messages c.args.i ≡ Some m =
    item_at c.messages.result.now F.messages c.args.i m c.messages.ensures c.requires.place c.index-messages-i.is in
    subst (λ (G : Joined). m.file < length G.heads) (sym c.requires.scopes)
    (message_file F c.requires.formed c.args.i m at)
