use Rattle.std.proofs.Common.{◌≡◌, ◌∙◌, ◌+◌, ◌<◌, ◌≤◌, ℕ, length, get_or, refl, sym, ap, subst, arith}
use Rattle.std.specs.Prelude.{Some, slice_get}
use Rattle.proto_ast.specs.Together.{message_decl}
use Rattle.proto_ast.specs.Joined.{enclosing_of}
use Rattle.proto_ast.specs.declared.joined.Enclosing.TheVariants as home
use Rattle.mrpc_table.specs.Capped.{capped}
use Rattle.schema_validation.specs.Lengths.{HasLinesBefore}
use Rattle.schema_validation.proofs.Meetings.{item_at}
use Rattle.std.proofs.lemmas.Grind.{get_or_default_zero}
use Rattle.schema_validation.proofs.Formed.{stand_behind, message_place}
use Rattle.schema_validation.proofs.LineLengths.{message_line}
use Rattle.schema_validation.proofs.LinesAdded.{own_message, covers_add, covers_class, no_message}
use Rattle.schema_validation.proofs.lines.add_messages.Goals as goal

pub add_fields-requires-clause-scope : goal.add_fields-requires-clause-scope
add_fields-requires-clause-scope c =
    c.scope_is_determined.ensures.exists c.args.files.now (home.Message c.loop-i.i) (stand_behind c.args.files.now
    c.requires.formed)
    (omega (arith, ap length c.messages-all.ensures, c.loop-i-test.true))

pub add_fields-requires-clause-message : goal.add_fields-requires-clause-message
add_fields-requires-clause-message c =
    let F = c.args.files.now in
    let kept = c.args.lengths.now in
    let i = c.loop-i.i in
    let m = c.index-all-i.result in
    let l : i < length F.messages = omega (arith, ap length c.messages-all.ensures, c.loop-i-test.true) in
    let at : slice_get F.messages i ≡ Some m =
    item_at c.messages-all.result.now F.messages i m c.messages-all.ensures l c.index-all-i.is in
    let behind = stand_behind F c.requires.formed in
    let outer = c.scope_is_determined.ensures.exists F (enclosing_of m) behind (message_place F behind i m at) in
    let read : c.index.result.now ≡ get_or kept.messages.items i 0 =
    c.index.ensures
    ∙ get_or_default_zero kept.messages.items i c.index.result.now (omega (arith, c.requires.lengths.all_messages)) in
    let line = message_line F kept c.requires.lengths i m outer.0 c.saturating_add-length.result at outer.1
    (c.saturating_add-length.ensures ∙ ap (λ (n : ℕ). capped (n + 9)) read) in
    let more = covers_add F 0 i 0 c.loop-i.lines.items c.requires.ordered (message_decl i) m.name.span
    (Some c.saturating_add-length.result) (own_message i) refl refl refl line c.loop-i.invariant in
    subst (HasLinesBefore F 0 i 1) (sym c.in_ok-add.ensures) more

pub returns : goal.returns
returns c =
    let F = c.args.files.now in
    let all : length F.messages ≤ c.loop-i.i =
    omega (arith, ap length c.messages-all.ensures, c.loop-i-test.false) in
    covers_class F 0 c.loop-i.i c.loop-i.lines.items c.loop-i.invariant (no_message F c.loop-i.i all)
