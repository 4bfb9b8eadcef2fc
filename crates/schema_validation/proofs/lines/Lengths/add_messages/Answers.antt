use Rattle.std.proofs.Common.{◌≡◌, ◌<◌, ◌++◌, ◌∷◌, [], ◌∙◌, ℕ, length, ap, arith, refl, sym, subst}
use Rattle.std.specs.Prelude.{Some, slice_get}
use Rattle.schema_validation.proofs.Meetings.{item_at}
use Rattle.schema_validation.specs.Lengths.{full_length, IsKeptHome}
use Rattle.proto_ast.specs.declared.joined.Enclosing.{Enclosing}
use Rattle.schema_validation.proofs.FullLengths.{keeps_message, message_home_kept}
use Rattle.schema_validation.proofs.lines.Lengths.add_messages.Goals as goal

pub loop-i-preserved : goal.loop-i-preserved
loop-i-preserved c =
    let xs = c.args.files.now.messages in
    let l : c.loop-i.i < length xs = omega (arith, ap length c.messages-all.ensures, c.loop-i-test.true) in
    let at : slice_get xs c.loop-i.i ≡ Some c.index-all-i.result =
    item_at c.messages-all.result.now xs c.loop-i.i c.index-all-i.result c.messages-all.ensures l c.index-all-i.is in
    keeps_message c.args.files.now c.loop-i.self
    (record { fronts = c.loop-i.self.fronts; messages = c.push.new.self; enums = c.loop-i.self.enums })
    c.loop-i.i c.index-all-i.result c.requires.formed c.loop-i.invariant at refl
    (c.in_ok-push.ensures.items ∙ ap (λ (n : ℕ). c.loop-i.self.messages.items ++ n ∷ [])
    (c.full-length.ensures ∙ ap (λ (h : Enclosing). full_length c.loop-i.self h c.index-all-i.result.name) c.enclosing.ensures))
    refl

pub full-length-requires : goal.full-length-requires
full-length-requires c =
    let F = c.args.files.now in
    let m = c.index-all-i.result in
    let l : c.loop-i.i < length F.messages = omega (arith, ap length c.messages-all.ensures, c.loop-i-test.true) in
    let at : slice_get F.messages c.loop-i.i ≡ Some m =
    item_at c.messages-all.result.now F.messages c.loop-i.i m c.messages-all.ensures l c.index-all-i.is in
    subst (IsKeptHome c.loop-i.self) (sym c.enclosing.ensures)
    (message_home_kept F c.loop-i.i 0 c.loop-i.self c.loop-i.invariant c.requires.formed c.loop-i.i m at (omega arith))
