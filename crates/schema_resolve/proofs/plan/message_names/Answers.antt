use Rattle.std.proofs.Common.{◌∙◌, ◌+◌, ◌<◌, length, ap, subst, sym, arith, ℕ, List, length-append}
use Rattle.proto_ast.specs.declared.joined.Enclosing.{Enclosing}
use Rattle.schema_resolve.specs.Placing.{qualified_name, enclosing_name, IsEnclosingAmong}
use Rattle.schema_resolve.proofs.CleanFiles.{item_at, messages_more, parent_known}
use Rattle.schema_resolve.proofs.plan.message_names.Goals as goal

pub full_name-requires : goal.full_name-requires
full_name-requires c =
    let F = c.args.files.now in
    let l : c.loop-i.i < length F.messages = omega (arith, ap length c.messages-decls.ensures) in
    let m = c.index-decls-i.result in
    let at = item_at c.messages-decls.result.now F.messages c.loop-i.i m c.messages-decls.ensures l c.index-decls-i.is in
    let P : Enclosing → Type 0 = λ h. IsEnclosingAmong (length c.args.fronts.now) (length c.as_slice.result.now) h in
    subst P (sym c.enclosing.ensures)
    (parent_known F c.loop-i.i m (length c.args.fronts.now) (length c.as_slice.result.now) c.requires.formed at
    c.requires.fronts.count (ap length c.as_slice.ensures.value ∙ c.loop-i.invariant.0))

pub loop-i-preserved : goal.loop-i-preserved
loop-i-preserved c =
    let F = c.args.files.now in
    let l : c.loop-i.i < length F.messages = omega (arith, ap length c.messages-decls.ensures) in
    let m = c.index-decls-i.result in
    let at = item_at c.messages-decls.result.now F.messages c.loop-i.i m c.messages-decls.ensures l c.index-decls-i.is in
    let name = c.in_ok-name.ensures
    ∙ ap (λ (ns : List (List ℕ)). qualified_name (enclosing_name c.args.fronts.now ns c.enclosing.result) m.name.name) c.as_slice.ensures.value
    ∙ ap (λ (h : Enclosing). qualified_name (enclosing_name c.args.fronts.now c.loop-i.messages.items h) m.name.name) c.enclosing.ensures in (
      ap length c.in_ok-push.ensures.items ∙ length-append c.loop-i.messages.items _ ∙ ap (λ (n : ℕ). n + 1) c.loop-i.invariant.0,
      messages_more c.args.fronts.now c.loop-i.messages.items c.push.new.self.items c.in_ok-name.name c.loop-i.i m
          c.requires.formed c.requires.fronts c.loop-i.invariant.0 at name c.in_ok-push.ensures.items c.loop-i.invariant.1,
    )
