use Rattle.std.proofs.Common.{◌∙◌, ◌+◌, ◌<◌, length, ap, subst, sym, arith, ℕ, length-append}
use Rattle.proto_ast.specs.declared.joined.Enclosing.{Enclosing}
use Rattle.schema_resolve.specs.Placing.{qualified_name, enclosing_name, IsEnclosingAmong}
use Rattle.schema_resolve.proofs.CleanFiles.{item_at, enums_more, enum_parent_known}
use Rattle.schema_resolve.proofs.plan.enum_names.Goals as goal

pub full_name-requires : goal.full_name-requires
full_name-requires c =
    let F = c.args.files.now in
    let l : c.loop-i.i < length F.enums = omega (arith, ap length c.enums-decls.ensures) in
    let e = c.index-decls-i.result in
    let at = item_at c.enums-decls.result.now F.enums c.loop-i.i e c.enums-decls.ensures l c.index-decls-i.is in
    let P : Enclosing → Type 0 = λ h. IsEnclosingAmong (length c.args.fronts.now) (length c.args.messages.now) h in
    subst P (sym c.enclosing.ensures)
    (enum_parent_known F c.loop-i.i e (length c.args.fronts.now) (length c.args.messages.now) c.requires.formed at
    c.requires.fronts.count c.requires.count)

pub loop-i-preserved : goal.loop-i-preserved
loop-i-preserved c =
    let F = c.args.files.now in
    let l : c.loop-i.i < length F.enums = omega (arith, ap length c.enums-decls.ensures) in
    let e = c.index-decls-i.result in
    let at = item_at c.enums-decls.result.now F.enums c.loop-i.i e c.enums-decls.ensures l c.index-decls-i.is in
    let name = c.in_ok-name.ensures
    ∙ ap (λ (h : Enclosing). qualified_name (enclosing_name c.args.fronts.now c.args.messages.now h) e.name.name) c.enclosing.ensures in (
      ap length c.in_ok-push.ensures.items ∙ length-append c.loop-i.enums.items _ ∙ ap (λ (n : ℕ). n + 1) c.loop-i.invariant.0,
      enums_more c.args.fronts.now c.args.messages.now c.loop-i.enums.items c.push.new.self.items c.in_ok-name.name
          c.loop-i.i e c.requires.formed c.requires.fronts c.requires.count c.requires.names c.loop-i.invariant.0 at name
          c.in_ok-push.ensures.items c.loop-i.invariant.1,
    )
