use Rattle.std.proofs.Common.{◌≡◌, List, sym, ◌∙◌, ap, subst}
use Rattle.std.proofs.lemmas.Result.{on_ok_weaker}
use Rattle.schema_symbols.specs.Children.{child}
use Rattle.schema_symbols.specs.Types.{declared_items, IsFirstKept}
use Rattle.schema_symbols.specs.declared.symbol.DeclaredType.{DeclaredType}
use Rattle.schema_symbols.proofs.TypeLemmas.{items_or, adds_first}
use Rattle.schema_symbols.proofs.types.DeclaredTypes.add.Goals as goal

pub returns : goal.returns
returns c =
    let same : declared_items (child c.args.self.now.by c.args.scope c.args.name.now) ≡ c.unwrap_or-all.result.items =
    ap declared_items (sym c.remove.ensures.value) ∙ items_or c.remove.result c.new.result c.new.ensures.items ∙ ap (λ v. v.items) (sym c.unwrap_or-all.ensures) in
    let keeps : IsFirstKept (declared_items (child c.args.self.now.by c.args.scope c.args.name.now)) c.keep_first.new.all.items c.args.declared =
    subst (λ (q : List DeclaredType). IsFirstKept q c.keep_first.new.all.items c.args.declared) (sym same) c.in_ok-keep_first.ensures in
    on_ok_weaker c.insert.result
    (λ inserted. adds_first (child c.args.self.now.by) (child c.remove.new.self)
    (child c.insert.new.self) c.keep_first.new.all c.args.scope c.args.name.now c.args.declared keeps
    c.remove.ensures.others inserted)
    c.insert.ensures
