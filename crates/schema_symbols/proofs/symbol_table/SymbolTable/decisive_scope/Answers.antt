use Rattle.std.proofs.Common.{◌≡◌, ◌+◌, ◌<◌, [], ◌∷◌, ◌++◌, Some, true, false, length, refl, sym, ◌∙◌, ap, subst}
use Rattle.std.specs.Prelude.{slice_get}
use Rattle.proto_ast.specs.Joined.{Joined}
use Rattle.proto_ast.specs.declared.joined.Enclosing.{Enclosing}
use Rattle.proto_ast.specs.declared.joined.Enclosing.TheVariants as home
use Rattle.schema_symbols.specs.Scopes.{IsScope, IsVisibleName, here}
use Rattle.schema_symbols.specs.Numbers.{IsEnclosing, IsScopeNumber}
use Rattle.schema_symbols.specs.Deepest.{IsReachedOutward, enclosing_rank}
use Rattle.schema_symbols.proofs.ScopeLemmas.{item_at, message_place}
use Rattle.schema_symbols.proofs.FindLemmas.{kept, home_below, reaches_out, reaches_start, file_decides}
use Rattle.schema_symbols.proofs.symbol_table.SymbolTable.decisive_scope.Goals as goal

pub outward-init : goal.outward-init
outward-init c = (c.requires.home, λ s h. reaches_start h)

pub decisive_prefix-requires-clause-its_file : goal.decisive_prefix-requires-clause-its_file
decisive_prefix-requires-clause-its_file c = subst (IsEnclosing c.args.self.now) c.in-File.is c.outward.invariant.0

pub returns-in-File : goal.returns-in-File
returns-in-File c scope h =
    let r : IsReachedOutward c.args.self.now c.args.file c.args.name.now scope (home.File c.in-File.its_file) =
    subst (IsReachedOutward c.args.self.now c.args.file c.args.name.now scope) c.in-File.is (c.outward.invariant.1 scope h) in
    file_decides c.decisive_prefix.result r c.decisive_prefix.ensures

pub number-scope-requires : goal.number-scope-requires
number-scope-requires c =
    let l : IsEnclosing c.args.self.now (home.Message c.in-Message.i) = subst (IsEnclosing c.args.self.now) c.in-Message.is c.outward.invariant.0 in
    subst (λ (F : Joined). IsEnclosing F (home.Message c.in-Message.i)) (sym c.self.view_is) l

pub returns-then-is_visible : goal.returns-then-is_visible
returns-then-is_visible c scope h =
    let r : IsReachedOutward c.args.self.now c.args.file c.args.name.now scope (home.Message c.in-Message.i) =
    subst (IsReachedOutward c.args.self.now c.args.file c.args.name.now scope) c.in-Message.is (c.outward.invariant.1 scope h) in
    let number : IsScopeNumber c.args.self.now r.reached c.number-scope.result =
    subst (λ (F : Joined). IsScopeNumber F r.reached c.number-scope.result) c.self.view_is
    (c.number-scope.ensures.number r.reached (subst (λ (F : Joined). IsScope F (home.Message c.in-Message.i) r.reached) (sym c.self.view_is) r.stands)) in
    let there : IsVisibleName c.args.self.now c.args.file (r.reached ++ c.args.name.now ∷ []) = (c.if-is_visible.ensures r.reached number).0 refl in
    (r.reached, number, r.outward r.reached (here there))

pub outward-smaller : goal.outward-smaller
outward-smaller c =
    let k = kept c.self.inside c.self.view_is c.self.invariant in
    let l : c.in-Message.i < length c.args.self.now.messages = subst (IsEnclosing c.args.self.now) c.in-Message.is c.outward.invariant.0 in
    let at : slice_get c.args.self.now.messages c.in-Message.i ≡ Some c.index-messages-i.result =
    item_at c.messages.result.now c.args.self.now.messages c.in-Message.i c.index-messages-i.result
    (c.messages.ensures ∙ ap (λ (F : Joined). F.messages) c.self.view_is) l c.index-messages-i.is in
    let less : enclosing_rank c.enclosing-place.result < c.in-Message.i + 1 =
    subst (λ (p : Enclosing). enclosing_rank p < c.in-Message.i + 1) (sym c.enclosing-place.ensures) (home_below k.behind c.in-Message.i c.index-messages-i.result at) in
    subst (λ (p : Enclosing). enclosing_rank c.enclosing-place.result < enclosing_rank p) (sym c.in-Message.is) less

pub outward-preserved : goal.outward-preserved
outward-preserved c =
    let k = kept c.self.inside c.self.view_is c.self.invariant in
    let l : c.in-Message.i < length c.args.self.now.messages = subst (IsEnclosing c.args.self.now) c.in-Message.is c.outward.invariant.0 in
    let at : slice_get c.args.self.now.messages c.in-Message.i ≡ Some c.index-messages-i.result =
    item_at c.messages.result.now c.args.self.now.messages c.in-Message.i c.index-messages-i.result
    (c.messages.ensures ∙ ap (λ (F : Joined). F.messages) c.self.view_is) l c.index-messages-i.is in (
      subst (IsEnclosing c.args.self.now) (sym c.enclosing-place.ensures) (message_place k.behind c.in-Message.i c.index-messages-i.result at),
      λ s h.
          let r : IsReachedOutward c.args.self.now c.args.file c.args.name.now s (home.Message c.in-Message.i) =
          subst (IsReachedOutward c.args.self.now c.args.file c.args.name.now s) c.in-Message.is (c.outward.invariant.1 s h) in
          let number : IsScopeNumber c.args.self.now r.reached c.number-scope.result =
          subst (λ (F : Joined). IsScopeNumber F r.reached c.number-scope.result) c.self.view_is
          (c.number-scope.ensures.number r.reached (subst (λ (F : Joined). IsScope F (home.Message c.in-Message.i) r.reached) (sym c.self.view_is) r.stands)) in
          let not : IsVisibleName c.args.self.now c.args.file (r.reached ++ c.args.name.now ∷ []) → ⊥ = λ t.
          let z : false ≡ true = (c.if-is_visible.ensures r.reached number).1 t in
          cc in
          subst (IsReachedOutward c.args.self.now c.args.file c.args.name.now s) (sym c.enclosing-place.ensures) (reaches_out r not at),
    )
