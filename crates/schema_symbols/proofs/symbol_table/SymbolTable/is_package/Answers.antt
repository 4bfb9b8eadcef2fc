use Rattle.std.proofs.Common.{[], ◌∷◌, ◌++◌, sym, subst}
use Rattle.proto_ast.specs.Joined.{Joined}
use Rattle.schema_symbols.specs.Scopes.{IsScope, IsPackagePrefix}
use Rattle.schema_symbols.specs.Numbers.{IsScopeNumber, IsListedScope}
use Rattle.schema_symbols.proofs.PlaceLemmas.{no_iff}
use Rattle.schema_symbols.proofs.FindLemmas.{not_front, some_push}
use Rattle.schema_symbols.proofs.symbol_table.SymbolTable.is_package.Goals as goal

pub returns-in-None : goal.returns-in-None
returns-in-None c scope h =
    let n : IsScopeNumber c.self.inside.places scope c.number.result =
    c.number.ensures.number scope (subst (λ (F : Joined). IsScope F c.args.home scope) (sym c.self.view_is) h) in
    no_iff (not_front (some_push scope c.args.name.now)
    (λ place listed. c.in-None.ensures scope n place (subst (λ (F : Joined). IsListedScope F place (scope ++ c.args.name.now ∷ [])) (sym c.self.view_is) listed)))

pub returns-in-Some : goal.returns-in-Some
returns-in-Some c scope h =
    let n : IsScopeNumber c.self.inside.places scope c.number.result =
    c.number.ensures.number scope (subst (λ (F : Joined). IsScope F c.args.home scope) (sym c.self.view_is) h) in
    let inner : IsScopeNumber c.self.inside.places (scope ++ c.args.name.now ∷ []) c.in-Some.scope = c.in-Some.ensures scope n in
    let r = c.is_prefix.ensures (scope ++ c.args.name.now ∷ []) (some_push scope c.args.name.now) inner in (
      λ t. subst (λ (F : Joined). IsPackagePrefix F (scope ++ c.args.name.now ∷ [])) c.self.view_is (r.0 t),
      λ f. r.1 (subst (λ (F : Joined). IsPackagePrefix F (scope ++ c.args.name.now ∷ [])) (sym c.self.view_is) f),
    )
