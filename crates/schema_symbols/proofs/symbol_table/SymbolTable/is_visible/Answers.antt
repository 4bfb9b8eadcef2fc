use Rattle.std.proofs.Common.{ℕ, [], ◌∷◌, ◌++◌, sym, subst}
use Rattle.std.specs.Prelude.{◌↔◌, IsTrue}
use Rattle.proto_ast.specs.Joined.{Joined}
use Rattle.schema_symbols.specs.Numbers.{IsScopeNumber, IsListedScope, IsFirstSymbol}
use Rattle.schema_symbols.specs.Lookups.{HasNoType}
use Rattle.schema_symbols.specs.PackagePrefixes.{CanSeePrefix}
use Rattle.schema_symbols.proofs.PlaceLemmas.{no_iff, yes_iff}
use Rattle.schema_symbols.proofs.FindLemmas.{some_first, none_first, first_there, there_front, there_iff, not_listed, some_push}
use Rattle.schema_symbols.proofs.symbol_table.SymbolTable.is_visible.Goals as goal

pub returns-then-is_some : goal.returns-then-is_some
returns-then-is_some c outer n =
    let f = some_first c.first_type.result (HasNoType c.args.self.now c.args.file (outer ++ c.args.name.now ∷ []))
    (λ named. IsFirstSymbol c.args.self.now c.args.file named (outer ++ c.args.name.now ∷ [])) c.if-is_some.ensures
    (c.first_type.ensures outer n) in
    yes_iff (first_there f.1)

pub returns-in-Some : goal.returns-in-Some
returns-in-Some c outer n =
    let none = none_first c.first_type.result (HasNoType c.args.self.now c.args.file (outer ++ c.args.name.now ∷ []))
    (λ named. IsFirstSymbol c.args.self.now c.args.file named (outer ++ c.args.name.now ∷ [])) c.if-is_some.ensures
    (c.first_type.ensures outer n) in
    let m : IsScopeNumber c.self.inside.places outer c.args.scope = subst (λ (F : Joined). IsScopeNumber F outer c.args.scope) (sym c.self.view_is) n in
    let inner : IsScopeNumber c.self.inside.places (outer ++ c.args.name.now ∷ []) c.in-Some.inner = c.in-Some.ensures outer m in
    let sees : IsTrue c.sees_prefix.result ↔ CanSeePrefix c.args.self.now c.args.file (outer ++ c.args.name.now ∷ []) =
    subst (λ (F : Joined). IsTrue c.sees_prefix.result ↔ CanSeePrefix F c.args.file (outer ++ c.args.name.now ∷ [])) c.self.view_is
    (c.sees_prefix.ensures (outer ++ c.args.name.now ∷ []) (some_push outer c.args.name.now) inner) in
    there_iff c.sees_prefix.result none sees

pub returns-in-None : goal.returns-in-None
returns-in-None c outer n =
    let none = none_first c.first_type.result (HasNoType c.args.self.now c.args.file (outer ++ c.args.name.now ∷ []))
    (λ named. IsFirstSymbol c.args.self.now c.args.file named (outer ++ c.args.name.now ∷ [])) c.if-is_some.ensures
    (c.first_type.ensures outer n) in
    let m : IsScopeNumber c.self.inside.places outer c.args.scope = subst (λ (F : Joined). IsScopeNumber F outer c.args.scope) (sym c.self.view_is) n in
    let unlisted : (place : ℕ) → IsListedScope c.args.self.now place (outer ++ c.args.name.now ∷ []) → ⊥ =
    λ place listed. c.in-None.ensures outer m place (subst (λ (F : Joined). IsListedScope F place (outer ++ c.args.name.now ∷ [])) (sym c.self.view_is) listed) in
    no_iff (λ t. not_listed (some_push outer c.args.name.now) unlisted (there_front none t))
