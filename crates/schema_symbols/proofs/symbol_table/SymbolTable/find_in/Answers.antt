use Rattle.std.proofs.Common.{◌≡◌, ℕ, List, [], ◌∷◌, ◌++◌, sym, ◌∙◌, ap, subst}
use Rattle.std.specs.Prelude.{MatchOption}
use Rattle.std.proofs.lemmas.List.{append_assoc}
use Rattle.mrpc_table.specs.Names.{parts_of}
use Rattle.proto_ast.specs.Joined.{Joined}
use Rattle.schema_symbols.specs.Numbers.{IsScopeNumber, IsListedScope, IsFirstSymbol}
use Rattle.schema_symbols.specs.Lookups.{HasNoType}
use Rattle.schema_symbols.proofs.ListParts.{some_part}
use Rattle.schema_symbols.proofs.FindLemmas.{kept, none_inside}
use Rattle.schema_symbols.proofs.symbol_table.SymbolTable.find_in.Goals as goal

pub returns-in_default-inner : goal.returns-in_default-inner
returns-in_default-inner c scope n =
    let k = kept c.self.inside c.self.view_is c.self.invariant in
    let inv = c.loop-part.invariant scope n in
    let m : IsScopeNumber c.self.inside.places inv.0 c.loop-part.scope = subst (λ (F : Joined). IsScopeNumber F inv.0 c.loop-part.scope) (sym c.self.view_is) inv.1 in
    let cuts : parts_of c.loop-part.rest.now ≡ c.in-Some.part.now ∷ parts_of c.in-Some.others.now = c.in-Some.ensures.parts in
    let unlisted : (place : ℕ) → IsListedScope c.args.self.now place (inv.0 ++ c.in-Some.part.now ∷ []) → ⊥ =
    λ place listed. c.in_default-inner.ensures inv.0 m place (subst (λ (F : Joined). IsListedScope F place (inv.0 ++ c.in-Some.part.now ∷ [])) (sym c.self.view_is) listed) in
    let whole : inv.0 ++ c.in-Some.part.now ∷ parts_of c.in-Some.others.now ≡ scope ++ parts_of c.args.name.now =
    ap (λ (x : List (List ℕ)). inv.0 ++ x) (sym cuts) ∙ inv.2 in
    subst (HasNoType c.args.self.now c.args.file) whole (none_inside inv.0 c.in-Some.part.now (parts_of c.in-Some.others.now) k.behind unlisted (some_part c.in-Some.others.now))

pub loop-part-preserved : goal.loop-part-preserved
loop-part-preserved c s n =
    let inv = c.loop-part.invariant s n in
    let m : IsScopeNumber c.self.inside.places inv.0 c.loop-part.scope = subst (λ (F : Joined). IsScopeNumber F inv.0 c.loop-part.scope) (sym c.self.view_is) inv.1 in
    let cuts : parts_of c.loop-part.rest.now ≡ c.in-Some.part.now ∷ parts_of c.in-Some.others.now = c.in-Some.ensures.parts in
    let inner : IsScopeNumber c.args.self.now (inv.0 ++ c.in-Some.part.now ∷ []) c.in-Some-inner.inner =
    subst (λ (F : Joined). IsScopeNumber F (inv.0 ++ c.in-Some.part.now ∷ []) c.in-Some-inner.inner) c.self.view_is (c.in-Some-inner.ensures inv.0 m) in
    let whole : inv.0 ++ c.in-Some.part.now ∷ parts_of c.in-Some.others.now ≡ s ++ parts_of c.args.name.now =
    ap (λ (x : List (List ℕ)). inv.0 ++ x) (sym cuts) ∙ inv.2 in
    (inv.0 ++ c.in-Some.part.now ∷ [], inner, append_assoc inv.0 (c.in-Some.part.now ∷ []) (parts_of c.in-Some.others.now) ∙ whole)

pub returns : goal.returns
returns c scope n =
    let inv = c.loop-part.invariant scope n in
    let cuts : parts_of c.loop-part.rest.now ≡ c.loop-part.rest.now ∷ [] = c.in_default.ensures.parts in
    let whole : inv.0 ++ c.loop-part.rest.now ∷ [] ≡ scope ++ parts_of c.args.name.now =
    ap (λ (x : List (List ℕ)). inv.0 ++ x) (sym cuts) ∙ inv.2 in
    subst (λ (q : List (List ℕ)). MatchOption c.first_type.result (HasNoType c.args.self.now c.args.file q)
    (λ named. IsFirstSymbol c.args.self.now c.args.file named q)) whole (c.first_type.ensures inv.0 inv.1)
