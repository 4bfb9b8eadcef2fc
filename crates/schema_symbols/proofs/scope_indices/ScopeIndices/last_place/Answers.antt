use Rattle.std.proofs.Common.{◌≡◌, ◌≢◌, ℕ, Option, Some, sym, ◌∙◌, subst}
use Rattle.std.specs.Prelude.{slice_get, MatchOption}
use Rattle.proto_ast.specs.Joined.{package_at}
use Rattle.schema_symbols.specs.Parts.{IsLastIndex, last_in}
use Rattle.schema_symbols.proofs.PlaceLemmas.{kept_places, package_known, last_few}
use Rattle.schema_symbols.proofs.scope_indices.ScopeIndices.last_place.Goals as goal

pub returns-clause-last : goal.returns-clause-last
returns-clause-last c =
    let k = kept_places c.self.inside c.self.view_is c.self.invariant in
    let p = package_known k.its_packages c.args.file c.index.result.now c.requires c.index.ensures in
    let e : c.copied.result ≡ last_in c.index.result.now.last_places c.args.part.now = c.copied.ensures ∙ c.get.ensures.value in
    subst
    (λ (o : Option ℕ). MatchOption o ((i : ℕ)
    → slice_get (package_at c.args.self.now c.args.file) i ≢ Some c.args.part.now)
    (IsLastIndex (package_at c.args.self.now c.args.file) c.args.part.now))
    (sym e) (p.last c.args.part.now)

pub returns-clause-few : goal.returns-clause-few
returns-clause-few c =
    let k = kept_places c.self.inside c.self.view_is c.self.invariant in
    let p = package_known k.its_packages c.args.file c.index.result.now c.requires c.index.ensures in
    let e : c.copied.result ≡ last_in c.index.result.now.last_places c.args.part.now = c.copied.ensures ∙ c.get.ensures.value in
    last_few c.args.self.now c.args.file c.args.part.now c.copied.result c.requires k.few
    (subst
    (λ (o : Option ℕ). MatchOption o ((i : ℕ)
    → slice_get (package_at c.args.self.now c.args.file) i ≢ Some c.args.part.now)
    (IsLastIndex (package_at c.args.self.now c.args.file) c.args.part.now))
    (sym e) (p.last c.args.part.now))
