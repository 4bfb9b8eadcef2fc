use Rattle.std.proofs.Common.{ℕ, List, [], ◌∷◌, ◌++◌, subst}
use Rattle.std.specs.Prelude.{◌↔◌, IsTrue}
use Rattle.schema_symbols.specs.Scopes.{IsScope, IsPackagePrefix}
use Rattle.schema_validation.specs.Entries.{IsPackageNamed}
use Rattle.schema_validation.specs.declared.reason.ResolveReason.TheVariants.{DuplicateName}
use Rattle.schema_validation.proofs.Meetings.{meets_when, meets_as}
use Rattle.schema_validation.proofs.names.note_package_name.Goals as goal

pub returns : goal.returns
returns c =
    let F = c.args.scopes.now in
    let place = c.args.home in
    let w = c.args.word.now in
    let holds = c.is_package-is_package.result in
    let exists = c.scope_is_determined.ensures.exists F place c.requires.behind c.requires.place in
    let front : (scope : List (List ℕ)) → IsScope F place scope → IsTrue holds ↔ IsPackagePrefix F (scope ++ w.name ∷ []) =
    subst (λ (name : List ℕ). (scope : List (List ℕ)) → IsScope F place scope
    → IsTrue holds ↔ IsPackagePrefix F (scope ++ name ∷ [])) c.as_slice.ensures c.is_package-is_package.ensures in
    meets_as _ (IsPackageNamed F place w) c.args.first.now c.note_if.new.self
    (meets_when ((scope : List (List ℕ)) × IsScope F place scope × IsPackagePrefix F (scope ++ w.name ∷ [])) holds
    DuplicateName w.span c.args.first.now c.note_if.new.self
    (λ e. (exists.0, exists.1, (front exists.0 exists.1).0 e)) (λ p. (front p.0 p.1).1 p.2) c.note_if.ensures)
    (λ q s p. record { scope = p.0.0; is_scope = p.0.1; front = p.0.2; is = p.1 })
    (λ q s p. ((p.scope, p.is_scope, p.front), p.is))
