-- The policy that judges deliveries to an application has a name.
use Rattle.std.proofs.Common.{◌≡◌, ℕ, ◌==◌, Bool, true, false, All, List, [], ◌∷◌, Option, Some, None, refl, sym, ap, ◌∙◌, subst}
use Rattle.std.specs.Prelude.{IfSome, find, if◌then◌else◌, option_map, slice_get}
use Rattle.std.proofs.lemmas.Bool.{eqb-true}
use Rattle.std.proofs.lemmas.Option.{same_Some, none-some}
use Rattle.std.proofs.lemmas.List.Elements.{All-head, All-tail}
use Rattle.policy_access.specs.Verdict.{AccessPolicy}
use Rattle.engine_core.specs.declared.policy.Policy.{Policy}
use Rattle.policy_declarations.specs.declared.declaration.NamedPolicy.{NamedPolicy}
use Rattle.run_plan.specs.Chains.{inbound_of, policy_name_at, own_policy_at, own_policy_in, policy_at, policy_by}
use Rattle.run_plan.specs.Plans.{IsApplication, IsInbound, IsOwnPolicy, IsOwnSchema, IsPlan}
use Rattle.run_plan.specs.Links.{application_in}
use Rattle.run_plan.specs.declared.application.Application.{Application}
use Rattle.run_plan.specs.declared.application.OwnPolicy.{OwnPolicy}
use Rattle.run_plan.specs.declared.application.OwnSchema.{OwnSchema}
use Rattle.run_plan.specs.declared.plan.Plan.{Plan}
use Rattle.run_driver.specs.Running.{judging_by, inbound_name, with_policy_name}

found-cases : {X : Type 0} (P : X → Type 0) (test : X → Bool) (b : Bool) (y : X) (rest : Option X) (x : X) → test y ≡ b
    → P y → (rest ≡ Some x → P x × (test x ≡ true)) → (if b then Some y else rest) ≡ Some x → P x × (test x ≡ true)
found-cases P test true y rest x is here later at =
    let same : y ≡ x = same_Some y x at in
    (subst P same here, ap test (sym same) ∙ is)
found-cases P test false y rest x is here later at = later at

pub found-holds : {X : Type 0} (P : X → Type 0) (test : X → Bool) (xs : List X) (x : X) → All P xs → find test xs ≡ Some x
    → P x × (test x ≡ true)
found-holds P test [] x all at = absurd (none-some x at)
found-holds P test (y ∷ xs) x all at =
    found-cases P test (test y) y (find test xs) x refl (All-head P y xs all)
    (λ more. found-holds P test xs x (All-tail P y xs all) more) at

-- a policy that is found has a name
labelled : (policies : List NamedPolicy) (place : ℕ) (p : Policy) → policy_at policies place ≡ Some p
    → (name : List ℕ) × (policy_name_at policies place ≡ Some name)
labelled policies place p at = from_place (slice_get policies place) at
  where
    from_place : (o : Option NamedPolicy) → option_map (λ (n : NamedPolicy). n.policy) o ≡ Some p
        → (name : List ℕ) × (option_map (λ (n : NamedPolicy). n.name) o ≡ Some name)
    from_place None is = absurd (none-some p is)
    from_place (Some n) is = (n.name, refl)

of_own : (plan : Plan) (own : OwnSchema) (place : ℕ) (p : Policy) → IsOwnSchema plan own
    → own_policy_at own.policies place ≡ Some p → (there : Policy) × (policy_at plan.declared.policies place ≡ Some there)
of_own plan own place p is at = from_found (own_policy_in own.policies place) refl at
  where
    from_found : (o : Option OwnPolicy) → own_policy_in own.policies place ≡ o
        → option_map (λ (q : OwnPolicy). q.policy) o ≡ Some p
        → (there : Policy) × (policy_at plan.declared.policies place ≡ Some there)
    from_found None found none = absurd (none-some p none)
    from_found (Some q) found some =
        let both = found-holds (IsOwnPolicy plan.table plan.declared.policies own.table) (λ (r : OwnPolicy). r.place == place)
        own.policies q is.policies found in
        let same : q.place ≡ place = eqb-true q.place place both.1 in
        (both.0.there, ap (λ k. policy_at plan.declared.policies k) (sym same) ∙ both.0.found)

has-label : (plan : Plan) (own : Option OwnSchema) (place : ℕ) (p : Policy)
    → ((schema : OwnSchema) → own ≡ Some schema → IsOwnSchema plan schema)
    → policy_by plan.declared.policies own place ≡ Some p → (name : List ℕ) × (policy_name_at plan.declared.policies place ≡ Some name)
has-label plan None place p sound at = labelled plan.declared.policies place p at
has-label plan (Some schema) place p sound at =
    let there = of_own plan schema place p (sound schema refl) at in
    labelled plan.declared.policies place there.0 there.1

mapped-back : (name : List ℕ) (o : Option AccessPolicy) → option_map (λ (p : List ℕ × AccessPolicy). p.1) (option_map (with_policy_name name) o) ≡ o
mapped-back name None = refl
mapped-back name (Some policy) = refl

if-own : (plan : Plan) (own : Option OwnSchema) → IfSome own (IsOwnSchema plan) → (schema : OwnSchema) → own ≡ Some schema
    → IsOwnSchema plan schema
if-own plan None is schema none = absurd (none-some schema none)
if-own plan (Some own) is schema some = subst (IsOwnSchema plan) (same_Some own schema some) is

by-inbound : (plan : Plan) (app : Application) (inbound : Option ℕ) → IsApplication plan app → app.inbound ≡ inbound
    → IfSome inbound (IsInbound plan app) → option_map (λ (p : List ℕ × AccessPolicy). p.1) (judging_by plan app) ≡ inbound_of plan app
by-inbound plan app None is none sound = rw none refl
by-inbound plan app (Some place) is some sound =
    let label = has-label plan app.own place sound.there (if-own plan app.own is.own) sound.found in
    let labelled_so : inbound_name plan app ≡ Some label.0 = rw some label.1 in
    rw labelled_so (mapped-back label.0 (inbound_of plan app))

pub named-inbound : (plan : Plan) (app : Application) → IsApplication plan app
    → option_map (λ (p : List ℕ × AccessPolicy). p.1) (judging_by plan app) ≡ inbound_of plan app
named-inbound plan app is = by-inbound plan app app.inbound is refl is.inbound

pub application-holds : (plan : Plan) (conn : ℕ) (app : Application) → IsPlan plan
    → application_in plan.applications conn ≡ Some app → IsApplication plan app
application-holds plan conn app is at =
    (found-holds (IsApplication plan) (λ (a : Application). a.conn == conn) plan.applications app is.applications at).0
