-- The grant of an order for a connection with a visit account.
use Rattle.std.proofs.Common.{◌≡◌, ◌⊎◌, inl, inr, ℕ, Bool, true, false, Option, refl, sym, subst}
use Rattle.std.specs.Prelude.{Contains, IfSome}
use Rattle.qos_order.specs.Account.{IsWeight, granted}
use Rattle.run_plan.specs.declared.application.Application.{Application}
use Rattle.run_plan.specs.declared.plan.Plan.{Plan}
use Rattle.service_loop.specs.Rounds.{IsGrantedByWeight, IsNewVisitAccount}
use Rattle.service_loop.specs.declared.endpoint.Endpoint.{Endpoint}
use Rattle.service_loop.specs.declared.visit_account.VisitAccount.{VisitAccount}
use Rattle.service_wiring.specs.Weighing.{IsPlanOrder, visit_account_in}

either : (b : Bool) → (b ≡ true) ⊎ (b ≡ false)
either true = inl refl
either false = inr refl

-- the grant of an order for connection `conn`, if it has a visit account
abbrev Grants : (ℕ → ℕ → ℕ) → ℕ → Option VisitAccount → Type 0
Grants grant_of conn share = IfSome share (λ s. (kept : ℕ) → grant_of conn kept ≡ granted s.weight kept)

module _ (plan : Plan) (app : Application) where
  grants-in : (grant_of : ℕ → ℕ → ℕ) → Contains plan.applications app → IsPlanOrder plan grant_of
      → Grants grant_of app.conn (visit_account_in plan app)
  grants-in grant_of there goes = elim (either plan.weighted) [
    | inl is ↦ rw is (λ kept. goes is app there kept)
    | inr is ↦ rw is tt
  ]

  -- an order that follows a plan grants a new connection by the weight of its visit account
  pub grants-first : {C Q L : Type 0} (grant_of : ℕ → ℕ → ℕ) (e : Endpoint C Q L) → e.share ≡ visit_account_in plan app
      → e.submissions.conn.conn ≡ app.conn → Contains plan.applications app → IsPlanOrder plan grant_of
      → IsGrantedByWeight grant_of e
  grants-first grant_of e share conn there goes =
      subst (λ (s : Option VisitAccount). Grants grant_of e.submissions.conn.conn s) (sym share)
      (subst (λ (n : ℕ). Grants grant_of n (visit_account_in plan app)) (sym conn) (grants-in grant_of there goes))

  pub new-share : IsWeight app.weight → IfSome (visit_account_in plan app) IsNewVisitAccount
  new-share weight = elim (either plan.weighted) [
    | inl is ↦ rw is (weight, refl)
    | inr is ↦ rw is tt
  ]
