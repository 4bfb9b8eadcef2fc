-- The weights of a plan's connections are valid, and an order with the plan's weights follows it.
use Rattle.std.proofs.Common.{◌≡◌, ◌<◌, ℕ, zero, suc, nat_eq, false, All, Contains, List, [], ◌∷◌, length, map, refl, sym, ap, ◌∙◌, subst, arith, slice_index_or}
use Rattle.std.specs.List.{IsDistinct, AllByRecursion}
use Rattle.std.proofs.lemmas.Bool.{eq-eqb, ne_eqb}
use Rattle.std.proofs.lemmas.List.Elements.{All-cons, All-head, All-nil, All-tail}
use Rattle.mrpc_table.specs.Valid.{AreDistinct}
use Rattle.qos_order.specs.Account.{IsWeight, granted}
use Rattle.qos_order.specs.Weights.{AreValidWeights, conns_of_weights, weight_of}
use Rattle.qos_order.specs.declared.weights.Weight.{Weight}
use Rattle.run_plan.specs.Plans.{IsApplication, IsPlan}
use Rattle.run_plan.specs.Links.{connections_of}
use Rattle.run_plan.specs.declared.application.Application.{Application}
use Rattle.run_plan.specs.declared.plan.Plan.{Plan}
use Rattle.service_wiring.specs.Weighing.{IsPlanOrder}
use Rattle.run_driver.specs.Ordering.{HasPlanWeights, weight_in, weights_of}

first-there : (y : ℕ) (ys : List ℕ) → Contains (y ∷ ys) y
first-there y ys = (0, omega arith, refl)

more-there : (y : ℕ) (ys : List ℕ) (x : ℕ) → Contains ys x → Contains (y ∷ ys) x
more-there y ys x (k, within, same) = (suc k, omega (arith, within), same)

none-equal : (x : ℕ) (xs : List ℕ) → (Contains xs x → ⊥) → AllByRecursion (λ y. nat_eq x y ≡ false) xs
none-equal x [] apart = tt
none-equal x (y ∷ ys) apart = (
  ne_eqb x y (λ e. apart (subst (λ (z : ℕ). Contains (y ∷ ys) z) (sym e) (first-there y ys))),
  none-equal x ys (λ more. apart (more-there y ys x more)),
)

distinct-is : (xs : List ℕ) → AreDistinct xs → IsDistinct nat_eq xs
unfolding IsDistinct
distinct-is [] d = tt
distinct-is (x ∷ xs) d = (none-equal x xs d.0, distinct-is xs d.1)

same-conns : (apps : List Application) → conns_of_weights (map weight_in apps) ≡ connections_of apps
same-conns [] = refl
same-conns (app ∷ apps) = ap (λ ns. app.conn ∷ ns) (same-conns apps)

in-range : (plan : Plan) (apps : List Application) → All (IsApplication plan) apps
    → All (λ (w : Weight). IsWeight w.weight) (map weight_in apps)
in-range plan [] all = All-nil (λ (w : Weight). IsWeight w.weight)
in-range plan (app ∷ apps) all =
    let here = All-head (IsApplication plan) app apps all in
    All-cons (λ (w : Weight). IsWeight w.weight) (weight_in app) (map weight_in apps) here.port.weight
    (in-range plan apps (All-tail (IsApplication plan) app apps all))

pub sound-weights : (plan : Plan) → IsPlan plan → AreValidWeights (weights_of plan)
sound-weights plan is = record {
  ranged = in-range plan plan.applications is.applications;
  once = subst (λ (ns : List ℕ). IsDistinct nat_eq ns) (sym (same-conns plan.applications))
      (distinct-is (connections_of plan.applications) is.connections);
}

-- ---- the grants of the order

-- the connection of an application of the plan
conn-there : (apps : List Application) (app : Application) (k : ℕ) → k < length apps → slice_index_or apps k app ≡ app
    → Contains (connections_of apps) app.conn
conn-there [] app k within same = absurd (omega (arith, within))
conn-there (x ∷ apps) app zero within same = (0, omega arith, ap (λ (a : Application). a.conn) same)
conn-there (x ∷ apps) app (suc k) within same =
    more-there x.conn (connections_of apps) app.conn (conn-there apps app k (omega (arith, within)) same)

-- among applications with connections of their own, the weight of a connection is that of its application
weight-there : (apps : List Application) (app : Application) (k : ℕ) → AreDistinct (connections_of apps)
    → k < length apps → slice_index_or apps k app ≡ app → weight_of (map weight_in apps) app.conn ≡ app.weight
weight-there [] app k distinct within same = absurd (omega (arith, within))
weight-there (x ∷ apps) app zero distinct within same =
    rw (eq-eqb x.conn app.conn (ap (λ (a : Application). a.conn) same)) (ap (λ (a : Application). a.weight) same)
weight-there (x ∷ apps) app (suc k) distinct within same =
    let there : Contains (connections_of apps) app.conn = conn-there apps app k (omega (arith, within)) same in
    rw (ne_eqb x.conn app.conn (λ e. distinct.0
    (subst (λ (n : ℕ). Contains (connections_of apps) n) (sym e) there)))
    (weight-there apps app k distinct.1 (omega (arith, within)) same)

pub goes-by : (plan : Plan) (order : List Weight) → IsPlan plan → HasPlanWeights plan order
    → IsPlanOrder plan (λ conn kept. granted (weight_of order conn) kept)
goes-by plan order is weighs = λ weighted app there kept.
    ap (λ (n : ℕ). granted n kept)
    (weighs app.conn ∙ weight-there plan.applications app there.0 is.connections there.1 there.2)
