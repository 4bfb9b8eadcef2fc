-- The applications and the links of a plan.
use Rattle.std.proofs.Common.{◌≡◌, ℕ, zero, suc, ◌+◌, ◌*◌, ◌<◌, ◌≤◌, List, [], ◌∷◌, ◌++◌, length, take, Option, Some}
use Rattle.std.proofs.Common.{None, Contains, All, arith, add-one, refl, ap, subst, ◌∙◌, get_or}
use Rattle.std.specs.Prelude.{IfSome}
use Rattle.std.proofs.lemmas.List.Elements.{All-contains, All-head, All-tail}
use Rattle.std.proofs.Math.Seq.{take-suc}
use Rattle.std.proofs.lemmas.Grind.{flat_map-append}
use Rattle.std.proofs.Common.{Bor}
use Rattle.std.specs.Option.{option_copied}
use Rattle.std.proofs.lemmas.Option.{none-some}
use Rattle.mrpc_table.specs.Valid.{IsValid}
use Rattle.run_plan.specs.Chains.{table_by, app_table}
use Rattle.run_plan.specs.Plans.{IsApplication, IsOwnSchema, IsPlan}
use Rattle.run_plan.specs.Links.{all_ends, application_in, connections_of, ends_of}
use Rattle.run_plan.specs.declared.application.Application.{Application}
use Rattle.run_plan.specs.declared.application.OwnSchema.{OwnSchema}
use Rattle.run_plan.specs.declared.plan.LinkPlan.{LinkPlan}
use Rattle.run_plan.specs.declared.plan.Plan.{Plan}
use Rattle.service.proofs.Finding.{few_below, found, found_number, is_found}

-- ---- applications

pub app-found : (plan : Plan) (conn : ℕ) → Contains (connections_of plan.applications) conn
    → (app : Application) × (application_in plan.applications conn ≡ Some app)
app-found plan conn has = found (λ (app : Application). app.conn) conn plan.applications has

pub app-there : (plan : Plan) (conn : ℕ) (app : Application) → application_in plan.applications conn ≡ Some app
    → Contains plan.applications app
app-there plan conn app same = (is_found _ plan.applications app same).there

pub app-number : (plan : Plan) (conn : ℕ) (app : Application) → application_in plan.applications conn ≡ Some app
    → app.conn ≡ conn
app-number plan conn app same = found_number (λ (app : Application). app.conn) conn plan.applications app same

pub is-application : (plan : Plan) (app : Application) → IsPlan plan → Contains plan.applications app
    → IsApplication plan app
is-application plan app h there = All-contains (IsApplication plan) plan.applications app h.applications there

valid-by : (plan : Plan) (own : Option OwnSchema) → IsValid plan.table → IfSome own (IsOwnSchema plan)
    → IsValid (table_by plan.table own)
valid-by plan None shared h = shared
valid-by plan (Some own) shared h = h.table

pub valid-table : (plan : Plan) (app : Application) → IsPlan plan → Contains plan.applications app
    → IsValid (app_table plan app)
valid-table plan app h there = valid-by plan app.own h.table (is-application plan app h there).own

-- ---- ends of links

-- what holds of all ends holds of both ends of the link at an index
pub both-ends : (P : ℕ → Type 0) (links : List LinkPlan) (i : ℕ) (d : LinkPlan) → i < length links → All P (all_ends links)
    → P (get_or links i d).a × P (get_or links i d).b
both-ends P [] i d within all = absurd (omega (arith, within))
both-ends P (x ∷ links) zero d within all = (
  All-head P x.a (x.b ∷ all_ends links) all,
  All-head P x.b (all_ends links) (All-tail P x.a (x.b ∷ all_ends links) all),
)
both-ends P (x ∷ links) (suc i) d within all =
    both-ends P links i d (omega (arith, within))
    (All-tail P x.b (all_ends links) (All-tail P x.a (x.b ∷ all_ends links) all))

-- the ends of one more link
pub ends-more : (links : List LinkPlan) (i : ℕ) (d : LinkPlan) → i < length links
    → all_ends (take (i + 1) links) ≡ all_ends (take i links) ++ (get_or links i d).a ∷ (get_or links i d).b ∷ []
ends-more links i d within =
    let upto : take (i + 1) links ≡ take i links ++ get_or links i d ∷ [] = rw add-one (take-suc links i d within) in
    ap all_ends upto ∙ flat_map-append ends_of (take i links) (get_or links i d ∷ [])

-- ---- the number of ends

pub ends-count : (links : List LinkPlan) → length (all_ends links) ≡ 2 * length links
ends-count [] = refl
ends-count (l ∷ links) = let rest = ends-count links in omega arith

conn-below : (apps : List Application) → ((app : Application) → Contains apps app → app.conn < 17) → (n : ℕ)
    → Contains (connections_of apps) n → n < 17
conn-below apps each n has =
    let one = found (λ (app : Application). app.conn) n apps has in
    subst (λ k. k < 17) (found_number (λ (app : Application). app.conn) n apps one.0 one.1)
    (each one.0 (is_found _ apps one.0 one.1).there)

pub few-ends : (plan : Plan) → IsPlan plan → length (all_ends plan.links) ≤ 16
few-ends plan h =
    let below = few_below (all_ends plan.links) 17 h.pairs.distinct (λ n has. conn-below plan.applications
    (λ app there. let port = (is-application plan app h there).port in let most : app.conn ≤ 16 = port.conn.1 in omega arith)
    n (All-contains (λ conn. Contains (connections_of plan.applications) conn) (all_ends plan.links) n h.pairs.known has)) in
    let count = ends-count plan.links in
    omega arith

-- a present option has a value that can be lent
pub lent-there : {X : Type 0} (o : Option (Bor X)) (x : X) → option_copied o ≡ Some x
    → ((r : Bor X) → o ≡ Some r → ⊥) → ⊥
lent-there None x is never = none-some x is
lent-there (Some r) x is never = never r refl
