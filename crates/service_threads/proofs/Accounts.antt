-- The account of a connection's visits after a run.
use Rattle.std.proofs.Common.{◌≡◌, ℕ, true, false, Option, None, Some, length, refl, subst, ◌∙◌, arith}
use Rattle.std.specs.Prelude.{IfSome}
use Rattle.call_history.specs.Trace.{taken}
use Rattle.conn_core.specs.Connections.{conn_trace}
use Rattle.qos_order.specs.Account.{IsBalanced}
use Rattle.run_plan.specs.declared.application.Application.{Application}
use Rattle.run_plan.specs.declared.plan.Plan.{Plan}
use Rattle.service_loop.specs.Rounds.{HasVisitAccount, IsVisitAccountOf, weight_of_visits}
use Rattle.service_loop.specs.declared.visit_account.VisitAccount.{VisitAccount}
use Rattle.service_wiring.specs.Weighing.{visit_account_in}
use Rattle.service_threads.specs.Closings.{ServedEndpoint}
use Rattle.service_threads.specs.Served.{HasAccount, WasVisited}
use Rattle.service_threads.specs.declared.served.BoundConn.{BoundConn}

-- ---- the initial visit account of a connection

weighed-in : (plan : Plan) (app : Application) → plan.weighted ≡ true
    → weight_of_visits (visit_account_in plan app) ≡ Some app.weight
weighed-in plan app is = rw is refl

plain-in : (plan : Plan) (app : Application) → plan.weighted ≡ false → weight_of_visits (visit_account_in plan app) ≡ None
plain-in plan app is = rw is refl

no-share : (s : Option VisitAccount) → weight_of_visits s ≡ None → s ≡ None
no-share None is = refl
no-share (Some share) is = absurd (let wrong : Some share.weight ≡ None = is in cc)

its-share : (s : Option VisitAccount) (weight : ℕ) → weight_of_visits s ≡ Some weight
    → (share : VisitAccount) × (s ≡ Some share) × (share.weight ≡ weight)
its-share None weight is = absurd (let wrong : None ≡ Some weight = is in cc)
its-share (Some share) weight is = (share, refl, (let same : Some share.weight ≡ Some weight = is in cc))

-- ---- its visit account after the run

module _ {C : Type 0} (plan : Plan) (app : Application) (last : ServedEndpoint C) (b : BoundConn) where
  was-visited : (weight : ℕ) (share : VisitAccount) → share.weight ≡ weight
      → IsVisitAccountOf last.kept last.submissions.accepted share
      → length (taken (conn_trace b.submissions.conn)) ≡ last.submissions.accepted → WasVisited weight b share
  was-visited weight share same h count = record {
    weight_is = same;
    balanced = subst (λ (n : ℕ). IsBalanced n share.account) same h.balanced;
    rounds = λ less. let enough = h.rounds less in omega (arith, enough, count);
  }

  pub account-of : b.share ≡ last.share → weight_of_visits last.share ≡ weight_of_visits (visit_account_in plan app)
      → HasVisitAccount last → length (taken (conn_trace b.submissions.conn)) ≡ last.submissions.accepted → HasAccount plan app b
  account-of same weight has count = record {
    weighed = λ is.
        let mine = its-share last.share app.weight (weight ∙ weighed-in plan app is) in (
          mine.0,
          same ∙ mine.1,
          was-visited app.weight mine.0 mine.2
              (subst (λ (s : Option VisitAccount). IfSome s (IsVisitAccountOf last.kept last.submissions.accepted)) mine.1 has) count,
        );
    plain = λ is. same ∙ no-share last.share (weight ∙ plain-in plan app is);
  }
