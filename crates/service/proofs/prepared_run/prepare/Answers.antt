use Rattle.std.proofs.Common.{◌++◌, ◌∷◌, [], Contains, All, List, get_or, sym, subst, take}
use Rattle.std.specs.List.{AllZip}
use Rattle.run_plan.specs.Links.{all_ends, connections_of}
use Rattle.run_plan.specs.declared.plan.LinkPlan.{LinkPlan}
use Rattle.service.specs.PreparedRun.{HasScheduledOps}
use Rattle.service.proofs.Apps.{both-ends, ends-more}
use Rattle.service.proofs.Zips.{zip-two}
use Rattle.service.proofs.prepared_run.prepare.Goals as goal

pub scheduled_ops_on-requires-clause-known : goal.scheduled_ops_on-requires-clause-known
scheduled_ops_on-requires-clause-known c =
    (both-ends (λ conn. Contains (connections_of c.args.plan.now.applications) conn) c.as_slice-links.result.now
    c.pairs.pair-index (record { a = 0; b = 0 }) c.pairs-test.true
    (subst (λ (links : List LinkPlan). All (λ conn. Contains (connections_of c.args.plan.now.applications) conn)
    (all_ends links)) (sym c.as_slice-links.ensures) c.requires.pairs.known)).0

pub scheduled_ops_on-requires-in-pairs-clause-known : goal.scheduled_ops_on-requires-in-pairs-clause-known
scheduled_ops_on-requires-in-pairs-clause-known c =
    (both-ends (λ conn. Contains (connections_of c.args.plan.now.applications) conn) c.as_slice-links.result.now
    c.pairs.pair-index (record { a = 0; b = 0 }) c.pairs-test.true
    (subst (λ (links : List LinkPlan). All (λ conn. Contains (connections_of c.args.plan.now.applications) conn)
    (all_ends links)) (sym c.as_slice-links.ensures) c.requires.pairs.known)).1

pub pairs-preserved : goal.pairs-preserved
pairs-preserved c =
    let links = c.as_slice-links.result.now in
    let i = c.pairs.pair-index in
    let none : LinkPlan = record { a = 0; b = 0 } in
    subst (λ conns. AllZip (λ conn steps. HasScheduledOps c.args.plan.now conn steps.items) conns
    c.push_pair.new.xs.items) (sym (ends-more links i none c.pairs-test.true))
    (subst (λ all. AllZip (λ conn steps. HasScheduledOps c.args.plan.now conn steps.items)
    (all_ends (take i links) ++ (get_or links i none).a ∷ (get_or links i none).b ∷ []) all)
    (sym c.in_ok-push_pair.ensures)
    (zip-two (λ conn steps. HasScheduledOps c.args.plan.now conn steps.items) (all_ends (take i links)) c.pairs.steps.items
    (get_or links i none).a (get_or links i none).b c.in_ok-first.first c.in_ok-second.second c.pairs.invariant
    c.in_ok-first.ensures c.in_ok-second.ensures))
