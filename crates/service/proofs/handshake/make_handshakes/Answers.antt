use Rattle.std.proofs.Common.{◌∙◌, [], ◌∷◌, All, Contains, List, ap, arith, get_or, length, length-append, refl, subst, sym, take}
use Rattle.std.proofs.lemmas.List.{take_all}
use Rattle.run_plan.specs.Links.{all_ends, connections_of}
use Rattle.run_plan.specs.declared.plan.LinkPlan.{LinkPlan}
use Rattle.service.specs.Handshakes.{AreHandshakeEnds}
use Rattle.service.proofs.Apps.{both-ends, ends-more}
use Rattle.service.proofs.Opens.{cause-none, none-greeted, were-more}
use Rattle.service.proofs.handshake.make_handshakes.Goals as goal

pub pairs-init : goal.pairs-init
pairs-init g c =
    let long = ap length c.new-ends.ensures.items in (
      none-greeted g.F.L.Link c.args.plan.now g.F.Fabric.pair c.new-ends.result.items c.new-ends.ensures.items,
      omega (arith, long),
      refl,
      refl,
    )

pub make_handshake-requires-clause-known_a : goal.make_handshake-requires-clause-known_a
make_handshake-requires-clause-known_a g c =
    (both-ends (λ conn. Contains (connections_of c.args.plan.now.applications) conn) c.as_slice-links.result.now
    c.pairs.pair-index (record { a = 0; b = 0 }) c.pairs-test.true
    (subst (λ (links : List LinkPlan). All (λ conn. Contains (connections_of c.args.plan.now.applications) conn)
    (all_ends links)) (sym c.as_slice-links.ensures) c.requires.pairs.known)).0

pub make_handshake-requires-clause-known_b : goal.make_handshake-requires-clause-known_b
make_handshake-requires-clause-known_b g c =
    (both-ends (λ conn. Contains (connections_of c.args.plan.now.applications) conn) c.as_slice-links.result.now
    c.pairs.pair-index (record { a = 0; b = 0 }) c.pairs-test.true
    (subst (λ (links : List LinkPlan). All (λ conn. Contains (connections_of c.args.plan.now.applications) conn)
    (all_ends links)) (sym c.as_slice-links.ensures) c.requires.pairs.known)).1

pub pairs-preserved : goal.pairs-preserved
pairs-preserved g c =
    let inv = c.pairs.invariant in
    let none : LinkPlan = record { a = 0; b = 0 } in
    let links = c.as_slice-links.result.now in
    let pair = get_or links c.pairs.pair-index none in
    let more = ends-more links c.pairs.pair-index none c.pairs-test.true in
    let both = c.in_ok-make_handshake.ensures in
    let long = ap length both.added in
    let two = length-append c.pairs.ends.items (both.first ∷ both.second ∷ []) in
    let away = c.in_ok-a.ensures.away in (
      were-more g.F.L.Link c.args.plan.now g.F.Fabric.pair (all_ends (take c.pairs.pair-index links)) _
          c.pairs.ends.items _ (record { conn = pair.a; link = c.in_ok-a.a }) (record { conn = pair.b; link = c.in_ok-a.b })
          both.first both.second inv.0 both.a_is_end both.b_is_end c.in_ok-a.ensures.pair more both.added,
      omega (arith, away, inv.1, long, two),
      c.in_ok-a.ensures.back ∙ inv.2,
      c.in_ok-a.ensures.cause.stays (λ bad. cc) ∙ inv.3,
    )

pub returns-clause-greeted : goal.returns-clause-greeted
returns-clause-greeted g c =
    subst (λ conns. AreHandshakeEnds g.F.L.Link c.args.plan.now g.F.Fabric.pair conns c.pairs.ends.items)
    (ap all_ends (take_all c.pairs.pair-index c.as_slice-links.result.now (omega (arith, c.pairs-test.false))
    ∙ c.as_slice-links.ensures)) c.pairs.invariant.0

pub returns-clause-cause : goal.returns-clause-cause
returns-clause-cause g c = cause-none _ _ _ (λ bad. cc) c.pairs.invariant.3
