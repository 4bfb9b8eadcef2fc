use Rattle.std.proofs.Common.{◌≡◌, ◌∷◌, ap, arith, length, subst, sym, ◌∙◌, ◌+◌}
use Rattle.std.specs.List.{AllZip}
use Rattle.std.specs.Vec.Iter.{into_iter_items, into_iter_len}
use Rattle.service.specs.Handshakes.{IsHandshakeEnd}
use Rattle.service.specs.Starting.{HaveScheduledOpsAt}
use Rattle.service.proofs.Ending.{at-end, empty-list}
use Rattle.service.proofs.Stands.{all-begun, none-begun, next-few, some-more, some-next}
use Rattle.service.proofs.Zips.{zip-length}
use Rattle.service.proofs.starting.start_all.Goals as goal

pub loop-end-init : goal.loop-end-init
loop-end-init g c = λ ends zip steps.
    none-begun g.L.Link c.args.common.now.plan.now c.args.common.now.clock.now ends _ _ _ _ _ _
    (subst (λ xs. AllZip (IsHandshakeEnd g.L.Link c.args.common.now.plan.now) ends xs) (sym c.into_iter-rest.ensures.rest)
    zip) c.new.ensures.items c.new-2.ensures.items c.new-3.ensures.items c.new-4.ensures.items c.in_ok-seats.ensures.tenants c.in_ok-seats.ensures.shares
    c.in_ok-seats.ensures.not_drawn c.shares_suffice.ensures.whole

pub loop-end-smaller : goal.loop-end-smaller
loop-end-smaller g c =
    let less : length (into_iter_items c.loop-end.rest) ≡ length (c.in-Some.end ∷ into_iter_items c.next.new.self) =
    ap length c.in-Some.ensures.items in
    omega (arith, less)

pub start_next-requires-clause-next : goal.start_next-requires-clause-next
start_next-requires-clause-next g c κs within =
    let witness = c.requires.greeted in
    let next = some-next g.L.Link c.args.common.now.plan.now c.args.common.now.clock.now witness.0 c.in-Some.end
    (into_iter_items c.loop-end.rest) (into_iter_items c.next.new.self) c.loop-end.begun.standings.items
    c.loop-end.begun.items.items c.loop-end.begun.jobs.items c.loop-end.begun.writers.items c.loop-end.begun.seats
    c.in-Some.ensures.items (c.loop-end.invariant witness.0 witness.1 witness.2) in (
      next.whole,
      next.past,
      next.later,
      next.e,
      next.greeted,
      subst (λ xs. HaveScheduledOpsAt c.args.common.now.plan.now xs c.args.steps.now) next.all witness.2,
      next.begun,
    )

pub start_next-requires-clause-few : goal.start_next-requires-clause-few
start_next-requires-clause-few g c κs within =
    let witness = c.requires.greeted in
    let all = zip-length (IsHandshakeEnd g.L.Link c.args.common.now.plan.now) witness.0 c.args.greeted.items witness.1 in
    next-few g.L.Link c.args.common.now.plan.now c.args.common.now.clock.now witness.0 c.in-Some.end
    (into_iter_items c.loop-end.rest) (into_iter_items c.next.new.self) c.loop-end.begun.standings.items
    c.loop-end.begun.items.items c.loop-end.begun.jobs.items c.loop-end.begun.writers.items c.loop-end.begun.seats
    16 (omega (arith, all, c.requires.few))
    (some-next g.L.Link c.args.common.now.plan.now c.args.common.now.clock.now witness.0 c.in-Some.end
    (into_iter_items c.loop-end.rest) (into_iter_items c.next.new.self) c.loop-end.begun.standings.items
    c.loop-end.begun.items.items c.loop-end.begun.jobs.items c.loop-end.begun.writers.items c.loop-end.begun.seats
    c.in-Some.ensures.items (c.loop-end.invariant witness.0 witness.1 witness.2))

pub loop-end-preserved : goal.loop-end-preserved
loop-end-preserved g c = λ ends zip steps.
    let next = some-next g.L.Link c.args.common.now.plan.now c.args.common.now.clock.now ends c.in-Some.end
    (into_iter_items c.loop-end.rest) (into_iter_items c.next.new.self) c.loop-end.begun.standings.items
    c.loop-end.begun.items.items c.loop-end.begun.jobs.items c.loop-end.begun.writers.items c.loop-end.begun.seats
    c.in-Some.ensures.items (c.loop-end.invariant ends zip steps) in
    some-more g.L.Link c.args.common.now.plan.now c.args.common.now.clock.now ends c.in-Some.end
    (into_iter_items c.loop-end.rest) (into_iter_items c.next.new.self) c.loop-end.begun.standings.items
    c.loop-end.begun.items.items c.loop-end.begun.jobs.items c.loop-end.begun.writers.items c.loop-end.begun.seats
    _ _ _ _ _ next
    (c.in_ok-start_next.ensures next.whole next.past next.later next.e next.greeted
    (subst (λ xs. HaveScheduledOpsAt c.args.common.now.plan.now xs c.args.steps.now) next.all steps) next.begun)

pub returns : goal.returns
returns g c = λ ends zip steps.
    let last = at-end c.next.result
    ((into_iter_len c.loop-end.rest ≡ 0) × (into_iter_len c.next.new.self ≡ 0))
    (λ x. (into_iter_items c.loop-end.rest ≡ x ∷ into_iter_items c.next.new.self)
    × (into_iter_len c.next.new.self + 1 ≡ into_iter_len c.loop-end.rest))
    c.in_default.not-Some c.next.ensures.cases in
    all-begun g.L.Link c.args.common.now.plan.now c.args.common.now.clock.now ends _ _ _ _ _ _
    (empty-list (into_iter_items c.loop-end.rest) (sym c.loop-end.rest.rest.ok.0 ∙ last.0))
    (c.loop-end.invariant ends zip steps)
