use Rattle.std.proofs.Common.{◌<◌, ◌≤◌, ◌∙◌, List, arith, length, map, refl, subst, sym}
use Rattle.std.proofs.lemmas.List.{length-map}
use Rattle.mrpc_table.specs.declared.limits.TheConstants.{MIN_HEAP}
use Rattle.receive_core.specs.ReceiverTraces.{after_piece, after_hello, empty_trace}
use Rattle.tenant_quota.specs.Drawing.{new_half}
use Rattle.service_loop.specs.ScheduledOps.{AreScheduledOps, KnowTenants}
use Rattle.service_loop.specs.declared.scheduled_op.ScheduledOp.{ScheduledOp}
use Rattle.service.specs.PreparedRun.{HasScheduledOps}
use Rattle.service.proofs.Apps.{app-there, is-application}
use Rattle.service.proofs.Hellos.{on-ok-map}
use Rattle.service.proofs.Stands.{bound-next, first-of, is-begun, is-out, not-drawn-new, out-next, steps-at, steps-within, when-heard}
use Rattle.service.proofs.starting.start_next.Goals as goal

pub bounds-steps-len : goal.bounds-steps-len
bounds-steps-len g c =
    let n = c.requires.next in
    steps-within c.args.common.now.plan.now n.1 n.2 n.3 c.args.steps.now c.len.result n.5
    (omega (arith, c.len.ensures, c.args.begun.now.standings.ok.0, n.6.as_many))

pub start_bound-requires-clause-app : goal.start_bound-requires-clause-app
start_bound-requires-clause-app g c κs within =
    let n = c.requires.next in
    app-there c.args.common.now.plan.now n.3.conn c.args.end.app.now n.4.its_app

pub start_bound-requires-clause-steps : goal.start_bound-requires-clause-steps
start_bound-requires-clause-steps g c κs within =
    let n = c.requires.next in
    let has = steps-at c.args.common.now.plan.now n.1 n.2 n.3 c.args.steps.now c.len.result c.index-steps-len.result n.5
    (omega (arith, c.len.ensures, c.args.begun.now.standings.ok.0, n.6.as_many)) c.index-steps-len.is in
    subst (λ (xs : List ScheduledOp). AreScheduledOps xs) (sym c.as_slice.ensures.value) has.sound

pub start_bound-requires-clause-known : goal.start_bound-requires-clause-known
start_bound-requires-clause-known g c κs within =
    let n = c.requires.next in
    let has = steps-at c.args.common.now.plan.now n.1 n.2 n.3 c.args.steps.now c.len.result c.index-steps-len.result n.5
    (omega (arith, c.len.ensures, c.args.begun.now.standings.ok.0, n.6.as_many)) c.index-steps-len.is in
    subst (λ (xs : List ScheduledOp). KnowTenants (λ tenant. tenant < length c.args.begun.now.seats) xs)
    (sym c.as_slice.ensures.value)
    (subst (λ m. KnowTenants (λ tenant. tenant < m) c.index-steps-len.result.items) (sym n.6.tenants) has.known)

pub start_bound-requires-clause-lived : goal.start_bound-requires-clause-lived
start_bound-requires-clause-lived g c κs within =
    let n = c.requires.next in
    let heard = when-heard g.L.Link c.args.common.now.plan.now n.3 c.args.end n.4 c.in-None.is in
    (after_hello (after_piece empty_trace heard.stream heard.fault) heard.hello, heard.lived, refl)

pub start_bound-requires-clause-working : goal.start_bound-requires-clause-working
start_bound-requires-clause-working g c κs within =
    let n = c.requires.next in
    (when-heard g.L.Link c.args.common.now.plan.now n.3 c.args.end n.4 c.in-None.is).working

pub start_bound-requires-clause-none_held : goal.start_bound-requires-clause-none_held
start_bound-requires-clause-none_held g c κs within =
    let n = c.requires.next in
    (when-heard g.L.Link c.args.common.now.plan.now n.3 c.args.end n.4 c.in-None.is).none_held

pub start_bound-requires-clause-one_heap : goal.start_bound-requires-clause-one_heap
start_bound-requires-clause-one_heap g c κs within =
    let n = c.requires.next in
    (when-heard g.L.Link c.args.common.now.plan.now n.3 c.args.end n.4 c.in-None.is).one_heap

pub start_bound-requires-clause-new_heap : goal.start_bound-requires-clause-new_heap
start_bound-requires-clause-new_heap g c κs within =
    let n = c.requires.next in
    (when-heard g.L.Link c.args.common.now.plan.now n.3 c.args.end n.4 c.in-None.is).not_loaded

pub start_bound-requires-clause-words : goal.start_bound-requires-clause-words
start_bound-requires-clause-words g c κs within =
    let n = c.requires.next in
    let plan = c.args.common.now.plan.now in
    let app = c.args.end.app.now in
    let heard = when-heard g.L.Link plan n.3 c.args.end n.4 c.in-None.is in
    subst (λ words. MIN_HEAP ≤ words) (sym heard.words)
    (is-application plan app c.requires.plan (app-there plan n.3.conn app n.4.its_app)).port.receive.0

pub start_bound-requires-clause-shares : goal.start_bound-requires-clause-shares
start_bound-requires-clause-shares g c κs within =
    let n = c.requires.next in
    c.shares_suffice.ensures.seats_enough (length c.args.begun.now.items.items) c.args.begun.now.seats n.6.shares
    (omega (arith, n.6.few, n.6.as_many, c.requires.few))

pub returns-in-Some : goal.returns-in-Some
returns-in-Some g c = λ whole ends later e after_hello steps begun.
    let plan = c.args.common.now.plan.now in
    let clock = c.args.common.now.clock.now in
    on-ok-map _ _ c.keep_unbound.result (λ stands. out-next g.L.Link plan clock whole ends c.args.begun.now.standings.items
    c.args.begun.now.items.items c.args.begun.now.jobs.items c.args.begun.now.writers.items c.args.begun.now.seats begun
    _ _ _ _ _ e c.args.end.app.now.conn c.args.end.link c.in-Some.why
    (is-out g.L.Link plan e c.args.end after_hello clock c.in-Some.why c.in-Some.is) stands c.keep_unbound.ensures.items
    c.keep_unbound.ensures.jobs c.keep_unbound.ensures.writers c.keep_unbound.ensures.seats) c.keep_unbound.ensures.added

pub returns-in-None : goal.returns-in-None
returns-in-None g c = λ whole ends later e after_hello steps begun.
    let plan = c.args.common.now.plan.now in
    let clock = c.args.common.now.clock.now in
    let heard = when-heard g.L.Link plan e c.args.end after_hello c.in-None.is in
    let has = subst (λ (xs : List ScheduledOp). HasScheduledOps plan e.conn xs) (sym c.as_slice.ensures.value)
    (steps-at plan ends later e c.args.steps.now c.len.result c.index-steps-len.result steps
    (omega (arith, c.len.ensures, c.args.begun.now.standings.ok.0, begun.as_many)) c.index-steps-len.is) in
    let seats = map new_half c.args.begun.now.seats in
    let first = first-of g.L.Link plan e c.args.end after_hello clock heard c.as_slice.result.now seats in
    on-ok-map _ _ c.start_bound.result (λ took. bound-next g.L.Link plan clock whole ends
    c.args.begun.now.standings.items c.args.begun.now.items.items c.args.begun.now.jobs.items
    c.args.begun.now.writers.items c.args.begun.now.seats begun _ _ _ _ _ e c.args.end.app.now first
    (is-begun g.L.Link plan e c.args.end after_hello clock heard c.as_slice.result.now has seats
    (length-map c.args.begun.now.seats new_half ∙ begun.tenants) (not-drawn-new c.args.begun.now.seats)) took refl
    c.shares_suffice.ensures.seats_once_more) (c.start_bound.ensures first.life heard.lived refl)
