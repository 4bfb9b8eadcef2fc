use Rattle.std.proofs.Common.{◌≡◌, [], ◌∷◌, ◌++◌, ◌+◌, ◌∙◌, ap, append_assoc, append-nil, arith, length, subst, sym}
use Rattle.std.specs.List.{AllZip}
use Rattle.std.specs.Vec.Iter.{into_iter_items, into_iter_len}
use Rattle.tenant_quota.specs.contracts.seats.SeatsTickets.TheImpl as the_seats
use Rattle.link_queue.specs.contracts.queue_link.QueueLinkLink.TheImpl as the_link
use Rattle.service_threads.specs.Parts.{WasClosed}
use Rattle.service_threads.proofs.Closed.{all-closed}
use Rattle.service_threads.proofs.Each.{at-end, empty-list, zip-push}
use Rattle.service_threads.proofs.workers.close_all.Goals as goal

pub loop-item-init : goal.loop-item-init
loop-item-init g c = (
  [],
  sym c.into_iter-rest.ensures.rest,
  subst (λ xs. AllZip (WasClosed g.C.Clock the_seats.ghosts (the_link.ghosts g.row.R g.R.Wait g.R.Wait-dict)) [] xs)
      (sym c.in_ok-all.ensures.items) tt,
)

pub loop-item-smaller : goal.loop-item-smaller
loop-item-smaller g c =
    let less : length (into_iter_items c.loop-item.rest) ≡ length (c.in-Some.item ∷ into_iter_items c.next.new.self) =
    ap length c.in-Some.ensures.items in
    omega (arith, less)

pub loop-item-preserved : goal.loop-item-preserved
loop-item-preserved g c =
    let past = c.loop-item.invariant.0 in (
      past ++ c.in-Some.item ∷ [],
      c.loop-item.invariant.1 ∙ ap (λ xs. past ++ xs) c.in-Some.ensures.items
          ∙ sym (append_assoc past (c.in-Some.item ∷ []) (into_iter_items c.next.new.self)),
      subst (λ xs. AllZip (WasClosed g.C.Clock the_seats.ghosts (the_link.ghosts g.row.R g.R.Wait g.R.Wait-dict))
          (past ++ c.in-Some.item ∷ []) xs) (sym c.in_ok-push.ensures.items)
          (zip-push (WasClosed g.C.Clock the_seats.ghosts (the_link.ghosts g.row.R g.R.Wait g.R.Wait-dict)) past
          c.loop-item.all.items c.in-Some.item c.close.result c.loop-item.invariant.2
          (record { whole = c.close.ensures.endpoint; parts = c.close.ensures.parts })),
    )

pub returns : goal.returns
returns g c = λ firsts turned.
    let ends = at-end c.next.result
    ((into_iter_len c.loop-item.rest ≡ 0) × (into_iter_len c.next.new.self ≡ 0))
    (λ x. (into_iter_items c.loop-item.rest ≡ x ∷ into_iter_items c.next.new.self)
    × (into_iter_len c.next.new.self + 1 ≡ into_iter_len c.loop-item.rest))
    c.in_default.not-Some c.next.ensures.cases in
    let none : into_iter_items c.loop-item.rest ≡ [] =
    empty-list (into_iter_items c.loop-item.rest) (sym c.loop-item.rest.rest.ok.0 ∙ ends.0) in
    let whole = c.loop-item.invariant.1 ∙ ap (λ xs. c.loop-item.invariant.0 ++ xs) none
    ∙ append-nil c.loop-item.invariant.0 in
    all-closed g.C.Clock the_seats.ghosts (the_link.ghosts g.row.R g.R.Wait g.R.Wait-dict) firsts c.args.over.items
    c.loop-item.all.items turned c.requires
    (subst (λ xs. AllZip (WasClosed g.C.Clock the_seats.ghosts (the_link.ghosts g.row.R g.R.Wait g.R.Wait-dict)) xs
    c.loop-item.all.items) (sym whole) c.loop-item.invariant.2)
