use Rattle.std.proofs.Common.{◌≡◌, [], ap, arith, length, sym, ◌∙◌, ◌++◌, ◌∷◌, ◌+◌}
use Rattle.std.specs.Prelude.{option_to_list}
use Rattle.std.specs.Vec.Iter.{into_iter_items, into_iter_len}
use Rattle.tenant_quota.specs.contracts.seats.SeatsTickets.TheImpl as the_seats
use Rattle.link_queue.specs.contracts.queue_link.QueueLinkLink.TheImpl as the_link
use Rattle.service_threads.specs.Served.{HasServed}
use Rattle.service_threads.proofs.Each.{all-met, at-end, empty-list, next-of, none-met, one-more, some-end, some-writer}
use Rattle.service_threads.proofs.reconciling.reconcile_each.Goals as goal

pub loop-one-init : goal.loop-one-init
loop-one-init g c = λ openings left.
    none-met g.C.Clock the_seats.ghosts (the_link.ghosts g.row.R g.R.Wait g.R.Wait-dict)
    (λ o met. HasServed g.C.Clock g.L.Link o met.bound met.seats met.link) openings _ c.args.closed.items _
    c.args.ends.items _ c.args.writers.items _ c.in_ok-all.ensures.items c.into_iter-rest.ensures.rest
    c.into_iter-ends.ensures.rest c.into_iter-writers.ensures.rest left

pub loop-one-smaller : goal.loop-one-smaller
loop-one-smaller g c =
    let less : length (into_iter_items c.loop-one.rest) ≡ length (c.in-Some.one ∷ into_iter_items c.next.new.self) =
    ap length c.in-Some.ensures.items in
    omega (arith, less)

pub unreachable-requires : goal.unreachable-requires
unreachable-requires g c =
    let ends = at-end c.next-end.result
    ((into_iter_len c.loop-one.ends ≡ 0) × (into_iter_len c.next-end.new.self ≡ 0))
    (λ x. (into_iter_items c.loop-one.ends ≡ x ∷ into_iter_items c.next-end.new.self)
    × (into_iter_len c.next-end.new.self + 1 ≡ into_iter_len c.loop-one.ends))
    c.in_default-end.not-Some c.next-end.ensures.cases in
    some-end g.C.Clock the_seats.ghosts (the_link.ghosts g.row.R g.R.Wait g.R.Wait-dict)
    (λ o met. HasServed g.C.Clock g.L.Link o met.bound met.seats met.link) c.requires.left.0 c.loop-one.all.items
    c.in-Some.one (into_iter_items c.loop-one.rest) (into_iter_items c.next.new.self) (into_iter_items c.loop-one.ends)
    (into_iter_items c.loop-one.writers) c.in-Some.ensures.items
    (empty-list (into_iter_items c.loop-one.ends) (sym c.loop-one.ends.rest.ok.0 ∙ ends.0))
    (c.loop-one.invariant c.requires.left.0 c.requires.left.1)

pub unreachable-requires-in_default-writer : goal.unreachable-requires-in_default-writer
unreachable-requires-in_default-writer g c =
    let ends = at-end c.next-writer.result
    ((into_iter_len c.loop-one.writers ≡ 0) × (into_iter_len c.next-writer.new.self ≡ 0))
    (λ x. (into_iter_items c.loop-one.writers ≡ x ∷ into_iter_items c.next-writer.new.self)
    × (into_iter_len c.next-writer.new.self + 1 ≡ into_iter_len c.loop-one.writers))
    c.in_default-writer.not-Some c.next-writer.ensures.cases in
    some-writer g.C.Clock the_seats.ghosts (the_link.ghosts g.row.R g.R.Wait g.R.Wait-dict)
    (λ o met. HasServed g.C.Clock g.L.Link o met.bound met.seats met.link) c.requires.left.0 c.loop-one.all.items
    c.in-Some.one (into_iter_items c.loop-one.rest) (into_iter_items c.next.new.self) (into_iter_items c.loop-one.ends)
    (into_iter_items c.loop-one.writers) c.in-Some.ensures.items
    (empty-list (into_iter_items c.loop-one.writers) (sym c.loop-one.writers.rest.ok.0 ∙ ends.0))
    (c.loop-one.invariant c.requires.left.0 c.requires.left.1)

pub reconcile-requires-clause-left : goal.reconcile-requires-clause-left
reconcile-requires-clause-left g c κs within =
    let next = next-of g.C.Clock the_seats.ghosts (the_link.ghosts g.row.R g.R.Wait g.R.Wait-dict)
    (λ o met. HasServed g.C.Clock g.L.Link o met.bound met.seats met.link) c.requires.left.0 c.loop-one.all.items
    c.in-Some.one c.in-Some-end.end c.in-Some-writer.writer (into_iter_items c.loop-one.rest)
    (into_iter_items c.next.new.self) (into_iter_items c.loop-one.ends) (into_iter_items c.next-end.new.self)
    (into_iter_items c.loop-one.writers) (into_iter_items c.next-writer.new.self) c.in-Some.ensures.items
    (c.next-end.ensures.items ∙ ap (λ o. option_to_list o ++ into_iter_items c.next-end.new.self) c.in-Some-end.is)
    (c.next-writer.ensures.items
    ∙ ap (λ o. option_to_list o ++ into_iter_items c.next-writer.new.self) c.in-Some-writer.is)
    (c.loop-one.invariant c.requires.left.0 c.requires.left.1) in
    (next.o, next.is_left)

pub loop-one-preserved : goal.loop-one-preserved
loop-one-preserved g c = λ openings left.
    one-more g.C.Clock the_seats.ghosts (the_link.ghosts g.row.R g.R.Wait g.R.Wait-dict)
    (λ o met. HasServed g.C.Clock g.L.Link o met.bound met.seats met.link) openings c.loop-one.all.items _
    c.in-Some.one c.in-Some-end.end c.in-Some-writer.writer c.in_ok-met.met (into_iter_items c.loop-one.rest)
    (into_iter_items c.next.new.self) (into_iter_items c.loop-one.ends) (into_iter_items c.next-end.new.self)
    (into_iter_items c.loop-one.writers) (into_iter_items c.next-writer.new.self) c.in-Some.ensures.items
    (c.next-end.ensures.items ∙ ap (λ o. option_to_list o ++ into_iter_items c.next-end.new.self) c.in-Some-end.is)
    (c.next-writer.ensures.items
    ∙ ap (λ o. option_to_list o ++ into_iter_items c.next-writer.new.self) c.in-Some-writer.is) c.in_ok-push.ensures.items
    (λ o is. c.in_ok-met.ensures.served o is) (c.loop-one.invariant openings left)

pub returns : goal.returns
returns g c = record {
  served = λ openings left.
      let ends = at-end c.next.result
      ((into_iter_len c.loop-one.rest ≡ 0) × (into_iter_len c.next.new.self ≡ 0))
      (λ x. (into_iter_items c.loop-one.rest ≡ x ∷ into_iter_items c.next.new.self)
      × (into_iter_len c.next.new.self + 1 ≡ into_iter_len c.loop-one.rest))
      c.in_default.not-Some c.next.ensures.cases in
      let none : into_iter_items c.loop-one.rest ≡ [] =
      empty-list (into_iter_items c.loop-one.rest) (sym c.loop-one.rest.rest.ok.0 ∙ ends.0) in
      all-met g.C.Clock the_seats.ghosts (the_link.ghosts g.row.R g.R.Wait g.R.Wait-dict)
      (λ o met. HasServed g.C.Clock g.L.Link o met.bound met.seats met.link) openings c.loop-one.all.items
      (into_iter_items c.loop-one.rest) (into_iter_items c.loop-one.ends) (into_iter_items c.loop-one.writers) none
      (c.loop-one.invariant openings left);
}
