use Rattle.std.proofs.Common.{List, ℕ, ap, sym, ◌∙◌, subst}
use mathlib.Core.List.{IsPrefix}
use Rattle.spsc_queue.specs.declared.piece.Piece.{Piece}
use Rattle.spsc_queue.specs.Ends.{pushed_of, popped_of}
use Rattle.spsc_queue.specs.Pieces.{bytes_of_pieces}
use Rattle.spsc_queue.specs.Readers.{delivered_by, popped_by}
use Rattle.link_queue.specs.declared.orders.Order.{Order}
use Rattle.link_queue.specs.declared.orders.News.{News}
use Rattle.link_queue.specs.Inners.{forwarded}
use Rattle.link_queue.proofs.Meeting.{raised_rose, passed_in_order, passed_whole, came_in_order, came_whole, ended_first, failed_first}
use Rattle.link_queue.proofs.writer_end.WriterEnd.meet.Goals as goal

pub returns-clause-in_order : goal.returns-clause-in_order
returns-clause-in_order g c =
    let w = c.args.self.now in
    let e = c.meet.ensures in
    let to = subst (λ (p : List (Piece Order) × List (Piece Order)). IsPrefix p.0 p.1) (λ i. (e.taken i, e.put i)) e.in_order in
    subst (λ (l : List (List ℕ)). IsPrefix (forwarded w.inner) l) (ap (λ v. v.handed) c.passed.view_is)
    (passed_in_order (popped_of w.orders) (pushed_of c.passed.inside.out) (forwarded w.inner) w.inner.health w.passes c.passed.invariant.closed_last to)

pub returns-clause-all_handed : goal.returns-clause-all_handed
returns-clause-all_handed g c = λ well ample.
    let w = c.args.self.now in
    let e = c.meet.ensures in
    let to = subst (λ (p : List (Piece Order) × List (Piece Order)). IsPrefix p.0 p.1) (λ i. (e.taken i, e.put i)) e.in_order in
    passed_whole (popped_of w.orders) (pushed_of c.passed.inside.out) (forwarded w.inner) w.inner.health w.passes c.passed.invariant.closed_last to
    well ample
    ∙ ap (λ v. v.handed) c.passed.view_is

pub returns-clause-came : goal.returns-clause-came
returns-clause-came g c =
    let w = c.args.self.now in
    let e = c.meet-2.ensures in
    let given = subst (λ (p : List ℕ × List (Piece News)). IsPrefix p.0 (bytes_of_pieces p.1)) (λ i. (e.given i, e.put i)) e.bytes in
    subst (λ (l : List ℕ). IsPrefix l w.inner.came.bytes) (ap (λ v. v.given) c.passed.view_is)
    (came_in_order (delivered_by c.passed.inside.incoming) w.inner.came.bytes (pushed_of w.out) w.inner.ended w.inner.health w.brings given)

pub returns-clause-all_came : goal.returns-clause-all_came
returns-clause-all_came g c = λ ended.
    let w = c.args.self.now in
    let e = c.meet-2.ensures in
    let back = subst (λ (p : List (Piece News) × List (Piece News)). IsPrefix p.0 p.1) (λ i. (e.taken i, e.put i)) e.in_order in
    let was = ap (λ v. v.ended) c.passed.view_is ∙ ended in
    ap (λ v. v.given) (sym c.passed.view_is)
    ∙ came_whole (delivered_by c.passed.inside.incoming) w.inner.came.bytes (popped_by c.passed.inside.incoming)
    (pushed_of w.out) w.inner.ended w.inner.health w.brings back (c.passed.invariant.ends was)
    (c.passed.invariant.gave was)

pub returns-clause-ended : goal.returns-clause-ended
returns-clause-ended g c = λ ended.
    let w = c.args.self.now in
    let e = c.meet-2.ensures in
    let back = subst (λ (p : List (Piece News) × List (Piece News)). IsPrefix p.0 p.1) (λ i. (e.taken i, e.put i)) e.in_order in
    let was = ap (λ v. v.ended) c.passed.view_is ∙ ended in
    w.inner.has_ended (ended_first w.inner.came.bytes (popped_by c.passed.inside.incoming) (pushed_of w.out) w.inner.ended w.inner.health w.brings back (c.passed.invariant.ends was))

pub returns-clause-failed : goal.returns-clause-failed
returns-clause-failed g c = λ failed.
    let w = c.args.self.now in
    let e = c.meet-2.ensures in
    let back = subst (λ (p : List (Piece News) × List (Piece News)). IsPrefix p.0 p.1) (λ i. (e.taken i, e.put i)) e.in_order in
    let fails = c.passed.invariant.fails (ap (λ v. v.failed) c.passed.view_is ∙ failed) in
    failed_first w.inner.came.bytes (popped_by c.passed.inside.incoming) (pushed_of w.out) w.inner.ended w.inner.health w.brings back fails

pub returns-clause-rose : goal.returns-clause-rose
returns-clause-rose g c = λ fails.
    let w = c.args.self.now in
    raised_rose (g.L.Link.failures w.inner.link.start) (g.L.Link.failures w.inner.link.now) (w.inner.failed fails)
