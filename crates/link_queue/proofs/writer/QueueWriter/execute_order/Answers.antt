use Rattle.std.proofs.Common.{◌≡◌, ◌≢◌, [], ◌∷◌, ◌++◌, rules}
use Rattle.spsc_queue.specs.declared.piece.Piece.TheVariants.{Bytes, Sentinel}
use Rattle.spsc_queue.specs.Ends.{pushed_of, popped_of}
use Rattle.link_queue.specs.declared.orders.Order.TheVariants.{Finish, Close}
use Rattle.link_queue.specs.declared.orders.Health.TheVariants.{Working}
use Rattle.link_queue.specs.Inners.{forwarded}
use Rattle.link_queue.proofs.Writing.{frame_was_sent, frame_was_left, finish_was_passed, close_was_passed, brings_back_still, brings_back_same}
use Rattle.link_queue.proofs.writer.QueueWriter.execute_order.Goals as goal

pub invariant_of-self-then-eq : goal.invariant_of-self-then-eq
invariant_of-self-then-eq g c =
    let old = c.args.self.now in
    let e = c.send.ensures in
    let works : old.inner.health ≡ Working = search rules in
    let more : popped_of c.pop.new.self ≡ popped_of old.orders ++ Bytes c.as_slice.result.now ∷ [] = cc (c.in-Some-Bytes.ensures.taken, c.in-Some-Bytes.field-0-is, c.as_slice.ensures) in
    record {
      passes = frame_was_sent (popped_of old.orders) _ (forwarded old.inner) _ c.as_slice.result.now old.closed old.inner.health _ works c.requires more e.passed e.kept old.passes;
      brings = brings_back_still (pushed_of old.out) old.held old.inner.came.bytes _ old.inner.ended _ old.inner.health _ works e.came e.ended old.brings;
    }

pub invariant_of-self-else-eq : goal.invariant_of-self-else-eq
invariant_of-self-else-eq g c =
    let old = c.args.self.now in
    let fails : old.inner.health ≢ Working = search rules in
    let more : popped_of c.pop.new.self ≡ popped_of old.orders ++ Bytes c.in-Some-Bytes.frame ∷ [] = cc (c.in-Some-Bytes.ensures.taken, c.in-Some-Bytes.field-0-is) in
    record {
      passes = frame_was_left (popped_of old.orders) _ (forwarded old.inner) c.in-Some-Bytes.frame old.closed old.inner.health fails c.requires more old.passes;
      brings = old.brings;
    }

pub invariant_of-self-in-Some-Sentinel-Finish : goal.invariant_of-self-in-Some-Sentinel-Finish
invariant_of-self-in-Some-Sentinel-Finish g c =
    let old = c.args.self.now in
    let arm = c.in-Some-Sentinel-Finish in
    let e = c.finish.ensures in
    let more : popped_of c.pop.new.self ≡ popped_of old.orders ++ Sentinel Finish ∷ [] = cc (arm.ensures.taken, arm.field-0-is, arm.field-0-0-is) in
    record {
      passes = finish_was_passed (popped_of old.orders) _ (forwarded old.inner) _ old.closed old.inner.health _ c.requires more e.passed e.health old.passes;
      brings = brings_back_same (pushed_of old.out) old.held old.inner.came.bytes _ old.inner.ended _ old.inner.health _ e.came e.ended e.health old.brings;
    }

pub invariant_of-self-in-Some-Sentinel-Close : goal.invariant_of-self-in-Some-Sentinel-Close
invariant_of-self-in-Some-Sentinel-Close g c =
    let old = c.args.self.now in
    let arm = c.in-Some-Sentinel-Close in
    let e = c.finish-in-Some-Sentinel-Close.ensures in
    let more : popped_of c.pop.new.self ≡ popped_of old.orders ++ Sentinel Close ∷ [] = cc (arm.ensures.taken, arm.field-0-is, arm.field-0-0-is) in
    record {
      passes = close_was_passed (popped_of old.orders) _ (forwarded old.inner) _ old.closed old.inner.health _ c.requires more e.passed e.health old.passes;
      brings = brings_back_same (pushed_of old.out) old.held old.inner.came.bytes _ old.inner.ended _ old.inner.health _ e.came e.ended e.health old.brings;
    }
