use Rattle.std.proofs.Common.{◌≡◌, Some}
use Rattle.spsc_queue.specs.Ends.{pushed_of}
use Rattle.link_queue.proofs.Writing.{held_was_put}
use Rattle.link_queue.proofs.writer.QueueWriter.flush_held.Goals as goal

pub invariant_of-self : goal.invariant_of-self
invariant_of-self g c =
    let old = c.args.self.now in
    let was : old.held ≡ Some c.in-Some.piece = cc (c.in-Some.is, c.in-Some.ensures.value) in
    record {
      passes = old.passes;
      brings = held_was_put (pushed_of old.out) _ c.in-Some.piece old.held _ old.inner.came.bytes old.inner.ended old.inner.health was c.take.ensures.after c.in-Ok.ensures.done old.brings;
    }
