use Rattle.std.proofs.Common.{◌≡◌}
use Rattle.link_queue.specs.Writers.{writer_start, writer_forward, writer_backward}
use Rattle.link_queue.proofs.writer.QueueWriter.run.Given as goal

abbrev pub invariant-loop : goal.invariant-loop
invariant-loop g l =
    (goal.iterator-loop g).can_next l.iterator' × (goal.iterator-loop g).is_finite l.iterator'
    × (writer_start l.writer ≡ writer_start l.fn.self)
    × (writer_forward l.writer ≡ writer_forward l.fn.self)
    × (writer_backward l.writer ≡ writer_backward l.fn.self)
