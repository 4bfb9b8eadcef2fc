use Rattle.std.proofs.Common.{◌≡◌}
use Rattle.link_queue.specs.Writers.{writer_start, writer_forward, writer_backward}
use Rattle.link_queue.proofs.writer.QueueWriter.execute_orders.Given as goal

abbrev pub invariant-loop-count : goal.invariant-loop-count
invariant-loop-count g l =
    (writer_start l.self ≡ writer_start l.fn.self)
    × (writer_forward l.self ≡ writer_forward l.fn.self)
    × (writer_backward l.self ≡ writer_backward l.fn.self)
