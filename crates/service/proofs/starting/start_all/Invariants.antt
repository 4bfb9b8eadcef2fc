use Rattle.std.proofs.Common.{List, length}
use Rattle.std.specs.List.{AllZip}
use Rattle.std.specs.Vec.Iter.{into_iter_items}
use Rattle.service.specs.Ends.{OpenedEnd}
use Rattle.service.specs.Handshakes.{IsHandshakeEnd}
use Rattle.service.specs.Starting.{HaveScheduledOpsAt}
use Rattle.service.proofs.Stands.{BegunSome}
use Rattle.service.proofs.starting.start_all.Given as goal

abbrev pub invariant-loop-end : goal.invariant-loop-end
invariant-loop-end g l = (ends : List (OpenedEnd g.row.L.Denot))
    → AllZip (IsHandshakeEnd g.L.Link l.common.plan.now) ends l.fn.greeted.items
    → HaveScheduledOpsAt l.common.plan.now ends l.steps
    → BegunSome g.L.Link l.common.plan.now l.common.clock.now ends (into_iter_items l.rest) l.begun.standings.items
    l.begun.items.items l.begun.jobs.items l.begun.writers.items l.begun.seats

abbrev pub decreases-loop-end : goal.decreases-loop-end
decreases-loop-end g l = length (into_iter_items l.rest)
