use Rattle.std.proofs.Common.{◌≡◌, rules}
use Rattle.std.specs.Bool.{IsTrue}
use Rattle.link_queue.specs.declared.orders.Health.TheVariants.{Failed}
use Rattle.link_queue.proofs.Meeting.{raised_rose}
use Rattle.link_queue.proofs.writer_end.WriterEnd.failed.Goals as goal

pub returns-clause-rose : goal.returns-clause-rose
returns-clause-rose g c =
    let inner = c.args.self.now.inner in
    let fails : (IsTrue c.eq.result → inner.health ≡ Failed) = search rules in
    λ yes. raised_rose (g.L.Link.failures inner.link.start) (g.L.Link.failures inner.link.now) (inner.failed (fails yes))
