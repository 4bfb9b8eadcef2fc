use Rattle.service_loop.proofs.Cases.{ok-then}
use Rattle.service_loop.proofs.Delivered.{gone-nowhere, not-counted, open-unended, received}
use Rattle.service_loop.proofs.delivering.Deliveries.receive.Goals as goal

pub receive-requires-clause-lived : goal.receive-requires-clause-lived
receive-requires-clause-lived g c = (c.requires.delivering.0, c.requires.delivering.3.lived)

pub returns-then-is_over-clause-on : goal.returns-then-is_over-clause-on
returns-then-is_over-clause-on g c life numbers back h =
    gone-nowhere life numbers back (g.L.Link.given c.args.link.now) c.args.self.now h

pub returns-clause-on : goal.returns-clause-on
returns-clause-on g c life numbers back h =
    ok-then c.receive.result (c.receive.ensures.lived life h.lived)
    (λ w. received life numbers back w.0 w.1 (g.L.Link.given c.args.link.now) (g.L.Link.given c.receive.new.link)
    c.args.self.now c.receive.new.self h (c.is_over.ensures.open c.if-is_over.false) (w.2, w.3) c.receive.ensures.writer
    c.receive.ensures.heap)

pub returns-clause-over : goal.returns-clause-over
returns-clause-over g c counted =
    absurd (not-counted c.args.self.now.arrivals (c.is_over.ensures.open c.if-is_over.false) counted)

pub returns-clause-ends : goal.returns-clause-ends
returns-clause-ends g c told is =
    c.receive.ensures.ends
    (open-unended c.args.self.now.arrivals.stream (c.is_over.ensures.open c.if-is_over.false).0) is
