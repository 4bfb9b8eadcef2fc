use Rattle.std.proofs.Common.{refl, []}
use Rattle.message_delivery.proofs.Lived.{appends-nothing, ended-uncut, failed-uncut, fed-nothing, kept-appends, open-uncut}
use Rattle.message_delivery.proofs.arrivals.Arrivals.receive.Goals as goal

pub returns-then-is_over-clause-lived : goal.returns-then-is_over-clause-lived
returns-then-is_over-clause-lived g c life h = (
  [],
  life.fault,
  appends-nothing (g.L.Link.given c.args.link.now),
  fed-nothing life c.args.self.now c.args.self.now h refl refl refl refl refl refl (λ no. no) (λ is. is),
)

pub returns-in-Idle-clause-lived : goal.returns-in-Idle-clause-lived
returns-in-Idle-clause-lived g c life h = (
  [],
  life.fault,
  kept-appends (g.L.Link.given c.args.link.now) (g.L.Link.given c.receive.new.self) c.in-Idle.ensures.kept,
  fed-nothing life c.args.self.now c.args.self.now h refl refl refl refl refl refl (λ no. no) (λ is. is),
)

pub returns-in-End-clause-lived : goal.returns-in-End-clause-lived
returns-in-End-clause-lived g c life h = (
  [],
  life.fault,
  kept-appends (g.L.Link.given c.args.link.now) (g.L.Link.given c.receive.new.self) c.in-End.ensures.kept,
  fed-nothing life c.args.self.now _ h refl refl refl refl refl refl
      (λ no. open-uncut c.args.self.now.stream (c.is_over.ensures.open c.if-is_over.false).0)
      (λ is. absurd (ended-uncut _ refl is)),
)

pub returns-in-Failed-clause-lived : goal.returns-in-Failed-clause-lived
returns-in-Failed-clause-lived g c life h = (
  [],
  life.fault,
  kept-appends (g.L.Link.given c.args.link.now) (g.L.Link.given c.receive.new.self) c.in-Failed.ensures.kept,
  fed-nothing life c.args.self.now _ h refl refl refl refl refl refl
      (λ no. open-uncut c.args.self.now.stream (c.is_over.ensures.open c.if-is_over.false).0)
      (λ is. absurd (failed-uncut _ refl is)),
)
