use Rattle.std.proofs.Common.{◌≡◌, inl}
use Rattle.message_delivery.specs.declared.arrivals.StreamState.TheVariants.{Ended, Failed, Open}
use Rattle.service_loop.proofs.Delivered.{not-counted, stopped}
use Rattle.service_loop.proofs.delivering.Deliveries.stop.Goals as goal

pub returns-then-is_over-clause-over : goal.returns-then-is_over-clause-over
returns-then-is_over-clause-over c = c.is_over.ensures.over c.if-is_over.true

pub returns-clause-delivered : goal.returns-clause-delivered
returns-clause-delivered c life numbers back h =
    stopped life numbers back c.args.self.now (c.is_over.ensures.open c.if-is_over.false).0 h

pub returns-clause-over : goal.returns-clause-over
returns-clause-over c = inl (λ is. absurd (let wrong : Failed ≡ Open = is in cc))

pub returns-clause-ended : goal.returns-clause-ended
returns-clause-ended c is = absurd (let wrong : Failed ≡ Ended = is in cc)

pub returns-clause-only : goal.returns-clause-only
returns-clause-only c counted =
    absurd (not-counted c.args.self.now.arrivals (c.is_over.ensures.open c.if-is_over.false) counted)
