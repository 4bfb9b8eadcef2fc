use Rattle.std.proofs.Common.{ap, ◌∙◌}
use Rattle.service_loop.specs.Delivering.{placed_messages_of}
use Rattle.service_loop.proofs.Delivered.{told-on}
use Rattle.service_loop.proofs.delivering.Deliveries.close.Goals as goal

pub returns-clause-delivered : goal.returns-clause-delivered
returns-clause-delivered g c life numbers back h =
    let given = c.is_sent.ensures c.if-not-is_sent.false in
    told-on life numbers back c.args.self.now c.close.new.self h
    (c.close.ensures.telling c.args.self.now.arrivals.writer.heap (placed_messages_of life.fates) h.told)
    (λ closing. record {
      all = c.is_complete.ensures c.if-not-is_complete.false;
      waiting = ap (λ x. x.items) c.close.ensures.waiting ∙ given.0;
      owed = c.close.ensures.owed ∙ given.1;
    })
