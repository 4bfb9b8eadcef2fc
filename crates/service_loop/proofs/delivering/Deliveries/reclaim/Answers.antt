use Rattle.service_loop.proofs.Delivered.{few-given, reclaimed}
use Rattle.service_loop.proofs.delivering.Deliveries.reclaim.Goals as goal

pub reclaim-requires-clause-few_given : goal.reclaim-requires-clause-few_given
reclaim-requires-clause-few_given g c =
    few-given c.args.self.now.arrivals.writer.heap _ c.args.self.now.notices c.requires.3.told

pub returns-clause-delivered : goal.returns-clause-delivered
returns-clause-delivered g c life numbers back h =
    let r = c.in_ok-reclaimed.ensures.reclaimed numbers back h.returned in (
      r.0,
      r.1,
      reclaimed life numbers back r.0 r.1 c.args.self.now c.reclaim.new.inbound c.reclaim.new.self h (record {
        life = c.reclaim.ensures.life c.args.self.now.arrivals.table.now;
        fed = c.reclaim.ensures.fed;
        words = c.reclaim.ensures.words;
      }) r.2 r.3 c.reclaim.ensures.programmed,
    )
