use Rattle.std.proofs.Common.{ap, sym, subst}
use Rattle.shared_heap.specs.Fresh.{Writing}
use Rattle.service_loop.specs.Delivering.{HaveDelivered, placed_messages_of}
use Rattle.service_loop.proofs.Delivered.{open-later, told-on}
use Rattle.service_loop.proofs.delivering.Deliveries.send_pending_notices.Goals as goal

pub send_notices-requires : goal.send_notices-requires
send_notices-requires g c = (placed_messages_of c.requires.0.fates, c.requires.3.told)

pub returns-clause-delivered : goal.returns-clause-delivered
returns-clause-delivered g c life numbers back h =
    let d = c.args.self.now in
    subst (λ (w : Writing). HaveDelivered life numbers back
    (record d { arrivals = record d.arrivals { writer = w }; notices = c.send_notices.new.self })) (sym c.send_notices.ensures.writer)
    (told-on life numbers back d c.send_notices.new.self h (c.send_notices.ensures.telling (placed_messages_of life.fates) h.told)
    (λ closing. absurd (open-later d.notices c.send_notices.new.self c.send_notices.ensures.open
    (c.is_closing.ensures.open c.if-is_closing.false) closing)))

pub returns-clause-arrivals : goal.returns-clause-arrivals
returns-clause-arrivals g c =
    ap (λ (w : Writing). record c.args.self.now.arrivals { writer = w }) c.send_notices.ensures.writer
