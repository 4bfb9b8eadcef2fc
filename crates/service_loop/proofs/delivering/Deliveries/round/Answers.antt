use Rattle.std.proofs.Common.{◌++◌, ap, sym, ◌∙◌, subst}
use Rattle.receive_core.specs.ReceiverTraces.{after_fates}
use Rattle.message_delivery.specs.declared.arrivals.Arrivals.{Arrivals}
use Rattle.service_loop.specs.Delivering.{IsCountedAsEnded}
use Rattle.service_loop.specs.declared.delivering.Deliveries.{Deliveries}
use Rattle.service_loop.proofs.Delivered.{cause-as, ended-later, gone}
use Rattle.service_loop.proofs.delivering.Deliveries.round.Goals as goal

pub receive-requires-clause-delivering : goal.receive-requires-clause-delivering
receive-requires-clause-delivering g c =
    let r = c.requires.delivering in
    let one = c.in_ok-reclaimed.ensures.delivered r.0 r.1 r.2 r.3 in
    (r.0, r.1 ++ one.0, r.2 ++ one.1, one.2)

pub turn-requires : goal.turn-requires
turn-requires g c =
    let r = c.requires.delivering in
    let one = c.in_ok-reclaimed.ensures.delivered r.0 r.1 r.2 r.3 in
    let two = c.in_ok-received.ensures.on r.0 (r.1 ++ one.0) (r.2 ++ one.1) one.2 in
    (two.later, (r.1 ++ one.0) ++ two.more, (r.2 ++ one.1) ++ two.gained, two.delivered)

pub send_notices-given-requires : goal.send_notices-given-requires
send_notices-given-requires g c =
    let r = c.requires.delivering in
    let one = c.in_ok-reclaimed.ensures.delivered r.0 r.1 r.2 r.3 in
    let two = c.in_ok-received.ensures.on r.0 (r.1 ++ one.0) (r.2 ++ one.1) one.2 in
    let numbers = (r.1 ++ one.0) ++ two.more in
    let back = (r.2 ++ one.1) ++ two.gained in
    let three = c.in_ok-turned.ensures.delivered two.later numbers back two.delivered in
    (after_fates two.later three.0, numbers, back, three.1)

pub returns-clause-on : goal.returns-clause-on
returns-clause-on g c life first back h =
    let one = c.in_ok-reclaimed.ensures.delivered life first back h in
    let two = c.in_ok-received.ensures.on life (first ++ one.0) (back ++ one.1) one.2 in
    let numbers = (first ++ one.0) ++ two.more in
    let gained = (back ++ one.1) ++ two.gained in
    let three = c.in_ok-turned.ensures.delivered two.later numbers gained two.delivered in
    gone life first back one.0 one.1 three.0 (g.L.Link.given c.args.link.now) (g.L.Link.given c.receive.new.link)
    c.receive.new.self c.send_notices-given.new.self two
    (c.send_notices-given.ensures.delivered (after_fates two.later three.0) numbers gained three.1)

pub returns-clause-cause : goal.returns-clause-cause
returns-clause-cause g c =
    cause-as c.reclaim.new.self.arrivals.stream c.args.self.now.arrivals.stream c.receive.new.self.arrivals.stream
    c.send_notices-given.new.self.arrivals.stream (g.L.Link.failures c.args.link.now) (g.L.Link.failures c.receive.new.link)
    c.reclaim.ensures.stream (ap (λ (a : Arrivals). a.stream) c.send_notices-given.ensures.arrivals ∙ c.turn.ensures.stream)
    c.receive.ensures.cause

pub returns-clause-ends : goal.returns-clause-ends
returns-clause-ends g c told is =
    c.receive.ensures.ends (λ was. told (sym c.reclaim.ensures.stream ∙ was))
    (sym c.turn.ensures.stream ∙ sym (ap (λ (a : Arrivals). a.stream) c.send_notices-given.ensures.arrivals) ∙ is)

pub returns-clause-over : goal.returns-clause-over
returns-clause-over g c counted =
    let r = c.requires.delivering in
    let one = c.in_ok-reclaimed.ensures.delivered r.0 r.1 r.2 r.3 in
    let two = c.in_ok-received.ensures.on r.0 (r.1 ++ one.0) (r.2 ++ one.1) one.2 in
    let numbers = (r.1 ++ one.0) ++ two.more in
    let gained = (r.2 ++ one.1) ++ two.gained in
    let three = c.in_ok-turned.ensures.delivered two.later numbers gained two.delivered in
    let first : IsCountedAsEnded c.reclaim.new.self.arrivals = c.reclaim.ensures.over counted in
    let second : IsCountedAsEnded c.receive.new.self.arrivals =
    subst (λ (d : Deliveries). IsCountedAsEnded d.arrivals) (sym (c.receive.ensures.over first)) first in
    subst IsCountedAsEnded (sym c.send_notices-given.ensures.arrivals)
    (ended-later two.later numbers gained three.0 c.receive.new.self c.turn.new.self two.delivered three.1
    c.turn.ensures.stream second)

pub returns-clause-stream : goal.returns-clause-stream
returns-clause-stream g c counted =
    ap (λ (a : Arrivals). a.stream) c.send_notices-given.ensures.arrivals ∙ c.turn.ensures.stream
    ∙ ap (λ (d : Deliveries). d.arrivals.stream) (c.receive.ensures.over (c.reclaim.ensures.over counted))
    ∙ c.reclaim.ensures.stream
