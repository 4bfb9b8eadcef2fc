use Rattle.std.proofs.Common.{◌+◌, ◌∙◌, ap, arith, length, subst, sym}
use Rattle.std.proofs.lemmas.List.{length-map}
use Rattle.std.specs.List.{AllZip}
use Rattle.run_plan.specs.Links.{all_ends}
use Rattle.service.specs.Concluding.{WasServedAt}
use Rattle.service.specs.Ends.{OpenedEnd}
use Rattle.service.specs.Handshakes.{IsHandshakeEnd}
use Rattle.service.specs.Served.{WasServed}
use Rattle.service.specs.declared.served.ServedConn.{ServedConn}
use Rattle.service.proofs.Apps.{few-ends}
use Rattle.service.proofs.Opens.{steps-of-ends}
use Rattle.service.proofs.TwoByTwo.{pairs-later}
use Rattle.service.proofs.Zips.{map-zip, zip-length, zip-of}
use Rattle.service.proofs.serving.serve.Goals as goal

pub run_all-requires-clause-greeted : goal.run_all-requires-clause-greeted
run_all-requires-clause-greeted g c κs within =
    let w = c.in_ok-greeted.ensures.greeted in (
      w.ends,
      w.each,
      steps-of-ends c.args.plan.now (all_ends c.args.plan.now.links) w.ends
          c.args.prepared.now.steps.items c.as_slice.result.now w.are c.as_slice.ensures.value c.requires.prepared,
    )

pub run_all-requires-clause-few : goal.run_all-requires-clause-few
run_all-requires-clause-few g c κs within =
    let w = c.in_ok-greeted.ensures.greeted in
    let plan = c.args.plan.now in
    let long = zip-length (IsHandshakeEnd g.F.L.Link plan) w.ends c.in_ok-greeted.greeted.items w.each in
    let conns = length-map w.ends (λ (e : OpenedEnd g.row.F-L.Denot). e.conn) in
    let are = ap length w.are in
    let few = few-ends plan c.requires.plan in
    omega (arith, long, conns, are, few)

pub returns-clause-served : goal.returns-clause-served
returns-clause-served g c =
    let w = c.in_ok-greeted.ensures.greeted in
    let plan = c.args.plan.now in
    let clock = c.args.clock.now in
    let conns = c.in_ok-served.served.conns.items in
    let at = c.in_ok-served.ensures.served w.ends w.each
    (steps-of-ends plan (all_ends plan.links) w.ends c.args.prepared.now.steps.items c.as_slice.result.now w.are c.as_slice.ensures.value c.requires.prepared) in
    subst (λ ns. AllZip (WasServed g.C.Clock g.F.L.Link plan clock) ns conns) w.are
    (map-zip (λ (e : OpenedEnd g.row.F-L.Denot). e.conn) (WasServed g.C.Clock g.F.L.Link plan clock) w.ends conns
    (zip-of (WasServedAt g.C.Clock g.F.L.Link plan clock) (λ e s. WasServed g.C.Clock g.F.L.Link plan clock e.conn s)
    (λ e s h. h.served) w.ends conns at))

pub returns-clause-pairs : goal.returns-clause-pairs
returns-clause-pairs g c =
    let w = c.in_ok-greeted.ensures.greeted in
    let plan = c.args.plan.now in
    let clock = c.args.clock.now in
    let conns = c.in_ok-served.served.conns.items in
    let at = c.in_ok-served.ensures.served w.ends w.each
    (steps-of-ends plan (all_ends plan.links) w.ends c.args.prepared.now.steps.items c.as_slice.result.now w.are c.as_slice.ensures.value c.requires.prepared) in
    pairs-later (λ (e : OpenedEnd g.row.F-L.Denot). e.link) g.F.Fabric.pair (λ (s : ServedConn g.row.F-L.Denot). s.link)
    g.F.L.Link.since g.F.L.Link.itself g.met.F.Fabric.stays_pair w.ends conns
    (zip-of (WasServedAt g.C.Clock g.F.L.Link plan clock)
    (λ e s. (first : _) → g.F.L.Link.since first e.link → g.F.L.Link.since first s.link) (λ e s h. h.same_link)
    w.ends conns at) w.pairs

pub returns-clause-away : goal.returns-clause-away
returns-clause-away g c =
    let w = c.in_ok-greeted.ensures.greeted in
    let plan = c.args.plan.now in
    let clock = c.args.clock.now in
    let conns = c.in_ok-served.served.conns.items in
    let at = c.in_ok-served.ensures.served w.ends w.each
    (steps-of-ends plan (all_ends plan.links) w.ends c.args.prepared.now.steps.items c.as_slice.result.now w.are c.as_slice.ensures.value c.requires.prepared) in
    let long = zip-length (IsHandshakeEnd g.F.L.Link plan) w.ends c.in_ok-greeted.greeted.items w.each in
    let all = zip-length (WasServedAt g.C.Clock g.F.L.Link plan clock) w.ends conns at in
    c.in_ok-greeted.ensures.away ∙ ap (λ n. g.F.Fabric.away c.args.fabric.now + n) (sym long ∙ all)

pub returns-clause-cause : goal.returns-clause-cause
returns-clause-cause g c =
    let cause = c.in_ok-greeted.ensures.cause in record {
      rose = λ bad. absurd (cc);
      stays = λ never. cause.stays (λ bad. cc);
      never_falls = cause.never_falls;
    }
