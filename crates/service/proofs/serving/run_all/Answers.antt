use Rattle.std.proofs.Common.{arith}
use Rattle.service.specs.Handshakes.{IsHandshakeEnd}
use Rattle.service.proofs.Zips.{zip-length}
use Rattle.service.proofs.serving.run_all.Goals as goal

pub run_wired-requires-clause-wired : goal.run_wired-requires-clause-wired
run_wired-requires-clause-wired g c κs within =
    let w = c.requires.greeted in
    let all = c.in_ok-standings.ensures w.0 w.1 w.2 in
    (all.begun.openings, all.begun.wired)

pub run_wired-requires-clause-few_items : goal.run_wired-requires-clause-few_items
run_wired-requires-clause-few_items g c κs within =
    let w = c.requires.greeted in
    let all = c.in_ok-standings.ensures w.0 w.1 w.2 in
    let long = zip-length (IsHandshakeEnd g.L.Link c.args.common.now.plan.now) w.0 c.args.greeted.items w.1 in
    omega (arith, all.begun.few, long, c.requires.few)

pub conclude-requires-clause-run : goal.conclude-requires-clause-run
conclude-requires-clause-run g c κs within =
    let w = c.requires.greeted in
    let all = c.in_ok-standings.ensures w.0 w.1 w.2 in
    let begun = all.begun in (
      w.0,
      record {
        openings = begun.openings;
        standing = begun.standing;
        served = c.in_ok-met.ensures begun.openings begun.wired;
        whole = all.whole;
        shares = all.shares;
        split = begun.split;
        tenants = begun.tenants;
        not_drawn = begun.not_drawn;
      },
    )

pub returns-clause-served : goal.returns-clause-served
returns-clause-served g c = λ ends zip steps.
    let all = c.in_ok-standings.ensures ends zip steps in
    let begun = all.begun in
    c.conclude.ensures.served ends (record {
      openings = begun.openings;
      standing = begun.standing;
      served = c.in_ok-met.ensures begun.openings begun.wired;
      whole = all.whole;
      shares = all.shares;
      split = begun.split;
      tenants = begun.tenants;
      not_drawn = begun.not_drawn;
    })
