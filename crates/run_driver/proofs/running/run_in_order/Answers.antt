use Rattle.std.proofs.Common.{◌∙◌, ◌≤◌, ◌++◌, ℕ, List, map, arith, subst, sym}
use Rattle.std.specs.Prelude.{IsPermutation}
use Rattle.run_plan.specs.Links.{all_ends}
use Rattle.run_driver.specs.Running.{numbered_link}
use Rattle.run_driver.proofs.Tellable.{all-tellable}
use Rattle.run_driver.proofs.running.run_in_order.Goals as goal

pub conclude-requires-clause-told : goal.conclude-requires-clause-told
conclude-requires-clause-told g c κs within =
    all-tellable g.C.Clock g.F.L.Link c.args.plan.now c.args.clock.now (all_ends c.args.plan.now.links)
    c.in_ok-served.served.conns.items c.in_ok-served.ensures.served

pub returns-clause-ran : goal.returns-clause-ran
returns-clause-ran g c =
    let told = c.in_ok-conclude.ensures.told in
    let run = told.2 in (
      told.0,
      told.1,
      record {
        conns = c.in_ok-served.served.conns.items;
        served = c.in_ok-served.ensures.served;
        pairs = c.in_ok-served.ensures.pairs;
        tickets = c.in_ok-served.ensures.tickets;
        told = run.tells.told;
        shows = run.tells.shows;
        is_text = run.tells.is_text;
        counts = run.tells.counts;
        given_back =
            subst (λ (l : List (ℕ × g.row.F-L.Denot)). IsPermutation (g.F.Fabric.back c.conclude.new.fabric)
            (map numbered_link c.in_ok-served.served.conns.items ++ l)) c.in_ok-served.ensures.back c.in_ok-conclude.ensures.back;
        one_failed = run.one_failed;
        none_failed = run.none_failed;
      },
    )

pub returns-clause-away : goal.returns-clause-away
returns-clause-away g c = omega (arith, c.in_ok-conclude.ensures.away, c.in_ok-served.ensures.away)

pub returns-clause-cause : goal.returns-clause-cause
returns-clause-cause g c =
    let cause = c.in_ok-served.ensures.cause in
    let same = c.in_ok-conclude.ensures.failures in record {
      rose = λ bad. absurd (cc);
      stays = λ never. same ∙ cause.stays (λ bad. cc);
      never_falls = subst (λ (n : ℕ). g.F.Fabric.failures c.args.fabric.now ≤ n) (sym same) cause.never_falls;
    }
