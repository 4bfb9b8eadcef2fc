use Rattle.run_driver.proofs.Tellable.{told-run}
use Rattle.run_driver.proofs.running.conclude.Goals as goal

pub returns-clause-told : goal.returns-clause-told
returns-clause-told g c =
    let told = c.in_ok-parts.ensures in (
      told.0,
      told.1,
      told-run g.F.L.Link c.args.plan.now c.args.served.conns.items c.as_slice.result.now c.as_slice-2.result.now told.0
          c.in_ok-parts.field-0.totals c.has_failed-failed.result c.as_slice.ensures.value c.as_slice-2.ensures.value
          c.requires.told c.has_failed-failed.ensures.one c.has_failed-failed.ensures.none told.2,
    )
