use Rattle.std.proofs.Common.{◌∙◌, false, sym}
use Rattle.std.specs.Vec.Iter.{into_iter_items}
use Rattle.run_report.specs.Counts.{AreCountsOf}
use Rattle.run_report.specs.Prefixes.{expected_for}
use Rattle.run_report.proofs.Making.{made-more, made-next}
use Rattle.run_report.proofs.Telling.{zip-next}
use Rattle.run_report.proofs.report.counts_of.Goals as goal

pub unreachable-requires : goal.unreachable-requires
unreachable-requires c =
    made-more (expected_for false) c.args.shown.now c.loop-one._one-index c._one-item.result (into_iter_items c.loop-one.rest)
    c.loop-one-test.true c._one-item.is c.loop-one.invariant.0 (sym c.loop-one.rest.rest.ok.0 ∙ c.in_default.ensures.cases.0)

pub loop-one-preserved : goal.loop-one-preserved
loop-one-preserved c =
    let next = made-next (expected_for false) c.args.shown.now c.loop-one._one-index c._one-item.result
    (into_iter_items c.loop-one.rest) c.loop-one-test.true c._one-item.is c.loop-one.invariant.0 c.in-Some.made
    (into_iter_items c.next.new.self) c.in-Some.ensures.items in (
      next.1,
      zip-next AreCountsOf c.args.shown.now c.loop-one._one-index c._one-item.result c.loop-one.counts.items
          c.push.new.self.items c.in_ok-counts_in.field-0 c.loop-one-test.true c._one-item.is c.loop-one.invariant.1
          (c.in_ok-counts_in.ensures (expected_for false c._one-item.result) next.0) c.in_ok-push.ensures.items,
    )
