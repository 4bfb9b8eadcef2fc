use Rattle.std.proofs.Common.{◌∙◌, sym, true}
use Rattle.std.specs.Vec.Iter.{into_iter_items}
use Rattle.run_report.specs.Counts.{AreCountsOf}
use Rattle.run_report.specs.Prefixes.{expected_for}
use Rattle.run_report.specs.Report.{IsReportText}
use Rattle.run_report.proofs.Making.{made-more, made-next}
use Rattle.run_report.proofs.Telling.{zip-next}
use Rattle.run_report.proofs.report.texts_of.Goals as goal

pub unreachable-requires : goal.unreachable-requires
unreachable-requires c =
    made-more (expected_for true) c.args.shown.now c.loop-one.one-index c.one-item.result (into_iter_items c.loop-one.rest)
    c.loop-one-test.true c.one-item.is c.loop-one.invariant.0 (sym c.loop-one.rest.rest.ok.0 ∙ c.in_default.ensures.cases.0)

pub text_of-requires-clause-made : goal.text_of-requires-clause-made
text_of-requires-clause-made c =
    (made-next (expected_for true) c.args.shown.now c.loop-one.one-index c.one-item.result (into_iter_items c.loop-one.rest)
    c.loop-one-test.true c.one-item.is c.loop-one.invariant.0 c.in-Some.made (into_iter_items c.next.new.self)
    c.in-Some.ensures.items).0

pub loop-one-preserved : goal.loop-one-preserved
loop-one-preserved c = (
  (made-next (expected_for true) c.args.shown.now c.loop-one.one-index c.one-item.result (into_iter_items c.loop-one.rest)
      c.loop-one-test.true c.one-item.is c.loop-one.invariant.0 c.in-Some.made (into_iter_items c.next.new.self)
      c.in-Some.ensures.items).1,
  zip-next IsReportText c.args.shown.now c.loop-one.one-index c.one-item.result c.loop-one.texts.items c.push.new.self.items
      c.in_ok-text_of.field-0 c.loop-one-test.true c.one-item.is c.loop-one.invariant.1 c.in_ok-text_of.ensures.text
      c.in_ok-push.ensures.items,
  zip-next AreCountsOf c.args.shown.now c.loop-one.one-index c.one-item.result c.loop-one.counts.items
      c.text_of.new.counts.items c.in_ok-text_of.ensures.counts.0 c.loop-one-test.true c.one-item.is c.loop-one.invariant.2
      c.in_ok-text_of.ensures.counts.1 c.in_ok-text_of.ensures.counts.2,
)
