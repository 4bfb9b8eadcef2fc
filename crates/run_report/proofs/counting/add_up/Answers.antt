use Rattle.std.proofs.Common.{◌≡◌, ◌≤◌, ◌+◌, ◌++◌, List, suc, length, take, sym, ap, ◌∙◌, subst, Some, length-append, arith}
use Rattle.std.specs.Prelude.{slice_get}
use Rattle.std.specs.List.{flat_map}
use Rattle.telemetry.specs.Counts.{CountedEvent as Counted}
use Rattle.telemetry.specs.Totals.{sums_of}
use Rattle.run_report.specs.Counting.{counted_in}
use Rattle.run_report.specs.Counts.{AreCountsOf, HaveCounted}
use Rattle.run_report.specs.declared.reported_connection.ReportedConnection.{ReportedConnection}
use Rattle.run_report.proofs.Counted.{counted-more, part-within, plus-small}
use Rattle.run_report.proofs.Lines.{one-more, there}
use Rattle.run_report.proofs.Making.{zip-at, zip-length}
use Rattle.run_report.proofs.counting.add_up.Goals as goal

pub bounds-counts-place : goal.bounds-counts-place
bounds-counts-place c =
    omega (arith, zip-length AreCountsOf c.args.shown.now c.args.counts.now c.requires, c.loop-place-test.true)

pub merge-requires : goal.merge-requires
merge-requires c =
    let shown = c.args.shown.now in
    let i = c.loop-place.place in
    let low : suc i ≤ length shown = omega (arith, c.loop-place-test.true) in
    let one : (s : ReportedConnection) × (slice_get shown i ≡ Some s) = there shown i low in
    let own = c.index-counts-place.result in
    let its : HaveCounted (counted_in one.0) own =
    zip-at AreCountsOf shown c.args.counts.now i one.0 own c.requires one.1 c.index-counts-place.is in
    let done = flat_map counted_in (take i shown) in
    let more : flat_map counted_in (take (suc i) shown) ≡ done ++ counted_in one.0 = one-more counted_in shown i one.0 one.1 in
    let both : length (flat_map counted_in (take (suc i) shown)) ≡ length done + length (counted_in one.0) =
    ap length more ∙ length-append done (counted_in one.0) in
    let within = part-within counted_in shown (suc i) in
    plus-small (sums_of c.loop-place.all) (sums_of own)
    (omega (arith, both, within, c.loop-place.invariant.all, its.all, c.in-Some.ensures))

pub loop-place-preserved : goal.loop-place-preserved
loop-place-preserved c =
    let shown = c.args.shown.now in
    let i = c.loop-place.place in
    let low : suc i ≤ length shown = omega (arith, c.loop-place-test.true) in
    let one : (s : ReportedConnection) × (slice_get shown i ≡ Some s) = there shown i low in
    let own = c.index-counts-place.result in
    let its : HaveCounted (counted_in one.0) own =
    zip-at AreCountsOf shown c.args.counts.now i one.0 own c.requires one.1 c.index-counts-place.is in
    let done = flat_map counted_in (take i shown) in
    let place : suc i ≡ i + 1 = omega arith in
    let more : done ++ counted_in one.0 ≡ flat_map counted_in (take (i + 1) shown) =
    sym (one-more counted_in shown i one.0 one.1) ∙ ap (λ n. flat_map counted_in (take n shown)) place in
    subst (λ (l : List Counted). HaveCounted l c.merge.new.self) more
    (counted-more c.counts_add_up.ensures.joined done (counted_in one.0) c.loop-place.all own c.merge.new.self
    c.loop-place.invariant its c.in_ok-merge.ensures.counts c.in_ok-merge.ensures.sums)
