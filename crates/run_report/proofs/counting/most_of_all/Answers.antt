use Rattle.std.proofs.Common.{◌≡◌, ◌+◌, suc, length, take, sym, ap, ◌∙◌, Some, length-append, arith}
use Rattle.std.specs.Prelude.{slice_get}
use Rattle.std.specs.List.{flat_map}
use Rattle.std.proofs.lemmas.Option.{slice_get-get_or}
use Rattle.run_report.specs.Counting.{counted_in}
use Rattle.run_report.proofs.Lines.{all-of, one-more}
use Rattle.run_report.proofs.counting.most_of_all.Goals as goal

pub loop-one-preserved : goal.loop-one-preserved
loop-one-preserved c =
    let shown = c.args.shown.now in
    let i = c.loop-one.one-index in
    let one = c.one-item.result in
    let at : slice_get shown i ≡ Some one = slice_get-get_or shown i one c.loop-one-test.true ∙ ap Some (sym c.one-item.is) in
    let done = flat_map counted_in (take i shown) in
    let place : i + 1 ≡ suc i = omega arith in
    let more : length (flat_map counted_in (take (i + 1) shown)) ≡ length done + length (counted_in one) =
    ap (λ n. length (flat_map counted_in (take n shown))) place ∙ ap length (one-more counted_in shown i one at)
    ∙ length-append done (counted_in one) in
    omega (arith, more, c.loop-one.invariant, c.in_ok-most_of.ensures, c.in_ok-most.ensures.1)

pub returns : goal.returns
returns c =
    let whole = ap length (all-of counted_in c.args.shown.now c.loop-one.one-index (omega arith)) in
    omega (arith, whole, c.loop-one.invariant)
