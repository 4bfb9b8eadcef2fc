use Rattle.std.proofs.Common.{length, refl, ap, arith}
use Rattle.std.proofs.lemmas.Bool.{false≢true}
use Rattle.schema_binding.proofs.Prints.{here_at, least_at, same_on, no_other}
use Rattle.schema_binding.proofs.reach.differing_field.Goals as goal

pub returns-then-differs : goal.returns-then-differs
returns-then-differs c =
    let T = c.args.ours.now in
    let U = c.args.theirs.now in
    let m = c.index-as_slice-our.result in
    let n = c.index-as_slice-their.result in
    least_at T U c.requires.ours c.args.our c.args.their m n
    (here_at T c.args.our m c.as_slice.result.now c.as_slice.ensures c.requires.pair.ours c.index-as_slice-our.is)
    (here_at U c.args.their n c.as_slice-2.result.now c.as_slice-2.ensures c.requires.pair.theirs c.index-as_slice-their.is)
    c.as_slice-field-items.result.now c.as_slice-field-items.ensures c.loop-field.field-index c.field-item.result c.loop-field-test.true c.field-item.is
    c.loop-field.invariant (c.if-differs.ensures.0 refl)

pub loop-field-preserved : goal.loop-field-preserved
loop-field-preserved c =
    let T = c.args.ours.now in
    let U = c.args.theirs.now in
    let m = c.index-as_slice-our.result in
    let n = c.index-as_slice-their.result in
    same_on T U c.requires.ours c.args.our c.args.their m n
    (here_at T c.args.our m c.as_slice.result.now c.as_slice.ensures c.requires.pair.ours c.index-as_slice-our.is)
    (here_at U c.args.their n c.as_slice-2.result.now c.as_slice-2.ensures c.requires.pair.theirs c.index-as_slice-their.is)
    c.as_slice-field-items.result.now c.as_slice-field-items.ensures c.loop-field.field-index c.field-item.result c.loop-field-test.true c.field-item.is
    c.loop-field.invariant (λ o. false≢true (c.if-differs.ensures.1 o))

pub returns : goal.returns
returns c =
    let T = c.args.ours.now in
    let m = c.index-as_slice-our.result in
    let all = ap length c.as_slice-field-items.ensures in
    no_other T c.args.theirs.now c.args.our c.args.their m
    (here_at T c.args.our m c.as_slice.result.now c.as_slice.ensures c.requires.pair.ours c.index-as_slice-our.is)
    (λ k d below. c.loop-field.invariant k d (omega (arith, all, below, c.loop-field-test.false)))
