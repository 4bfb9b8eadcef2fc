use Rattle.std.proofs.Common.{◌≤◌, ◌<◌, length, arith}
use Rattle.schema_files.proofs.Sizes.{sizes_more, sizes_all}
use Rattle.schema_files.proofs.resolver.sizes.Goals as goal

pub loop-k-preserved : goal.loop-k-preserved
loop-k-preserved c =
    let l : c.loop-k.k < length c.args.parts.now = omega arith in
    sizes_more c.args.parts.now c.loop-k.k c.index-parts-k.result _ _ l c.loop-k.invariant
    c.in_ok-push.ensures.items

pub returns : goal.returns
returns c =
    let l : length c.args.parts.now ≤ c.loop-k.k = omega arith in
    sizes_all c.args.parts.now c.loop-k.k _ l c.loop-k.invariant
