use Rattle.std.proofs.Common.{◌≡◌, ◌<◌, length, ap, arith}
use Rattle.schema_resolve.proofs.CleanFiles.{item_at, fronts_none, fronts_more, fronts_all}
use Rattle.schema_resolve.proofs.plan.all_package_names.Goals as goal

pub loop-i-init : goal.loop-i-init
loop-i-init c = fronts_none c.args.files.now c.in_ok-fronts.fronts.items c.in_ok-fronts.ensures.items

pub loop-i-preserved : goal.loop-i-preserved
loop-i-preserved c =
    let F = c.args.files.now in
    let l : c.loop-i.i < length F.heads = omega (arith, ap length c.heads-heads.ensures) in
    let at = item_at c.heads-heads.result.now F.heads c.loop-i.i c.index-heads-i.result c.heads-heads.ensures l c.index-heads-i.is in
    fronts_more F c.loop-i.i c.index-heads-i.result c.in_ok-name.name c.loop-i.fronts.items c.push.new.self.items at
    c.in_ok-name.ensures c.in_ok-push.ensures.items c.loop-i.invariant

pub returns : goal.returns
returns c =
    let F = c.args.files.now in
    let e : c.loop-i.i ≡ length F.heads = omega (arith, ap length c.heads-heads.ensures) in
    fronts_all F c.loop-i.i c.loop-i.fronts.items e c.loop-i.invariant
