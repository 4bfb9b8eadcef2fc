use Rattle.std.proofs.Common.{◌<◌, ap, length, arith}
use Rattle.schema_resolve.proofs.CleanFiles.{item_at}
use Rattle.schema_resolve.proofs.MethodTables.{more_methods}
use Rattle.schema_resolve.proofs.method_table.add_methods.Goals as goal

pub loop-i-preserved : goal.loop-i-preserved
loop-i-preserved c = λ done h.
    let l : c.loop-i.i < length c.args.service.now.rpcs = omega (arith, ap length c.as_slice-rpcs.ensures) in
    let at = item_at c.as_slice-rpcs.result.now c.args.service.now.rpcs c.loop-i.i c.index-rpcs-i.result c.as_slice-rpcs.ensures l c.index-rpcs-i.is in
    more_methods c.args.scopes.now c.args.plan.now c.args.service.now c.loop-i.i c.index-rpcs-i.result done c.loop-i.methods
    _ c.in_ok-method.method at c.in_ok-method.ensures c.in_ok-push.ensures.ok (c.loop-i.invariant done h)
