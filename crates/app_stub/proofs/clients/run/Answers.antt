use Rattle.std.proofs.Common.{arith, ap, length}
use Rattle.app_stub.proofs.Listing.{reclaims_few}
use Rattle.app_stub.proofs.clients.run.Goals as goal

pub reclaim_all-requires-clause-few : goal.reclaim_all-requires-clause-few
reclaim_all-requires-clause-few g c κs within =
    omega (arith, ap length c.in_ok-execute_lines.ensures.reclaims, reclaims_few c.args.program.now)
