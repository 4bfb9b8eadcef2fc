use Rattle.std.proofs.Common.{◌≡◌, ◌+◌, ◌++◌, List, length, map}
use Rattle.std.specs.Prelude.{IsPermutation}
use Rattle.service.specs.declared.served.ServedConn.{ServedConn}
use Rattle.run_driver.specs.Running.{numbered_link}
use Rattle.run_driver.proofs.return_links.return_links.Given as goal

abbrev pub invariant-loop-one : goal.invariant-loop-one
invariant-loop-one g l = (popped : List (ServedConn g.row.F-L.Denot))
    × (l.fn.conns.items ≡ l.left.items ++ popped)
    × IsPermutation (g.F.Fabric.back l.fabric) (map numbered_link popped ++ g.F.Fabric.back l.fn.fabric)
    × (g.F.Fabric.away l.fabric + length popped ≡ g.F.Fabric.away l.fn.fabric)
    × (g.F.Fabric.failures l.fabric ≡ g.F.Fabric.failures l.fn.fabric)

abbrev pub decreases-loop-one : goal.decreases-loop-one
decreases-loop-one g l = length l.left.items
