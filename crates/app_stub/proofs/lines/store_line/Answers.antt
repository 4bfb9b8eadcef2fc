use Rattle.std.proofs.Common.{arith}
use Rattle.app_stub.proofs.Listing.{length-spun}
use Rattle.app_stub.proofs.lines.store_line.Goals as goal

pub spin-requires-clause-few : goal.spin-requires-clause-few
spin-requires-clause-few c =
    let few = rw c.in-Spin.is at c.requires.few in
    omega (arith, few, length-spun c.in-Spin.times (c.in-Spin.place, c.in-Spin.first) (c.in-Spin.place, c.in-Spin.second))
