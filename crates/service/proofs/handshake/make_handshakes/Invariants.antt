use Rattle.std.proofs.Common.{◌≡◌, ◌+◌, length, take}
use Rattle.run_plan.specs.Links.{all_ends}
use Rattle.service.specs.Handshakes.{AreHandshakeEnds}
use Rattle.service.proofs.handshake.make_handshakes.Given as goal

abbrev pub invariant-pairs : goal.invariant-pairs
invariant-pairs g l =
    AreHandshakeEnds g.F.L.Link l.plan g.F.Fabric.pair (all_ends (take l.pair-index l.links)) l.ends.items
    × (g.F.Fabric.away l.fabric ≡ g.F.Fabric.away l.fn.fabric + length l.ends.items)
    × (g.F.Fabric.back l.fabric ≡ g.F.Fabric.back l.fn.fabric)
    × (g.F.Fabric.failures l.fabric ≡ g.F.Fabric.failures l.fn.fabric)
