use Rattle.std.proofs.Common.{subst}
use Rattle.receive_heap.specs.Layout.{IsPartitioned}
use Rattle.receive_heap.proofs.Calls.{sound_from}
use Rattle.receive_heap.proofs.extents.Extents.partition.Goals as goal

pub returns : goal.returns
returns c = subst IsPartitioned c.self.view_is (sound_from c.self.inside.words c.self.inside.next c.self.inside.holes.items c.self.inside.held.entries _ c.self.invariant c.len.ensures.ordered)
