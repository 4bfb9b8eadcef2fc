use Rattle.std.proofs.Common.{◌≡◌, ℕ, ◌-◌, ◌≤◌, List, length}
use Rattle.mrpc_table.specs.View.{items_of}
use Rattle.wire_decode.specs.RawMessages.{numbers}
use Rattle.wire_decode.proofs.Elements.{SoFar}
use Rattle.wire_decode.proofs.read.elements.Given as goal

abbrev pub invariant-loop-at : goal.invariant-loop-at
invariant-loop-at l = (l.at ≤ length l.bytes) × (done : List ℕ) × SoFar l.kind l.bytes l.start l.at done × (items_of l.values.items ≡ numbers done)

abbrev pub decreases-loop-at : goal.decreases-loop-at
decreases-loop-at l = length l.bytes - l.at
