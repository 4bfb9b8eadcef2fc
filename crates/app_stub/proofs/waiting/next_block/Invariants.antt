use Rattle.std.proofs.Common.{◌≡◌, IsTrue}
use Rattle.app_stub.proofs.waiting.next_block.Given as goal

abbrev pub invariant-loop : goal.invariant-loop
invariant-loop g l =
    (l.blocks.taken ≡ l.initial.blocks.taken) × (l.blocks.ring ≡ l.initial.blocks.ring)
    × (IsTrue l.initial.blocks.closed → IsTrue l.blocks.closed)
