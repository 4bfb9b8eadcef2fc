use Rattle.std.proofs.Common.{◌≡◌, ◌≤◌, false, length}
use Rattle.app_stub.specs.Serving.{blocks_of}
use Rattle.app_stub.proofs.receivers.AppReceivers.finish.Given as goal

abbrev pub invariant-loop : goal.invariant-loop
invariant-loop g l =
    (l.self.notices ≡ l.initial.self.notices) × (l.self.blocks.ring ≡ l.initial.self.blocks.ring)
    × (blocks_of l.self.notices.taken l.self.blocks.taken ≡ l.initial.self.blocks.taken)
    × (l.self.blocks.closed ≡ false → length l.self.notices.taken ≤ length l.self.blocks.taken)
