use Rattle.std.proofs.Common.{◌≡◌, ◌≤◌, length, map}
use Rattle.app_stub.specs.Pairing.{IsPaired}
use Rattle.app_stub.specs.Serving.{all_served_stores, all_served_replies, submission_of}
use Rattle.app_stub.proofs.servers.serve_all.Given as goal

abbrev pub invariant-loop : goal.invariant-loop
invariant-loop g l =
    (l.writer.heap ≡ l.initial.writer.heap) × (l.outgoing.sender.heap ≡ l.initial.outgoing.sender.heap)
    × (l.outgoing.sender.ring ≡ l.initial.outgoing.sender.ring)
    × (l.outgoing.reclaims.ring ≡ l.initial.outgoing.reclaims.ring)
    × (l.delivery.notices.ring ≡ l.initial.delivery.notices.ring)
    × (l.delivery.notices.heap ≡ l.initial.delivery.notices.heap)
    × (l.delivery.blocks.ring ≡ l.initial.delivery.blocks.ring)
    × IsPaired l.delivery.notices.taken l.delivery.blocks
    × (length l.delivery.notices.taken ≤ 4294967294)
    × (l.outgoing.reclaims.sent ≡ l.delivery.blocks.taken)
    × (l.writer.stores ≡ all_served_stores l.program l.delivery.notices.taken)
    × (map submission_of l.outgoing.sender.sent ≡ all_served_replies l.program 0 l.delivery.notices.taken)
