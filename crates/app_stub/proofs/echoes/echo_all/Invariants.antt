use Rattle.std.proofs.Common.{◌≡◌, ◌≤◌, length, map}
use Rattle.app_stub.specs.EchoStates.{IsEchoState, echo_of}
use Rattle.app_stub.specs.Echoing.{HasEchoed}
use Rattle.app_stub.specs.Pairing.{IsPaired}
use Rattle.app_stub.specs.Serving.{submission_of}
use Rattle.app_stub.proofs.echoes.echo_all.Given as goal

abbrev pub invariant-loop : goal.invariant-loop
invariant-loop g l =
    (l.desk.writer.heap ≡ l.initial.desk.writer.heap) × (l.desk.reader.heap ≡ l.initial.desk.reader.heap)
    × (l.desk.ring ≡ l.initial.desk.ring)
    × (l.outgoing.sender.ring ≡ l.initial.outgoing.sender.ring)
    × (l.outgoing.reclaims.ring ≡ l.initial.outgoing.reclaims.ring)
    × (l.delivery.notices.ring ≡ l.initial.delivery.notices.ring)
    × (l.delivery.notices.heap ≡ l.initial.delivery.notices.heap)
    × (l.delivery.blocks.ring ≡ l.initial.delivery.blocks.ring)
    × IsEchoState l.desk l.outgoing.sender
    × IsPaired l.delivery.notices.taken l.delivery.blocks
    × (length l.delivery.notices.taken ≤ 4294967294)
    × (length l.outgoing.sender.sent ≤ length l.delivery.notices.taken)
    × (l.outgoing.reclaims.sent ≡ l.delivery.blocks.taken)
    × HasEchoed (echo_of l.table l.initial.desk) l.delivery.notices.taken l.desk.writer.stores
    (map submission_of l.outgoing.sender.sent) l.desk.reader
