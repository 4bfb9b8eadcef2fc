use Rattle.std.proofs.Common.{◌≡◌, ◌≢◌, ◌≤◌, [], length, take}
use Rattle.std.specs.Io.KnownBytes.{append_known}
use Rattle.tcp_fabric.specs.Link.{IsReceivedNext}
use Rattle.tcp_fabric.specs.declared.wire.ReceiveState.TheVariants.{Open}
use Rattle.tcp_fabric.proofs.wire.Wire.write_all.Given as goal

-- the bytes before `done` were taken, and bytes that arrived are read ahead
abbrev pub invariant-loop : goal.invariant-loop
invariant-loop g l =
    (goal.iterator-loop g).can_next l.iterator'
    × (goal.iterator-loop g).is_finite l.iterator'
    × (l.done ≤ length l.piece)
    × (g.S.Socket.taken l.self.socket ≡ append_known (g.S.Socket.taken l.initial.self.socket) (take l.done l.piece))
    × IsReceivedNext [] (g.S.Socket.given l.initial.self.socket) l.initial.self.ahead (g.S.Socket.given l.self.socket) l.self.ahead
    × (l.initial.self.incoming ≢ Open → l.self.incoming ≡ l.initial.self.incoming)
