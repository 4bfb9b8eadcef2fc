use Rattle.std.proofs.Common.{◌≡◌, List, length}
use Rattle.message_delivery.specs.Noticing.{AreSameRings, AreNoticesOf, AreStillOpen}
use Rattle.message_delivery.specs.declared.arrivals.PlacedMessage.{PlacedMessage}
use Rattle.message_delivery.proofs.notices.Notices.send_notices.Given as goal

abbrev pub invariant-loop-self : goal.invariant-loop-self
invariant-loop-self g l = record {
  telling : (placed : List PlacedMessage) → AreNoticesOf l.fn.writer.heap placed l.fn.self
      → AreNoticesOf l.fn.writer.heap placed l.self;
  rings : AreSameRings l.fn.self l.self;
  stays : AreStillOpen l.fn.self l.self;
  writer : l.writer ≡ l.fn.writer;
}

abbrev pub decreases-loop-self : goal.decreases-loop-self
decreases-loop-self g l = length l.self.waiting.items
