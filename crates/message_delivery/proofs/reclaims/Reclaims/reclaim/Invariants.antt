use Rattle.std.proofs.Common.{◌≡◌, ◌+◌, ◌-◌, ◌≤◌}
use Rattle.mrpc_table.specs.declared.table.Table.{Table}
use Rattle.receive_core.specs.ReceiverTraces.{ReceiverTrace, IsTraceOf}
use Rattle.message_delivery.proofs.Reclaiming.{HasJudged, HasJudgedEach}
use Rattle.message_delivery.proofs.reclaims.Reclaims.reclaim.Given as goal

abbrev pub invariant-loop-number : goal.invariant-loop-number
invariant-loop-number g l = record {
  most : l.most ≡ l.fn.self.programmed + l.fn.given;
  judged : HasJudged l.fn.self l.self l.fn.inbound.heap.held l.inbound.heap.held;
  each : HasJudgedEach l.fn.self l.self l.fn.inbound.heap.held l.inbound.heap.held;
  few : l.fn.self.judged ≤ l.most → l.self.judged ≤ l.most;
  programmed : l.self.programmed ≡ l.fn.self.programmed;
  ring : l.self.numbers.ring ≡ l.fn.self.numbers.ring;
  life : (T : Table) (life : ReceiverTrace) → IsTraceOf T life l.fn.inbound → IsTraceOf T life l.inbound;
  conn : l.inbound.conn ≡ l.fn.inbound.conn;
  fed : l.inbound.fed ≡ l.fn.inbound.fed;
  words : l.inbound.heap.words ≡ l.fn.inbound.heap.words;
}

abbrev pub decreases-loop-number : goal.decreases-loop-number
decreases-loop-number g l = l.most - l.self.judged
