use Rattle.std.proofs.Common.{ap, refl, inr}
use Rattle.receive_heap.specs.Layout.{Layout}
use Rattle.message_delivery.proofs.Lived.{cut-off, few-bytes, open-uncut}
use Rattle.message_delivery.proofs.arrivals.Arrivals.feed.Goals as goal

pub bytes-requires : goal.bytes-requires
bytes-requires c =
    few-bytes c.requires.lived.0 c.args.self.now c.args.piece.now c.trace_of_receiver.ensures.short c.requires.lived.1
    c.requires.partial (open-uncut c.args.self.now.stream c.requires.open) c.requires.most

pub returns-in_default : goal.returns-in_default
returns-in_default c = record {
  lived = λ life h. cut-off life c.args.self.now _ c.args.piece.now c.in-Err.fault h c.in_default.not-Memory
      (c.in-Err.ensures.life_at_fault c.args.self.now.table.now life h.lives) refl c.bytes.ensures.heap refl refl refl refl refl;
  same = record {
    table = refl;
    policy = refl;
    conn = c.bytes.ensures.conn;
    words = ap (λ (l : Layout). l.words) c.bytes.ensures.heap;
    heap = refl;
  };
  lines = refl;
  writer = refl;
  heap = c.bytes.ensures.heap;
  stream = inr refl;
  memory = tt;
}
