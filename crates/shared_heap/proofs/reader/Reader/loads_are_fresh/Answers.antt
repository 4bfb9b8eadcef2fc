use Rattle.shared_heap.proofs.Freshness.{fresh_where_made}
use Rattle.shared_heap.proofs.reader.Reader.loads_are_fresh.Goals as goal

pub returns : goal.returns
returns c = λ calls made. fresh_where_made _ calls _ made (rw (← c.self.view_is) c.self.invariant.numbered)
