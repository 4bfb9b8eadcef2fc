use Rattle.std.proofs.Common.{rules}
use Rattle.mrpc_base.proofs.Search.{IsTrue-is_ok-search}
use Rattle.mrpc_base.proofs.calls.CallCounter.next.Goals as goal

pub returns-clause-fails : goal.returns-clause-fails
returns-clause-fails c =
    let answer = rw c.deref.ensures.value at c.binary_search.ensures.position in
    let listed = IsTrue-is_ok-search c.self.inside.failing.items c.saturating_add-self-inside.result c.binary_search.result c.self.invariant answer in
    search rules
