use Rattle.std.proofs.Common.{refl}
use Rattle.mem_fabric.proofs.Search.{IsTrue-is_ok-search}
use Rattle.mem_fabric.proofs.injected.InjectedCalls.next.Goals as goal

pub returns-clause-counted : goal.returns-clause-counted
returns-clause-counted c = rw (c.raise-self-inside.ensures.value, ← c.self.view_is) refl

pub returns-clause-fails : goal.returns-clause-fails
returns-clause-fails c =
    let answer = rw c.deref.ensures.value at c.binary_search.ensures.position in
    let listed = IsTrue-is_ok-search c.self.inside.failing.items c.raise-self-inside.result c.binary_search.result c.self.invariant answer in
    rw (c.is_ok.ensures.value, ← c.self.view_is) (rw c.raise-self-inside.ensures.value at listed)
