use Rattle.wire_decode.specs.declared.tree_pool.TheConstants.{MAX_ROOM}
use Rattle.wire_decode.proofs.tree_pool.TreePool.entries.Goals as goal

pub invariant_of-self : goal.invariant_of-self
invariant_of-self c = record {
  fields = c.self.invariant.fields;
  lists = c.self.invariant.lists;
  entries = c.empty.ensures.few MAX_ROOM c.self.invariant.entries;
  runs = c.self.invariant.runs;
}
