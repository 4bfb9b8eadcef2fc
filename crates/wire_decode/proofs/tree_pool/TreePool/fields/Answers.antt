use Rattle.wire_decode.specs.declared.tree_pool.TheConstants.{MAX_ROOM}
use Rattle.wire_decode.proofs.tree_pool.TreePool.fields.Goals as goal

pub invariant_of-self : goal.invariant_of-self
invariant_of-self c = record {
  fields = c.empty-fields.ensures.few MAX_ROOM c.self.invariant.fields;
  lists = c.self.invariant.lists;
  entries = c.self.invariant.entries;
  runs = c.self.invariant.runs;
}

pub invariant_of-self-2 : goal.invariant_of-self-2
invariant_of-self-2 c = record {
  fields = c.empty-fields.ensures.few MAX_ROOM c.self.invariant.fields;
  lists = c.self.invariant.lists;
  entries = c.self.invariant.entries;
  runs = c.self.invariant.runs;
}
