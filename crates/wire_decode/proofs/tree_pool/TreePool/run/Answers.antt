use Rattle.wire_decode.specs.declared.tree_pool.TheConstants.{MAX_RUN_ROOM}
use Rattle.wire_decode.proofs.tree_pool.TreePool.run.Goals as goal

pub invariant_of-self : goal.invariant_of-self
invariant_of-self c = record {
  fields = c.self.invariant.fields;
  lists = c.self.invariant.lists;
  entries = c.self.invariant.entries;
  runs = c.empty-run.ensures.few MAX_RUN_ROOM c.self.invariant.runs;
}

pub invariant_of-self-2 : goal.invariant_of-self-2
invariant_of-self-2 c = record {
  fields = c.self.invariant.fields;
  lists = c.self.invariant.lists;
  entries = c.self.invariant.entries;
  runs = c.empty-run.ensures.few MAX_RUN_ROOM c.self.invariant.runs;
}
