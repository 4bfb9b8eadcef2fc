use Rattle.std.proofs.Common.{◌≡◌, length, None}
use Rattle.graph_copy.specs.Expected.{expected, stack_words}
use Rattle.graph_copy.proofs.walk.Walk.next.Given as goal

-- the popped frames have no words
abbrev pub invariant-loop-frame : goal.invariant-loop-frame
invariant-loop-frame l = record {
  words : stack_words l.table l.self.frames ≡ expected l.table l.fn.self;
  no_run : l.self.run ≡ None;
  size : l.self.size ≡ l.fn.self.size;
}

abbrev pub decreases-loop-frame : goal.decreases-loop-frame
decreases-loop-frame l = length l.self.frames
