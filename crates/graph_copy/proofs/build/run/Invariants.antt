use Rattle.std.proofs.Common.{◌≡◌, ◌≢◌, ◌+◌, length}
use Rattle.graph_copy.proofs.Running.{RunsOn}
use Rattle.graph_copy.proofs.build.run.Given as goal

-- the remaining bytes of the run
abbrev pub invariant-loop-left : goal.invariant-loop-left
invariant-loop-left l = record {
  on : RunsOn l.initial.tape.loads.now l.bytes l.left l.tape.loads.now l.run.items;
  count : l.bytes ≡ length l.run.items + l.left;
  some : l.left ≢ 0;
}

abbrev pub decreases-loop-left : goal.decreases-loop-left
decreases-loop-left l = l.left
