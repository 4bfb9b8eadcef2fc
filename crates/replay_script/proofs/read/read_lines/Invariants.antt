-- The lines so far have no fault, and the state kept of them is exact.
use Rattle.std.proofs.Common.{length}
use Rattle.replay_script.specs.Changes.{IsValidBody, state_of_body}
use Rattle.replay_script.specs.Texts.{HasReached}
use Rattle.replay_script.proofs.read.read_lines.Given as goal

abbrev pub invariant-loop-alloc : goal.invariant-loop-alloc
invariant-loop-alloc l = record {
  reaches : HasReached l.loads l.table l.text (state_of_body l.declared l.body) l.rest;
  kept : IsValidBody l.loads l.declared l.body;
}

abbrev pub decreases-loop-alloc : goal.decreases-loop-alloc
decreases-loop-alloc l = length l.rest
