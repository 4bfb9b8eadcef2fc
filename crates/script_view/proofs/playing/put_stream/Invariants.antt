use Rattle.std.proofs.Common.{◌-◌, ◌≤◌, length}
use Rattle.script_view.specs.ReplayRanges.{IsReplayBetween, call_counts_of}
use Rattle.script_view.specs.declared.limits.TheConstants.{MAX_BODY}
use Rattle.script_view.proofs.playing.put_stream.Given as goal

-- the lines so far replay the frames before the offset
abbrev pub invariant-loop-place : goal.invariant-loop-place
invariant-loop-place l = record {
  plays : IsReplayBetween l.table l.stream 0 l.place (call_counts_of l.fn.calls) l.body (call_counts_of l.calls);
  short : length l.body ≤ MAX_BODY;
}

abbrev pub decreases-loop-place : goal.decreases-loop-place
decreases-loop-place l = length l.stream - l.place
