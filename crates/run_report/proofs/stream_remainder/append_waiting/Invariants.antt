use Rattle.std.proofs.Common.{◌≡◌, ◌++◌, ℕ, List, take}
use Rattle.std.specs.List.{flat_map}
use Rattle.frame_transport.specs.Frames.{IsSplitOf}
use Rattle.frame_transport.specs.declared.format.Frame.{Frame}
use Rattle.run_report.specs.ConnectionReport.{waits_line}
use Rattle.run_report.proofs.stream_remainder.append_waiting.Given as goal

abbrev pub invariant-loop-place : goal.invariant-loop-place
invariant-loop-place l = (frames : List Frame) (rest : List ℕ) → IsSplitOf l.inbound.fed.place l.inbound.fed.bytes frames rest
    → l.out ≡ l.fn.out ++ flat_map (waits_line l.fn.conn) (take l.place frames)
