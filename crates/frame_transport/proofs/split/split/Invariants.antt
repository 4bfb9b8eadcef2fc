use Rattle.std.proofs.Common.{◌+◌, length}
use Rattle.frame_transport.proofs.Found.{IsFound}
use Rattle.frame_transport.proofs.split.split.Given as goal

abbrev pub invariant-frames : goal.invariant-frames
invariant-frames l = IsFound l.fn.place l.begun l.piece l.frames.items l.end l.ahead l.left

abbrev pub decreases-frames : goal.decreases-frames
decreases-frames l = length l.ahead + length l.left
