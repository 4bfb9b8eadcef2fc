-- Consecutive frames of a stream.
use Rattle.std.specs.Prelude.{◌≡◌, ℕ, ◌+◌, List, ◌++◌, length, drop, All}
use Rattle.frame_transport.specs.Frames.{IsFrame, concat_frames, AreConsecutiveFrom}
use Rattle.frame_transport.specs.declared.format.Frame.{Frame}

-- a stream is these frames from one offset to another
pub record AreFramesBetween (stream : List ℕ) (from to : ℕ) (frames : List Frame) : Type 0 where
  pub each : All IsFrame frames
  pub places : AreConsecutiveFrom from frames
  pub whole : drop from stream ≡ concat_frames frames ++ drop to stream
  pub end : to ≡ from + length (concat_frames frames)
