-- The code's own: how the lines of frames are built up, frame by frame.
use Rattle.std.specs.Prelude.{◌≡◌, ◌⊎◌, ℕ, ◌+◌, List, ◌++◌, length, drop, All, Option}
use Rattle.mrpc_table.specs.declared.table.Table.{Table}
use Rattle.frame_transport.specs.Frames.{IsFrame, concat_frames, AreConsecutiveFrom}
use Rattle.frame_transport.specs.declared.format.Frame.{Frame}
use Rattle.text_commands.specs.Decoding.{AreLinesOf, IsDecoded, IsCutAt}
use Rattle.text_commands.specs.FaultLines.{HasWrittenPrefix}

-- the stream is frames from one offset to another, and the text is their lines
pub record AreLinesBetween (T : Table) (stream : List ℕ) (from to : ℕ) (text : List ℕ) : Type 0 where
  pub frames : List Frame
  pub lines : AreLinesOf T frames text
  pub each : All IsFrame frames
  pub places : AreConsecutiveFrom from frames
  pub whole : drop from stream ≡ concat_frames frames ++ drop to stream
  pub end : to ≡ from + length (concat_frames frames)

-- the text is the lines of all frames of the stream, or of the frames before its first fault
abbrev pub AreAllLines : Table → List ℕ → List ℕ → Type 0
AreAllLines T stream text =
    IsDecoded T stream text ⊎ ((place : ℕ) × (word : List ℕ) × IsCutAt T 0 stream text place word)

-- a prefix of all lines of the stream was written
pub record HasDecodedPrefix (T : Table) (stream : List ℕ) (out out' : Option (List ℕ)) : Type 0 where
  pub lines : List ℕ
  pub all_told : AreAllLines T stream lines
  pub written : HasWrittenPrefix out out' lines
