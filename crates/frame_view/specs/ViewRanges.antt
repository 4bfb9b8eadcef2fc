-- The code's own: views of consecutive frames of a stream.
use Rattle.std.specs.Prelude.{ℕ, List, Option}
use Rattle.std.specs.Io.KnownBytes.{Appends}
use Rattle.mrpc_table.specs.declared.table.Table.{Table}
use Rattle.frame_transport.specs.declared.format.Frame.{Frame}
use Rattle.frame_view.specs.FrameRanges.{AreFramesBetween}
use Rattle.frame_view.specs.Views.{AreViewsOf}

-- the stream is frames from one offset to another, and the text is their view
pub record IsLinesOf (T : Table) (stream : List ℕ) (from to : ℕ) (text : List ℕ) : Type 0 where
  pub frames : List Frame
  pub stands : AreFramesBetween stream from to frames
  pub views : AreViewsOf T frames text

-- the view of the frames up to an offset was written
pub record HasWrittenViews (T : Table) (stream : List ℕ) (to : ℕ) (out out' : Option (List ℕ)) : Type 0 where
  pub text : List ℕ
  pub shows : IsLinesOf T stream 0 to text
  pub written : Appends out out' text
