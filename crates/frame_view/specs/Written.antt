-- What is written for an input.
use Rattle.std.specs.Prelude.{ℕ, List, [], drop, Option}
use Rattle.std.specs.Io.KnownBytes.{Appends}
use Rattle.mrpc_table.specs.declared.table.Table.{Table}
use Rattle.frame_transport.specs.Frames.{IsSplitOf}
use Rattle.frame_transport.specs.declared.format.Frame.{Frame}
use Rattle.frame_view.specs.Faults.{OnFault, IsFaultOfNext}
use Rattle.frame_view.specs.Input.{IsInputOf, IsInputTextFault}
use Rattle.frame_view.specs.FrameRanges.{AreFramesBetween}
use Rattle.frame_view.specs.Views.{AreViewsOf}
use Rattle.frame_view.specs.declared.views.ViewError.{ViewError}
use Rattle.frame_view.specs.declared.views.ViewError.TheVariants.{Read, Out}

-- P holds of the location and the word of a fault of the input
abbrev pub OnViewError : (ℕ → List ℕ → Type 0) → ViewError → Type 0
OnViewError P (Read fault) = OnFault P fault
OnViewError P Out = Unit {0}

-- the input is a table's text and whole frames, and the view of all of them was written
pub record HasViewedText (text : List ℕ) (out out' : Option (List ℕ)) : Type 0 where
  pub table : Table
  pub stream : List ℕ
  pub holds : IsInputOf text table stream
  pub frames : List Frame
  pub splits : IsSplitOf 0 stream frames []
  pub shown : List ℕ
  pub views : AreViewsOf table frames shown
  pub written : Appends out out' shown

-- The input has this first fault: in its text, and nothing was written; or in its frames, and the view of the
-- frames before it was written.
pub data HasViewedToFault (text : List ℕ) (out out' : Option (List ℕ)) (place : ℕ) (word : List ℕ) : Type 0 where
  in_text : IsInputTextFault text place word → Appends out out' [] → HasViewedToFault text out out' place word
  in_stream : (T : Table) (stream shown : List ℕ) (to : ℕ) (frames : List Frame) → IsInputOf text T stream
      → AreFramesBetween stream 0 to frames → AreViewsOf T frames shown → IsFaultOfNext T to (drop to stream) place word
      → Appends out out' shown → HasViewedToFault text out out' place word
