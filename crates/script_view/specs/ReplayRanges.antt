-- The lines that replay consecutive frames.
use Rattle.std.specs.Prelude.{◌≡◌, ℕ, ◌+◌, max, List, [], ◌∷◌, ◌++◌, length, drop, slice_set}
use Rattle.mrpc_table.specs.declared.table.Table.{Table}
use Rattle.graph_form.specs.declared.placed.Placed.{Placed}
use Rattle.frame_transport.specs.FramesInPlace.{IsFrameAt}
use Rattle.frame_transport.specs.declared.format.Frame.{Frame}
use Rattle.frame_transport.specs.declared.format.TheConstants.{HELLO}
use Rattle.frame_view.specs.Faults.{IsFaultOfNext}
use Rattle.frame_view.specs.FrameRanges.{AreFramesBetween}
use Rattle.script_view.specs.Playing.{hello_comment, lines_of_call}
use Rattle.script_view.specs.Unplayable.{CallCounts, last_number, IsReplayedBy, IsUnplayable}
use Rattle.script_view.specs.declared.calls.ReplayCalls.{ReplayCalls}

-- the code's own: the calls that were counted
abbrev pub call_counts_of : ReplayCalls → CallCounts
call_counts_of calls = record { counts = calls.counts; calls = calls.total; loads = calls.loads }

-- the lines that replay a frame, after the calls so far
pub data IsReplayOfFrame (T : Table) (before : CallCounts) (f : Frame) (text : List ℕ) (after : CallCounts)
    : Type 0 where
  plays_hello : f.kind ≡ HELLO → text ≡ hello_comment → after ≡ before → IsReplayOfFrame T before f text after
  plays_call : (blanks : ℕ) (placed : Placed) → IsReplayedBy T before f blanks placed
      → text ≡ lines_of_call f (last_number before f) blanks placed.words
      → after ≡ record {
        counts = slice_set before.counts f.conn (last_number before f + blanks + 1);
        calls = before.calls + blanks + 1;
        loads = max before.loads (length placed.words);
      } → IsReplayOfFrame T before f text after

abbrev pub IsReplayOfFrames : Table → CallCounts → List Frame → List ℕ → CallCounts → Type 0
IsReplayOfFrames T before [] text after = (text ≡ []) × (after ≡ before)
IsReplayOfFrames T before (f ∷ fs) text after = (first : List ℕ) × (rest : List ℕ) × (mid : CallCounts)
    × IsReplayOfFrame T before f first mid × IsReplayOfFrames T mid fs rest after × (text ≡ first ++ rest)

-- the stream is frames from one offset to another, and the text has the lines that replay them
pub record IsReplayBetween (T : Table) (stream : List ℕ) (from to : ℕ) (before : CallCounts) (text : List ℕ)
    (after : CallCounts) : Type 0 where
  pub frames : List Frame
  pub stands : AreFramesBetween stream from to frames
  pub plays : IsReplayOfFrames T before frames text after

-- the next frame at an offset of a stream is at fault, or no replay can send it after the calls so far
pub data IsStopOfNext (T : Table) (stream : List ℕ) (from : ℕ) (before : CallCounts) (size place : ℕ) (word : List ℕ)
    : Type 0 where
  at_fault : IsFaultOfNext T from (drop from stream) place word → IsStopOfNext T stream from before size place word
  unplayable : (f : Frame) → IsFrameAt from (drop from stream) f → IsUnplayable T before size f place word
      → IsStopOfNext T stream from before size place word

-- there is a fault like this after frames that can be replayed
pub record IsFirstStop (T : Table) (stream : List ℕ) (before : CallCounts) (place : ℕ) (word : List ℕ) : Type 0 where
  pub to : ℕ
  pub text : List ℕ
  pub after : CallCounts
  pub plays : IsReplayBetween T stream 0 to before text after
  pub here : IsStopOfNext T stream to after (length text) place word
