-- The script of an input of `decode`.
use Rattle.std.specs.Prelude.{◌≡◌, ℕ, ◌*◌, ◌≤◌, List, [], ◌∷◌, ◌++◌, codes, length, replicate}
use Rattle.std.specs.Fmt.{decimal}
use Rattle.mrpc_table.specs.Text.{line, table_text}
use Rattle.mrpc_table.specs.declared.table.Table.{Table}
use Rattle.frame_transport.specs.Frames.{IsSplitOf}
use Rattle.frame_transport.specs.declared.format.Frame.{Frame}
use Rattle.frame_view.specs.Input.{IsInputOf, IsInputTextFault}
use Rattle.replay_script.specs.declared.limits.TheConstants.{MAX_WORK}
use Rattle.script_view.specs.Unplayable.{CallCounts}
use Rattle.script_view.specs.ReplayRanges.{IsReplayOfFrames, IsFirstStop}
use Rattle.script_view.specs.declared.limits.TheConstants.{MAX_BODY}

-- a script: its first line, the loads that a call may take, the table, the lines of the frames, and the last line
abbrev pub script_text : Table → ℕ → List ℕ → List ℕ
script_text T loads body =
    codes "mrpc-replay 1\n" ++ (line (codes "loads" ∷ decimal loads ∷ [])
    ++ (codes "table\n" ++ (table_text T ++ (codes "end\n" ++ (body ++ codes "close\n")))))

-- no call was made
abbrev pub empty_counts : CallCounts
empty_counts = record { counts = replicate 17 0; calls = 0; loads = 1 }

-- a replay accepts this number of bytes of lines, and this number of calls, given the loads that each may
-- take
pub record IsReplayable (body : List ℕ) (made : CallCounts) : Type 0 where
  pub short : length body ≤ MAX_BODY
  pub few : made.calls * made.loads ≤ MAX_WORK

-- the script of an input sends all its frames except hellos, in order, within the limits of a replay
pub record IsScriptOf (text script : List ℕ) : Type 0 where
  pub table : Table
  pub stream : List ℕ
  pub holds : IsInputOf text table stream
  pub frames : List Frame
  pub splits : IsSplitOf 0 stream frames []
  pub body : List ℕ
  pub made : CallCounts
  pub plays : IsReplayOfFrames table empty_counts frames body made
  pub fits : IsReplayable body made
  pub whole : script ≡ script_text table made.loads body

-- an input has no script: its text is at fault, or its frames are, or a replay can't send a frame
pub data HasStop (text : List ℕ) (place : ℕ) (word : List ℕ) : Type 0 where
  in_text : IsInputTextFault text place word → HasStop text place word
  in_stream : (T : Table) (stream : List ℕ) → IsInputOf text T stream → IsFirstStop T stream empty_counts place word
      → HasStop text place word
