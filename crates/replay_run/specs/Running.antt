-- What the run of a script writes (this project's own).
use Rattle.std.specs.Prelude.{◌≡◌, ℕ, ◌<◌, ◌≤◌, ◌⊎◌, List, [], ◌∷◌, ◌++◌, length, take, Option}
use Rattle.std.specs.List.{flat_map}
use Rattle.std.specs.Io.KnownBytes.{Appends}
use Rattle.mrpc_table.specs.declared.call.Call.{Call}
use Rattle.replay_script.specs.declared.script.ScriptLine.{ScriptLine}
use Rattle.replay_script.specs.declared.script.ScriptLine.TheVariants as line
use Rattle.replay_script.specs.declared.script.Script.{Script}
use Rattle.call_history.specs.Draining.{HasPartlyDrained}
use Rattle.call_history.specs.Frames.{frames, frame_of}
use Rattle.audit_text.specs.Lines.{audit}
use Rattle.replay_run.specs.Follows.{ScriptState, OpenConnection, IsScriptStep, IsStateAfter, Follows, FollowsUntil, IsRunToFailedSend, IsLineStep, start, script_context, with_state}
use Rattle.replay_run.specs.PendingLines.{all_stands_lines}

-- the bytes of some frames, one after another
abbrev pub joined_frames : List (List ℕ) → List ℕ
joined_frames frames = flat_map (λ frame. frame) frames

-- the text of the events, and then of the pending calls
abbrev pub full_text : Script → ScriptState → List ℕ
full_text s end = audit s.table end.history ++ all_stands_lines end.opened

-- the frames of the sent calls
abbrev pub sent_frames : Script → ScriptState → List ℕ
sent_frames s end = joined_frames (frames s.table end.history)

-- the script was run in full
pub record IsFullRun (s : Script) (out out' wire wire' : Option (List ℕ)) : Type 0 where
  pub end : ScriptState
  pub follows : Follows s end
  pub told : Appends out out' (full_text s end)
  pub handed : Appends wire wire' (sent_frames s end)

-- the frames of the calls that were sent are followed by a prefix of another call's frame, and not by all of it
pub record IsPartlySent (s : Script) (tried : Call) (end : ScriptState) (wire wire' : Option (List ℕ)) : Type 0 where
  pub many : ℕ
  pub fewer : many < length (frame_of s.table tried)
  pub handed : Appends wire wire' (sent_frames s end ++ take many (frame_of s.table tried))

-- The script was run up to a send that failed, of a call whose frame wasn't sent whole.
pub record IsBrokenRun (s : Script) (out out' wire wire' : Option (List ℕ)) : Type 0 where
  pub end : ScriptState
  pub tried : Call
  pub follows : FollowsUntil s tried end
  pub told : Appends out out' (full_text s end)
  pub handed : IsPartlySent s tried end wire wire'

-- ---- runs that end out of memory, or because the audit can't be written

-- a line was started, and led from one state to another
pub data HasBegunLine (s : Script) (old : ScriptState) (l : ScriptLine) (new : ScriptState) : Type 0 where
  not_at_all : new ≡ old → HasBegunLine s old l new
  whole : IsScriptStep s old l new → HasBegunLine s old l new
  -- turns and sends of a drain
  partly : (one other : OpenConnection) → l ≡ line.Drain one.conn
      → HasPartlyDrained (script_context s one.conn) one.course other.course → other ≡ with_state one other.course
      → IsLineStep old one other new → HasBegunLine s old l new

-- the first of the lines that aren't run was begun
pub record HasBegunNext (s : Script) (before : ScriptState) (behind : List ScriptLine) (end : ScriptState)
    : Type 0 where
  pub next : ScriptLine
  pub others : List ScriptLine
  pub order : behind ≡ next ∷ others
  pub begun : HasBegunLine s before next end

-- some lines of a script were run, up to the first state, and then the next line was begun, or none was
pub record IsPartialRun (s : Script) (before end : ScriptState) : Type 0 where
  -- the lines that were run, and the others
  pub lines : List ScriptLine
  pub behind : List ScriptLine
  pub order : s.lines ≡ lines ++ behind
  pub leads : IsStateAfter s start lines before
  pub begun : (end ≡ before) ⊎ HasBegunNext s before behind end

-- what may be written if these lines remain: the events, and the pending calls only if no line remains
abbrev pub partial_text : Script → List ScriptLine → ScriptState → List ℕ
partial_text s [] end = full_text s end
partial_text s (l ∷ lines) end = audit s.table end.history

-- a prefix of a text was printed, with at least all events before the last line
pub record HasPrintedPrefix (s : Script) (before : ScriptState) (all : List ℕ) (out out' : Option (List ℕ))
    : Type 0 where
  -- the length of the prefix
  pub many : ℕ
  pub least : length (audit s.table before.history) ≤ many
  pub most : many ≤ length all
  pub told : Appends out out' (take many all)

-- The run stopped: with all frames of the calls that were sent, or after a send that failed. So each send that is
-- printed is on the wire, and those that aren't printed are of one line. A pending call is printed only if no line is
-- left to run: after the last one, or after the one whose send failed.
pub data IsStoppedRun (s : Script) (out out' wire wire' : Option (List ℕ)) : Type 0 where
  stops_in : (before end : ScriptState) (runs : IsPartialRun s before end)
      → HasPrintedPrefix s before (partial_text s runs.behind end) out out'
      → Appends wire wire' (sent_frames s end) → IsStoppedRun s out out' wire wire'
  stops_behind : (end : ScriptState) (tried : Call) (leads : IsRunToFailedSend s tried end)
      → HasPrintedPrefix s leads.before (full_text s end) out out' → IsPartlySent s tried end wire wire'
      → IsStoppedRun s out out' wire wire'
