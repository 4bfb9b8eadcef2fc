-- The calls of a script so far, and the frames that no replay can send after them.
use Rattle.std.specs.Prelude.{◌≡◌, ◌≢◌, ℕ, ◌+◌, ◌*◌, ◌<◌, ◌≤◌, max, List, codes, length, slice_index}
use Rattle.mrpc_table.specs.Node.{Node}
use Rattle.mrpc_table.specs.declared.limits.TheConstants.{MAX_LOADS}
use Rattle.mrpc_table.specs.declared.table.Table.{Table}
use Rattle.graph_form.specs.declared.placed.Placed.{Placed}
use Rattle.graph_place.specs.Size.{tree_words}
use Rattle.graph_place.specs.Stored.{IsPlacedIn}
use Rattle.frame_transport.specs.declared.format.Frame.{Frame}
use Rattle.frame_transport.specs.declared.format.TheConstants.{HEADER_LEN, HELLO}
use Rattle.frame_view.specs.Contents.{IsMessageOfFrame}
use Rattle.frame_transport.specs.Messages.{payload_message}
use Rattle.replay_script.specs.declared.limits.TheConstants.{MAX_CONNECTIONS, MAX_WORK}
use Rattle.script_view.specs.Playing.{IsNumberedAfter, lines_of_call, hello_comment}
use Rattle.script_view.specs.declared.limits.TheConstants.{FIRST_PLACE, MAX_REPLAY_WORDS, MAX_BODY}

-- the number of the last call of each connection, by its index, the total number of calls, and the most loads
-- that one of them takes
pub record CallCounts : Type 0 where
  pub counts : List ℕ
  pub calls : ℕ
  pub loads : ℕ

-- the number of the last call of a frame's connection
abbrev pub last_number : CallCounts → Frame → ℕ
last_number made f = slice_index made.counts f.conn

-- a message is in these words of a heap, from the first place on, and a copy of it takes at most the loads
-- that it may take
pub record IsLaidOut (T : Table) (msg : ℕ) (t : Node) (placed : Placed) : Type 0 where
  pub stands : IsPlacedIn T MAX_REPLAY_WORDS msg t FIRST_PLACE (tree_words T msg t) placed
  pub few : length placed.words ≤ MAX_LOADS

-- a connection that a script may have
pub record IsReplayConn (conn : ℕ) : Type 0 where
  pub first : 1 ≤ conn
  pub last : conn ≤ MAX_CONNECTIONS

-- a request or a reply can be sent by this number of submissions without a message, and one with these words
pub record IsReplayedBy (T : Table) (before : CallCounts) (f : Frame) (blanks : ℕ) (placed : Placed) : Type 0 where
  pub tree : Node
  pub message : IsMessageOfFrame T f tree
  pub conn : IsReplayConn f.conn
  pub numbered : IsNumberedAfter f (last_number before f) blanks
  pub laid_out : IsLaidOut T (payload_message T f) tree placed

-- A replay can't send this frame after the calls so far, whose lines have this number of bytes.
pub data IsUnplayable (T : Table) (before : CallCounts) (size : ℕ) (f : Frame) (place : ℕ) (word : List ℕ)
    : Type 0 where
  other_connection : f.kind ≢ HELLO → (IsReplayConn f.conn → ⊥) → place ≡ f.place + 8 → word ≡ codes "Conn"
      → IsUnplayable T before size f place word
  other_number : f.kind ≢ HELLO → IsReplayConn f.conn
      → ((blanks : ℕ) → IsNumberedAfter f (last_number before f) blanks → ⊥)
      → place ≡ f.place + 12 → word ≡ codes "Number" → IsUnplayable T before size f place word
  too_wide : (t : Node) → IsMessageOfFrame T f t → MAX_REPLAY_WORDS ≤ tree_words T (payload_message T f) t
      → place ≡ f.place + HEADER_LEN → word ≡ codes "Words" → IsUnplayable T before size f place word
  too_long : (t : Node) (placed : Placed) → IsMessageOfFrame T f t
      → IsPlacedIn T MAX_REPLAY_WORDS (payload_message T f) t FIRST_PLACE (tree_words T (payload_message T f) t) placed
      → MAX_LOADS < length placed.words → place ≡ f.place + HEADER_LEN → word ≡ codes "Loads"
      → IsUnplayable T before size f place word
  too_much : (blanks : ℕ) (placed : Placed) → IsReplayedBy T before f blanks placed
      → MAX_WORK < (before.calls + blanks + 1) * max before.loads (length placed.words) → place ≡ f.place
      → word ≡ codes "Work" → IsUnplayable T before size f place word
  too_large : (blanks : ℕ) (placed : Placed) → IsReplayedBy T before f blanks placed
      → MAX_BODY < size + length (lines_of_call f (last_number before f) blanks placed.words) → place ≡ f.place
      → word ≡ codes "Size" → IsUnplayable T before size f place word
  hello_too_large : f.kind ≡ HELLO → MAX_BODY < size + length hello_comment → place ≡ f.place → word ≡ codes "Size"
      → IsUnplayable T before size f place word
