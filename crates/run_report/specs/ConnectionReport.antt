-- The report of a connection after a run (this project's own format).
use Rattle.std.specs.Prelude.{◌≡◌, ℕ, ◌-◌, Bool, true, false, List, [], ◌∷◌, ◌++◌, length, map, Option, Some, None}
use Rattle.std.specs.List.{flat_map}
use Rattle.mrpc_table.specs.Text.{line}
use Rattle.mrpc_table.specs.declared.table.Table.{Table}
use Rattle.frame_transport.specs.Frames.{IsSplitOf}
use Rattle.frame_transport.specs.declared.fault.FeedFault.{FeedFault}
use Rattle.frame_transport.specs.declared.format.Frame.{Frame}
use Rattle.receive_core.specs.ReceiverTraces.{ReceiverTrace, taken_frames}
use Rattle.call_history.specs.declared.happening.ConnectionEvent.{ConnectionEvent}
use Rattle.call_history.specs.declared.happening.Happening.{Happening}
use Rattle.conn_core.specs.Connections.{Connection, conn_state}
use Rattle.message_delivery.specs.declared.arrivals.ArrivalLine.{ArrivalLine}
use Rattle.audit_text.specs.Lines.{audit}
use Rattle.connection_audit.specs.Pending.{pending_lines}
use Rattle.run_report.specs.Lines.{JudgingPolicy, arrival_words, cut_words, not_held_words, short_words, waits_words}

-- ---- events

abbrev pub as_connection_event : ℕ → Happening → ConnectionEvent
as_connection_event conn what = record { conn = conn; what = what }

-- the audit of all events on a connection
abbrev pub history_lines : Connection → List ℕ
history_lines c = audit c.table (map (as_connection_event c.conn) c.happenings)

-- the lines of its pending calls
abbrev pub pending_call_lines : Connection → List ℕ
pending_call_lines c = pending_lines c.conn (conn_state c)

-- ---- arrivals

abbrev pub arrivals_text : Table → JudgingPolicy → ℕ → List ArrivalLine → List ℕ
arrivals_text T judging conn arrivals = flat_map (λ a. line (arrival_words T judging conn a)) arrivals

-- the returned numbers that are reported as not held
abbrev pub not_held_text : ℕ → List ℕ → List ℕ
not_held_text conn blocks = flat_map (λ block. line (not_held_words conn block)) blocks

-- Where a stream is cut: at its frame fault or, unless its link failed, at the first byte of an incomplete frame.
abbrev pub cut_text : (conn : ℕ) → (failed : Bool) → Option FeedFault → (place : ℕ) → (rest : List ℕ) → List ℕ
cut_text conn failed (Some fault) place rest = line (cut_words conn fault)
cut_text conn true None place rest = []
cut_text conn false None place [] = []
cut_text conn false None place (byte ∷ rest) = line (short_words conn place)

abbrev pub waits_line : ℕ → Frame → List ℕ
waits_line conn f = line (waits_words conn f.kind f.method f.number)

-- the frames without a fate
abbrev pub waiting_text : ℕ → List Frame → List ℕ
waiting_text conn frames = flat_map (waits_line conn) frames

-- the text for the remainder of a stream after the handled frames: where it is cut, and the whole frames that wait
pub record IsStreamRemainder (conn : ℕ) (failed : Bool) (life : ReceiverTrace) (text : List ℕ) : Type 0 where
  pub waiting : List Frame
  pub rest : List ℕ
  pub splits : IsSplitOf 0 life.stream (taken_frames life ++ waiting) rest
  pub lines : text ≡ cut_text conn failed life.fault (length life.stream - length rest) rest ++ waiting_text conn
      waiting
