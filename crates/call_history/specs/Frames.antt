-- The frames that were sent (this project's own format, over the Protocol Buffers encoding).
use Rattle.std.specs.Prelude.{ℕ, ◌==◌, List, [], ◌∷◌, ◌++◌, option_map, unwrap_or, if◌then◌else◌}
use Rattle.mrpc_table.specs.Calls.{call_kind_of}
use Rattle.mrpc_table.specs.declared.call.Call.{Call}
use Rattle.mrpc_table.specs.declared.table.Table.{Table}
use Rattle.frame_transport.specs.Bytes.{frame_bytes}
use Rattle.frame_transport.specs.CallKinds.{frame_kind_of}
use Rattle.frame_transport.specs.declared.format.TheConstants.{VERSION}
use Rattle.call_history.specs.Trace.{Trace, form}
use Rattle.call_history.specs.Legal.{History, trace_of}
use Rattle.call_history.specs.Rules.{payload}
use Rattle.call_history.specs.declared.happening.Happening.{Happening}
use Rattle.call_history.specs.declared.happening.Happening.TheVariants.{Sent}

-- the number in a call's frame: a request's own, and for a reply that of the request it answers
abbrev pub number_in_frame : Call → ℕ
number_in_frame call = if call.number == 0 then call.seq else call.number

-- the frame of a call
abbrev pub frame_of : Table → Call → List ℕ
frame_of T call =
    frame_bytes (frame_kind_of (call_kind_of call.number)) VERSION call.method call.conn (number_in_frame call) (payload T call)

-- the frames that an event sends, given the trace before it: for `Sent` the frame of the call's form
abbrev pub frames_sent_by : Table → ℕ → Happening → Trace → List (List ℕ)
frames_sent_by T conn (Sent seq bytes) past = unwrap_or (option_map (frame_of T) (form conn seq past)) [] ∷ []
frames_sent_by T conn _ past = []

-- the frames of a connection, in order
abbrev pub frames_of_trace : Table → ℕ → Trace → List (List ℕ)
frames_of_trace T conn [] = []
frames_of_trace T conn (last ∷ past) = frames_of_trace T conn past ++ frames_sent_by T conn last past

-- the frames of all connections, in order
abbrev pub frames_after : Table → History → History → List (List ℕ)
frames_after T before [] = []
frames_after T before (x ∷ h) = frames_sent_by T x.conn x.what (trace_of x.conn before) ++ frames_after T (before ++ x ∷ []) h

abbrev pub frames : Table → History → List (List ℕ)
frames T h = frames_after T [] h
