-- Why the reading of an input stops.
use Rattle.std.specs.Prelude.{◌≡◌, ◌≢◌, ℕ, ◌+◌, ◌<◌, ◌≤◌, List, [], codes, length, Some, None}
use Rattle.wire_decode.specs.Faults.{IsFirstDecodeFault}
use Rattle.wire_decode.specs.Reason.{decode_reason_word}
use Rattle.wire_decode.specs.declared.fault.DecodeReason.{DecodeReason}
use Rattle.frame_transport.specs.Frames.{HasNoFrame}
use Rattle.frame_transport.specs.FramesInPlace.{IsFrameAt}
use Rattle.frame_transport.specs.declared.fault.FeedFault.{FeedFault}
use Rattle.frame_transport.specs.declared.fault.FeedFault.TheVariants.{Version, Kind, TooLong, Memory as FeedMemory}
use Rattle.frame_transport.specs.declared.format.Frame.{Frame}
use Rattle.frame_transport.specs.declared.format.TheConstants.{HEADER_LEN, HELLO, METHOD_PLACE}
use Rattle.mrpc_table.specs.declared.table.Table.{Table}
use Rattle.frame_transport.specs.Messages.{payload_message}
use Rattle.frame_view.specs.declared.fault.ReadFault.{ReadFault}
use Rattle.frame_view.specs.declared.fault.ReadFault.TheVariants.{At, Memory}

-- P holds of a fault's line or offset and of its word
abbrev pub OnFault : (ℕ → List ℕ → Type 0) → ReadFault → Type 0
OnFault P (At place word) = P place word.now
OnFault P Memory = Unit {0}

-- The fault of a frame: its offset in the stream and a word. If the table lacks the method, the fault is at
-- the method's first byte, and counts before the payload.
pub data IsFaultOfFrame (T : Table) (f : Frame) (place : ℕ) (word : List ℕ) : Type 0 where
  no_method : f.kind ≢ HELLO → length T.methods ≤ f.method → place ≡ f.place + METHOD_PLACE → word ≡ codes "NoMethod"
      → IsFaultOfFrame T f place word
  in_payload : (reason : DecodeReason) (at : ℕ) → f.kind ≢ HELLO → f.method < length T.methods
      → IsFirstDecodeFault T (payload_message T f) f.payload reason at → place ≡ f.place + HEADER_LEN + at
      → word ≡ decode_reason_word reason → IsFaultOfFrame T f place word

-- the offset and the word of the fault of a header
abbrev pub IsFaultOfHeader : FeedFault → ℕ → List ℕ → Type 0
IsFaultOfHeader (Version at value) place word = (place ≡ at) × (word ≡ codes "Version")
IsFaultOfHeader (Kind at value) place word = (place ≡ at) × (word ≡ codes "Kind")
IsFaultOfHeader (TooLong at value) place word = (place ≡ at) × (word ≡ codes "TooLong")
IsFaultOfHeader FeedMemory place word = ⊥

-- No frame is a prefix of these bytes, the remainder of a stream from an offset: the header is at fault, or
-- the stream ends inside a frame.
pub data IsFramingFault (start : ℕ) (bytes : List ℕ) (place : ℕ) (word : List ℕ) : Type 0 where
  in_header : (fault : FeedFault) → HasNoFrame start bytes (Some fault) → IsFaultOfHeader fault place word
      → IsFramingFault start bytes place word
  too_short : HasNoFrame start bytes None → bytes ≢ [] → place ≡ start → word ≡ codes "Short"
      → IsFramingFault start bytes place word

-- The next frame is at fault: no frame is a prefix of the bytes, or the frame has a method that the table
-- lacks, or a payload that means no message.
pub data IsFaultOfNext (T : Table) (start : ℕ) (bytes : List ℕ) (place : ℕ) (word : List ℕ) : Type 0 where
  of_framing : IsFramingFault start bytes place word → IsFaultOfNext T start bytes place word
  of_frame : (f : Frame) → IsFrameAt start bytes f → IsFaultOfFrame T f place word
      → IsFaultOfNext T start bytes place word
