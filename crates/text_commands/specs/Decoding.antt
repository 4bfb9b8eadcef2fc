-- What `decode` prints for a stream of frames: a line for each frame, up to the first fault.
use Rattle.std.specs.Prelude.{◌≡◌, ◌≢◌, ℕ, ◌+◌, ◌<◌, ◌≤◌, List, [], ◌∷◌, ◌++◌, length, codes, All, None}
use Rattle.std.specs.Fmt.{decimal}
use Rattle.mrpc_table.specs.Node.{Node}
use Rattle.mrpc_table.specs.Text.{line}
use Rattle.mrpc_table.specs.declared.table.Table.{Table}
use Rattle.wire_base.specs.Encoding.{encoding}
use Rattle.wire_decode.specs.Means.{Means}
use Rattle.wire_decode.specs.Faults.{IsFirstDecodeFault}
use Rattle.wire_decode.specs.Reason.{decode_reason_word}
use Rattle.wire_decode.specs.declared.fault.DecodeReason.{DecodeReason}
use Rattle.frame_transport.specs.Frames.{IsFrame, AreConsecutiveFrom, IsSplitOf, concat_frames, IsFaultAt, HasHeaderFault}
use Rattle.frame_transport.specs.declared.format.Frame.{Frame}
use Rattle.frame_transport.specs.declared.format.TheConstants.{HEADER_LEN, HELLO, METHOD_PLACE}
use Rattle.frame_transport.specs.declared.fault.FeedFault.{FeedFault}
use Rattle.frame_transport.specs.declared.fault.FeedFault.TheVariants.{Version, Kind, TooLong, Memory}
use Rattle.frame_transport.specs.Messages.{payload_message}
use Rattle.audit_text.specs.Lines.{hex_word}

abbrev pub hello_line : Frame → List ℕ
hello_line f = line (codes "hello" ∷ decimal f.conn ∷ decimal (length f.payload) ∷ [])

-- the line of a request or a reply, given the encoding of its message
abbrev pub call_line : Frame → List ℕ → List ℕ
call_line f bytes = line (codes "frame" ∷ decimal f.kind ∷ decimal f.method ∷ decimal f.conn ∷ decimal f.number
    ∷ hex_word bytes ∷ [])

-- the line of a frame
pub data IsLineOfFrame (T : Table) (f : Frame) (text : List ℕ) : Type 0 where
  line_of_hello : f.kind ≡ HELLO → text ≡ hello_line f → IsLineOfFrame T f text
  line_of_call : (t : Node) → f.kind ≢ HELLO → f.method < length T.methods → Means T (payload_message T f) f.payload t
      → text ≡ call_line f (encoding T (payload_message T f) t) → IsLineOfFrame T f text

-- the text is the lines of the frames, in order
abbrev pub AreLinesOf : Table → List Frame → List ℕ → Type 0
AreLinesOf T [] text = text ≡ []
AreLinesOf T (f ∷ fs) text = (first : List ℕ) × (rest : List ℕ) × IsLineOfFrame T f first × AreLinesOf T fs rest
    × (text ≡ first ++ rest)

-- The fault of a frame, as the command prints it: its offset in the stream and a word. If the table lacks the
-- method, the fault is at the method's first byte, and counts before the payload.
pub data IsFaultOfFrame (T : Table) (f : Frame) (place : ℕ) (word : List ℕ) : Type 0 where
  no_method : f.kind ≢ HELLO → length T.methods ≤ f.method → place ≡ f.place + METHOD_PLACE → word ≡ codes "NoMethod"
      → IsFaultOfFrame T f place word
  in_payload : (reason : DecodeReason) (at : ℕ) → f.kind ≢ HELLO → f.method < length T.methods
      → IsFirstDecodeFault T (payload_message T f) f.payload reason at → place ≡ f.place + HEADER_LEN + at
      → word ≡ decode_reason_word reason → IsFaultOfFrame T f place word

-- the fault of a header, as the command prints it
abbrev pub IsFaultOfHeader : FeedFault → ℕ → List ℕ → Type 0
IsFaultOfHeader (Version at value) place word = (place ≡ at) × (word ≡ codes "Version")
IsFaultOfHeader (Kind at value) place word = (place ≡ at) × (word ≡ codes "Kind")
IsFaultOfHeader (TooLong at value) place word = (place ≡ at) × (word ≡ codes "TooLong")
IsFaultOfHeader Memory place word = ⊥

-- these frames are a prefix of the stream, whose first byte has the offset `start`
pub record AreFirstFrames (start : ℕ) (stream : List ℕ) (frames : List Frame) : Type 0 where
  pub more : List ℕ
  pub whole : stream ≡ concat_frames frames ++ more
  pub each : All IsFrame frames
  pub places : AreConsecutiveFrom start frames

-- the stream is whole frames to its end, and the text is their lines
pub record IsDecoded (T : Table) (stream text : List ℕ) : Type 0 where
  pub frames : List Frame
  pub splits : IsSplitOf 0 stream frames []
  pub lines : AreLinesOf T frames text

-- The stream, whose first byte has the offset `start`, has this first fault, and the text is the lines of the
-- frames before it: a frame is at fault, or the header after the whole frames, or the stream ends inside a
-- frame.
pub data IsCutAt (T : Table) (start : ℕ) (stream text : List ℕ) (place : ℕ) (word : List ℕ) : Type 0 where
  in_frame : (before : List Frame) (f : Frame) → AreFirstFrames start stream (before ++ f ∷ [])
      → AreLinesOf T before text → IsFaultOfFrame T f place word → IsCutAt T start stream text place word
  in_header : (frames : List Frame) (rest : List ℕ) (fault : FeedFault) → IsSplitOf start stream frames rest
      → AreLinesOf T frames text → IsFaultAt (start + length (concat_frames frames)) rest fault
      → IsFaultOfHeader fault place word → IsCutAt T start stream text place word
  in_short_frame : (frames : List Frame) (rest : List ℕ) → IsSplitOf start stream frames rest → AreLinesOf T frames text
      → HasHeaderFault (start + length (concat_frames frames)) rest None → rest ≢ []
      → place ≡ start + length (concat_frames frames)
      → word ≡ codes "Short" → IsCutAt T start stream text place word
