-- Frames in place in the bytes of a stream.
use Rattle.std.specs.Prelude.{◌≡◌, ℕ, ◌+◌, List, ◌++◌, length, drop}
use Rattle.frame_transport.specs.Frames.{IsFrame, bytes_of_frame}
use Rattle.frame_transport.specs.declared.format.TheConstants.{HEADER_LEN}
use Rattle.frame_transport.specs.declared.format.Frame.{Frame}
use Rattle.frame_transport.specs.declared.frame_ref.FrameRef.{FrameRef}

-- the frame, with its borrowed payload
abbrev pub owned_frame : FrameRef → Frame
owned_frame f = record {
  kind = f.kind;
  version = f.version;
  method = f.method;
  conn = f.conn;
  number = f.number;
  payload = f.payload.now;
  place = f.place;
}

-- this frame is at the start of the bytes of a stream, which are at this offset
pub record IsFrameAt (place : ℕ) (bytes : List ℕ) (f : Frame) : Type 0 where
  pub frame : IsFrame f
  pub stands : f.place ≡ place
  pub whole : bytes ≡ bytes_of_frame f ++ drop (HEADER_LEN + length f.payload) bytes
