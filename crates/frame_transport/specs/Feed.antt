-- The data of a feed.
use Rattle.std.specs.Prelude.{◌≡◌, ℕ, ◌+◌, List, ◌++◌, length, Some}
use Rattle.frame_transport.specs.Frames.{IsFrame, bytes_of_frame, HasFaultSoFar}
use Rattle.frame_transport.specs.declared.format.Frame.{Frame}
use Rattle.frame_transport.specs.declared.fault.FeedFault.{FeedFault}

-- the part of a stream that was fed and isn't in a frame that was taken
pub record FeedState : Type 0 where
  pub place : ℕ  -- the offset of its first byte in the stream
  pub bytes : List ℕ  -- its bytes, up to the first fault or further
  pub behind : ℕ  -- how many bytes came after these: they are past a fault and not kept

-- how many bytes were fed
abbrev pub total_fed : FeedState → ℕ
total_fed fed = fed.place + length fed.bytes + fed.behind

-- old gave its first frame, and new is the remainder
pub record IsNextFrame (old : FeedState) (f : Frame) (new : FeedState) : Type 0 where
  pub frame : IsFrame f
  pub first : old.bytes ≡ bytes_of_frame f ++ new.bytes
  pub place : f.place ≡ old.place
  pub left : new.place ≡ old.place + length (bytes_of_frame f)
  pub behind : new.behind ≡ old.behind

-- new is old with this piece, up to the fault or further
pub record HasStoppedAt (old : FeedState) (piece : List ℕ) (fault : FeedFault) (new : FeedState) : Type 0 where
  pub place : new.place ≡ old.place
  pub kept : HasFaultSoFar old.place new.bytes (Some fault)
  pub dropped : List ℕ
  pub stream : old.bytes ++ piece ≡ new.bytes ++ dropped
  pub behind : new.behind ≡ old.behind + length dropped

-- new is old with this piece appended
pub record IsFedBy (old : FeedState) (piece : List ℕ) (new : FeedState) : Type 0 where
  pub place : new.place ≡ old.place
  pub bytes : new.bytes ≡ old.bytes ++ piece
  pub behind : new.behind ≡ old.behind
