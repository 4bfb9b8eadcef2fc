-- The frames of a stream that had their fates, over the trace of a connection.
use Rattle.std.specs.Prelude.{◌≡◌, ℕ, ◌+◌, List, [], ◌∷◌, ◌++◌, length, All, None}
use Rattle.frame_transport.specs.Feed.{FeedState, IsNextFrame, IsFedBy, HasStoppedAt}
use Rattle.frame_transport.specs.Frames.{IsFrame, IsFaultAt, IsSplitOf, HasFaultSoFar, AreConsecutiveFrom, concat_frames}
use Rattle.frame_transport.specs.declared.format.Frame.{Frame}
use Rattle.frame_transport.specs.declared.fault.FeedFault.{FeedFault}

-- These frames were taken from a stream, and `after_piece` is kept of it. While the stream has no fault, it is the
-- frames followed by the kept bytes. From its first fault on, the kept bytes have the frames before the fault
-- that weren't taken.
pub data HasTaken (stream : List ℕ) (frames : List Frame) (fed : FeedState) : Type 0 where
  without_fault : All IsFrame frames → AreConsecutiveFrom 0 frames → stream ≡ concat_frames frames ++ fed.bytes
      → fed.place ≡ length (concat_frames frames) → HasTaken stream frames fed
  after_fault : (later : List Frame) (rest tail : List ℕ) (fault : FeedFault) → IsSplitOf fed.place fed.bytes later rest
      → IsFaultAt (fed.place + length (concat_frames later)) rest fault → IsSplitOf 0 stream (frames ++ later) tail
      → IsFaultAt (length (concat_frames (frames ++ later))) tail fault → HasTaken stream frames fed

-- initially nothing was taken
abbrev pub IsTakenInitially : Type 0
IsTakenInitially = HasTaken [] [] (record { place = 0; bytes = []; behind = 0 })

-- a piece is appended to the stream, without and with a fault so far
abbrev pub IsTakenAfterPiece : Type 0
IsTakenAfterPiece = (stream : List ℕ) (frames : List Frame) (old : FeedState) (piece : List ℕ) (new : FeedState)
    → HasTaken stream frames old → IsFedBy old piece new → HasFaultSoFar old.place (old.bytes ++ piece) None
    → HasTaken (stream ++ piece) frames new

abbrev pub IsTakenAfterFault : Type 0
IsTakenAfterFault = (stream : List ℕ) (frames : List Frame) (old : FeedState) (piece : List ℕ) (fault : FeedFault)
    (new : FeedState)
    → HasTaken stream frames old → HasStoppedAt old piece fault new → HasTaken (stream ++ piece) frames new

-- the frame that is taken comes after those before it
abbrev pub IsTakenAfterFrame : Type 0
IsTakenAfterFrame = (stream : List ℕ) (frames : List Frame) (old : FeedState) (f : Frame) (new : FeedState)
    → HasTaken stream frames old → IsNextFrame old f new → HasTaken stream (frames ++ f ∷ []) new

-- the taken frames are a prefix of the frames of the stream
abbrev pub IsTakenPrefix : Type 0
IsTakenPrefix = (stream : List ℕ) (frames : List Frame) (fed : FeedState) (whole : List Frame) (rest : List ℕ)
    → HasTaken stream frames fed → IsSplitOf 0 stream whole rest → (more : List Frame) × (whole ≡ frames ++ more)
