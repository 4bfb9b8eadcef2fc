-- The code's own: what a feed keeps, and how a piece changes it.
use Rattle.std.specs.Prelude.{◌≡◌, ℕ, ◌+◌, ◌<◌, ◌^◌, List, [], ◌++◌, length, All, Option, None}
use Rattle.frame_transport.specs.Frames.{IsFrame, concat_frames, AreConsecutiveFrom, IsPartial, IsSplitOf, HasHeaderFault}
use Rattle.frame_transport.specs.declared.fault.FeedFault.{FeedFault}
use Rattle.frame_transport.specs.declared.format.Frame.{Frame}

-- what a feed keeps of its stream: whole frames, and the bytes after them
pub record FeedParts : Type 0 where
  pub waiting : List Frame  -- the whole frames that were not taken yet, the oldest first
  pub end : ℕ  -- the offset after them in the stream
  pub begun : List ℕ  -- the bytes after them, up to the first fault or further

-- Whole frames follow each other from this offset on, and less than a whole frame after them. All bytes that were fed
-- can be counted, including those that were fed after the kept ones.
pub record IsFeedState (taken : ℕ) (waiting : List Frame) (end : ℕ) (begun : List ℕ) (behind : ℕ) : Type 0 where
  pub each : All IsFrame waiting
  pub places : AreConsecutiveFrom taken waiting
  pub ends : end ≡ taken + length (concat_frames waiting)
  pub partial : IsPartial begun
  pub room : end + length begun + behind < 2 ^ 63

-- A piece came after what a feed kept. The frames that end in it are appended to the waiting ones. The bytes after them
-- are all kept, or if they have a fault, a prefix with this fault is kept, and the others are dropped.
pub record IsAdvance (before : FeedParts) (piece : List ℕ) (after : FeedParts) (dropped : ℕ)
    (fault : Option FeedFault) : Type 0 where
  pub ended : List Frame
  pub waiting : after.waiting ≡ before.waiting ++ ended
  pub unkept : List ℕ
  pub splits : IsSplitOf before.end (before.begun ++ piece) ended (after.begun ++ unkept)
  pub end : after.end ≡ before.end + length (concat_frames ended)
  pub first : HasHeaderFault after.end after.begun fault
  pub count : length unkept ≡ dropped
  pub clean : fault ≡ None → unkept ≡ []
